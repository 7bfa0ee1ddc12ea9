-- `protocol::words::Words::end` meets its contract.
use Rattle.std.proofs.Common.{arith}
use Rattle.protocol.proofs.Split.{words_behind-empty}
use Rattle.protocol.proofs.words.Words.end.Goals as goal

pub returns-else-is_empty : goal.returns-else-is_empty
returns-else-is_empty c =
    ((λ e. grind arith), (λ e. let z = words_behind-empty c.args.self.rest.now e in grind arith))
