-- `protocol::words::Words::of` meets its contract.
use Rattle.std.proofs.Common.{arith}
use Rattle.protocol.proofs.Split.{position_or_len-within, words_of-cut}
use Rattle.protocol.proofs.words.Words.of.Goals as goal

pub split_at-requires : goal.split_at-requires
split_at-requires c = omega (arith, position_or_len-within c.args.line.now, c.word_len.ensures)

pub returns : goal.returns
returns c = words_of-cut c.args.line.now _ _ _ c.word_len.ensures c.split_at.ensures.front c.split_at.ensures.back
