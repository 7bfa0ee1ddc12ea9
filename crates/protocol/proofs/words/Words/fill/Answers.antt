-- `protocol::words::Words::fill` meets its contract.
use Rattle.std.proofs.Common.{◌≡◌, ◌+◌, length, arith, rules, ap}
use Rattle.protocol.proofs.Split.{length-words_behind}
use Rattle.protocol.proofs.words.Words.fill.Goals as goal

pub loop-word-preserved : goal.loop-word-preserved
loop-word-preserved g c =
    let bound = length-words_behind c.args.self.rest.now in
    let came = ap length c.in-Some.ensures.steps in
    let next : c.saturating_add-n.result ≡ c.loop-word.n + 1 = search rules in
    omega (arith, came, next, c.loop-word.invariant)
