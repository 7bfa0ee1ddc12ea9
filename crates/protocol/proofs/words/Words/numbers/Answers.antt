-- `protocol::words::Words::numbers` meets its contract.
use Rattle.std.proofs.Common.{arith, length, drop, ap, ◌∙◌}
use Rattle.std.proofs.lemmas.List.{length-drop, drop-drop}
use Rattle.protocol.specs.Words.{words_left}
use Rattle.protocol.proofs.Split.{FirstIs-within}
use Rattle.protocol.proofs.words.Words.numbers.Goals as goal

pub loop-x-preserved : goal.loop-x-preserved
loop-x-preserved g c =
    let all = words_left c.args.self.now in
    let i = c.loop-x.x-index in
    let had = c.loop-x.invariant.1 in
    let one = FirstIs-within _ (words_left c.loop-x.self) c.in_ok-x.ensures.word in
    (omega (arith, one, ap length had, length-drop i all), c.in_ok-x.ensures.taken ∙ ap (drop 1) had ∙ drop-drop 1 i all)
