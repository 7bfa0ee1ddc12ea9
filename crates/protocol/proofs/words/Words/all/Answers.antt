-- `protocol::words::Words::all` meets its contract.
use Rattle.std.proofs.Common.{arith, length, sym, ap, refl, ◌∙◌}
use Rattle.std.proofs.lemmas.List.{length-drop}
use Rattle.protocol.specs.Words.{words_left}
use Rattle.protocol.proofs.words.Words.all.Goals as goal

pub returns : goal.returns
returns g c =
    let taken = c.in_ok-numbers.ensures in
    omega (arith, taken.0, ap length (sym taken.1 ∙ c.in_ok-end.ensures.0 refl), length-drop g.row.N (words_left c.args.self))
