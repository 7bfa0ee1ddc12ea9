-- `rules::are_sound` meets its contract.
use mathlib.Core.Path.{◌≡◌}
use lib.ListN.{drop}
use Rattle.frame.specs.State.{live}
use Rattle.rules.specs.Rules.{sound_from}
use Rattle.rules.proofs.are_sound.Given as goal

-- what is left to test decides
abbrev pub invariant-loop-e : goal.invariant-loop-e
invariant-loop-e l =
    let t = l.fn.t in
    sound_from t.settings t.frames t.issued 0 (live t) ≡ sound_from t.settings t.frames t.issued l.from (drop l.e-index (live t))
