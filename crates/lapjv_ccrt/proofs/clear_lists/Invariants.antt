-- `lapjv_ccrt::clear_lists` meets its contract.
use mathlib.Core.Path.{◌≡◌}
use mathlib.Core.List.{◌++◌}
use lib.IntN.{pos}
use lib.ListN.{drop}
use Rattle.lists.specs.Lists.{tab}
use Rattle.lapjv_walk.specs.Marks.{free}
use Rattle.lapjv_ccrt.proofs.clear_lists.Given as goal

abbrev pub invariant-loop-i : goal.invariant-loop-i
invariant-loop-i g l = (l.x ≡ tab (λ _. free) l.i ++ drop l.i l.initial.x) × (l.v ≡ tab (λ _. g.C.Cost.on.large) l.i ++ drop l.i l.initial.v) × (l.y ≡ tab (λ _. pos 0) l.i ++ drop l.i l.initial.y)
