-- `lapjv_path::search_from` meets its contract.
use mathlib.Core.Path.{◌≡◌}
use mathlib.Core.List.{◌++◌}
use lib.ListN.{drop}
use Rattle.lists.specs.Lists.{tab}
use Rattle.lapjv_walk.specs.Ops.{cost_at, val_at}
use Rattle.costs.specs.OpsOn.{ops}
use Rattle.lapjv_path.proofs.search_from.Given as goal

abbrev pub invariant-loop-j : goal.invariant-loop-j
invariant-loop-j g l = (l.d ≡ tab (λ k. g.C.Cost.on.sub (cost_at (ops g.C.Cost.on) l.n l.cost l.start k) (val_at (ops g.C.Cost.on) l.v k)) l.j ++ drop l.j l.initial.d) × (l.cols ≡ tab (λ k. k) l.j ++ drop l.j l.initial.cols) × (l.pred ≡ tab (λ _. l.start) l.j ++ drop l.j l.initial.pred)
