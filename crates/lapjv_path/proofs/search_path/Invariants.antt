-- `lapjv_path::search_path` meets its contract.
use Prim.Native.Nat.{◌-◌}
use Rattle.costs.specs.OpsOn.{ops}
use Rattle.lapjv_path.proofs.Counts.{Spent}
use Rattle.lapjv_path.proofs.Goes.{Goes}
use Rattle.lapjv_path.proofs.search_path.Given as goal

abbrev pub invariant-loop-last : goal.invariant-loop-last
invariant-loop-last g l = Goes (ops g.C.Cost.on) l.n l.cost l.start l.y l.v l.lo l.d l.cols l.pred × Spent (ops g.C.Cost.on) l.n l.cost l.y l.v l.start l.lo l.d l.cols l.pred l.reads × g.C.Cost.Far l.n l.d

abbrev pub decreases-loop-last : goal.decreases-loop-last
decreases-loop-last g l = l.n - l.lo
