-- `lapjv_path::find_dense` meets its contract.
use mathlib.Core.Path.{◌≡◌}
use Prim.Native.Nat.{◌+◌, ◌≤◌}
use Rattle.lapjv_walk.specs.Loops.{walk}
use Rattle.lapjv_walk.specs.Path.{find_step}
use Rattle.lapjv_walk.proofs.Find.{FindOk}
use Rattle.costs.specs.OpsOn.{ops}
use Rattle.lapjv_path.proofs.find_dense.Given as goal

abbrev pub invariant-loop-k : goal.invariant-loop-k
invariant-loop-k g l = (l.lo + 1 ≤ l.k) × FindOk l.n l.lo l.k (record { cols = l.cols; hi = l.hi; mind = l.mind }) × (record { cols = l.cols; hi = l.hi; mind = l.mind } ≡ walk (find_step (ops g.C.Cost.on) l.lo l.d) (l.lo + 1) l.k (record { cols = l.initial.cols; hi = l.initial.hi; mind = l.initial.mind }))
