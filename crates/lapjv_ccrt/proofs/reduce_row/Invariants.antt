-- `lapjv_ccrt::reduce_row` meets its contract.
use mathlib.Core.Path.{◌≡◌}
use Rattle.lapjv_walk.specs.Ccrt.{reduce_step}
use Rattle.lapjv_walk.specs.Loops.{walk}
use Rattle.costs.specs.OpsOn.{ops}
use Rattle.lapjv_ccrt.proofs.reduce_row.Given as goal

abbrev pub invariant-loop-j : goal.invariant-loop-j
invariant-loop-j g l = record { v = l.v; y = l.y } ≡ walk (reduce_step (ops g.C.Cost.on) l.n l.cost l.i) 0 l.j (record { v = l.initial.v; y = l.initial.y })
