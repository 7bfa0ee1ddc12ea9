-- `lapjv_ccrt::reduce_columns` meets its contract.
use mathlib.Core.Path.{◌≡◌}
use Rattle.lapjv_walk.specs.Ccrt.{reduce_row}
use Rattle.lapjv_walk.specs.Loops.{walk}
use Rattle.costs.specs.OpsOn.{ops}
use Rattle.lapjv_ccrt.proofs.reduce_columns.Given as goal

abbrev pub invariant-loop-i : goal.invariant-loop-i
invariant-loop-i g l = record { v = l.v; y = l.y } ≡ walk (reduce_row (ops g.C.Cost.on) l.n l.cost) 0 l.i (record { v = l.initial.v; y = l.initial.y })
