-- `lapjv_carr::carr_dence` meets its contract.
use Prim.Native.Nat.{◌*◌, ◌-◌}
use Rattle.costs.specs.OpsOn.{ops}
use Rattle.lapjv_carr.proofs.Pass.{Going}
use Rattle.lapjv_carr.proofs.carr_dence.Given as goal

abbrev pub invariant-loop-current : goal.invariant-loop-current
invariant-loop-current g l = Going (ops g.C.Cost.on) l.n l.cost (record { rows = l.initial.rows; count = l.count; x = l.initial.x; y = l.initial.y; v = l.initial.v }) (record { rows = l.rows; current = l.current; fresh = l.fresh; turn = l.turn; x = l.x; y = l.y; v = l.v }) × g.C.Cost.Good l.n l.cost l.y l.v

abbrev pub decreases-loop-current : goal.decreases-loop-current
decreases-loop-current g l = l.count * l.n - l.turn
