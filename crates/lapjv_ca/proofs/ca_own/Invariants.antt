-- `lapjv_ca::ca_own` meets its contract.
use mathlib.Core.Path.{◌≡◌}
use Rattle.lapjv_walk.specs.Lapjv.{ca_dense}
use Rattle.lapjv_walk.specs.Reads.{ca_reads}
use Rattle.costs.specs.OpsOn.{ops}
use Rattle.lapjv_ca.proofs.ca_own.Given as goal

abbrev pub invariant-loop-r : goal.invariant-loop-r
invariant-loop-r g l =
    (record { x = l.x; y = l.y; v = l.v } ≡ ca_dense (ops g.C.Cost.on) l.n l.cost l.r (record { rows = l.rows; count = l.count; x = l.initial.x; y = l.initial.y; v = l.initial.v }))
    × (l.total ≡ ca_reads (ops g.C.Cost.on) l.n l.cost l.r (record { rows = l.rows; count = l.count; x = l.initial.x; y = l.initial.y; v = l.initial.v }))
