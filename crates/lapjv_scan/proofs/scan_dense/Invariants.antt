-- `lapjv_scan::scan_dense` meets its contract.
use Prim.Native.Nat.{◌-◌}
use Rattle.lapjv_walk.specs.Marks.{free}
use Rattle.costs.specs.OpsOn.{ops}
use Rattle.lapjv_scan.proofs.Counts.{ScanCount}
use Rattle.lapjv_scan.proofs.Scans.{Scans}
use Rattle.lapjv_scan.proofs.scan_dense.Given as goal

abbrev pub invariant-loop-lo : goal.invariant-loop-lo
invariant-loop-lo g l =
    Scans (ops g.C.Cost.on) l.n l.cost l.y l.v (record { lo = l.at; hi = l.end; d = l.initial.d; cols = l.initial.cols; pred = l.initial.pred; found = free }) (record { lo = l.lo; hi = l.hi; d = l.d; cols = l.cols; pred = l.pred; found = free })
    × ScanCount (ops g.C.Cost.on) l.n l.cost l.y l.v (record { lo = l.at; hi = l.end; d = l.initial.d; cols = l.initial.cols; pred = l.initial.pred; found = free }) (record { lo = l.lo; hi = l.hi; d = l.d; cols = l.cols; pred = l.pred; found = free }) l.reads
    × g.C.Cost.Far l.n l.d

abbrev pub decreases-loop-lo : goal.decreases-loop-lo
decreases-loop-lo g l = l.n - l.lo
