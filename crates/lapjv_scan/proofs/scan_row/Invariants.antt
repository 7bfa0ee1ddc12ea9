-- `lapjv_scan::scan_row` meets its contract.
use mathlib.Core.Path.{◌≡◌}
use Prim.Native.Nat.{◌-◌, ℕ, ◌≤◌}
use Rattle.lapjv_walk.specs.Loops.{walk, walk_sum}
use Rattle.lapjv_walk.specs.Marks.{free}
use Rattle.lapjv_walk.specs.Path.{scan_step}
use Rattle.lapjv_walk.specs.Reads.{try_reads}
use Rattle.lapjv_walk.proofs.Search.{RowOk}
use Rattle.costs.specs.OpsOn.{ops}
use Rattle.lapjv_scan.proofs.scan_row.Given as goal

abbrev pub invariant-loop-k : goal.invariant-loop-k
invariant-loop-k g l =
    (l.from ≤ l.k) × RowOk l.n l.k (record { lo = 0; hi = l.hi; d = l.d; cols = l.cols; pred = l.pred; found = free }) × ((lo : ℕ) → record { lo = lo; hi = l.hi; d = l.d; cols = l.cols; pred = l.pred; found = free } ≡ walk (scan_step (ops g.C.Cost.on) l.n l.cost l.y l.v l.i l.h l.mind) l.from l.k (record { lo = lo; hi = l.from; d = l.initial.d; cols = l.initial.cols; pred = l.initial.pred; found = free }))
    × ((lo : ℕ) → walk_sum (scan_step (ops g.C.Cost.on) l.n l.cost l.y l.v l.i l.h l.mind) try_reads l.from l.k (record { lo = lo; hi = l.from; d = l.initial.d; cols = l.initial.cols; pred = l.initial.pred; found = free }) ≡ l.k - l.from)
