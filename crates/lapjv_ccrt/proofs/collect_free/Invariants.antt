-- `lapjv_ccrt::collect_free` meets its contract.
use mathlib.Core.Path.{◌≡◌}
use Prim.Native.Nat.{◌+◌, ℕ, ◌≤◌}
use Rattle.lapjv_walk.specs.Ccrt.{collect_step}
use Rattle.lapjv_walk.specs.Loops.{walk}
use Rattle.lapjv_walk.specs.Reads.{alone_reads}
use Rattle.costs.specs.OpsOn.{ops}
use Rattle.lapjv_ccrt.proofs.collect_free.Given as goal

abbrev pub invariant-loop-i : goal.invariant-loop-i
invariant-loop-i g l = (l.count ≤ l.i) × (record { rows = l.rows; count = l.count; v = l.v } ≡ walk (collect_step (ops g.C.Cost.on) l.n l.cost l.x l.unique) 0 l.i (record { rows = l.initial.rows; count = 0; v = l.initial.v })) × (l.reads ≡ walk (λ (k r : ℕ). r + alone_reads l.n l.x l.unique k) 0 l.i 0)
