-- `lapjv_ccrt::assign_columns` meets its contract.
use mathlib.Core.Path.{◌≡◌}
use Prim.Native.Nat.{◌-◌, suc, ℕ}
use Rattle.lapjv_walk.specs.Ccrt.{Assign, assign_step}
use Rattle.lapjv_walk.specs.Holds.{AssignOk}
use Rattle.lapjv_walk.specs.Loops.{walk}
use Rattle.lapjv_ccrt.proofs.assign_columns.Given as goal

abbrev pub invariant-loop-j : goal.invariant-loop-j
invariant-loop-j l = AssignOk l.n l.j (record { x = l.x; y = l.y; unique = l.unique }) × (record { x = l.x; y = l.y; unique = l.unique } ≡ walk (λ (k : ℕ) (t : Assign). assign_step (l.n - suc k) t) 0 (l.n - l.j) (record { x = l.initial.x; y = l.initial.y; unique = l.initial.unique }))
