-- `ccrt_dense` from what its three loops left: what each asks of the one before, and the whole. Assumes nothing.
use mathlib.Core.Path.{refl, subst, ◌≡◌}
use mathlib.Core.Bool.{Bool, true}
use mathlib.Core.List.{List}
use Prim.Native.Nat.{◌*◌, ◌+◌, ◌<◌, ℕ}
use lib.IntN.{pos, ℤ}
use lib.ListN.{length}
use Rattle.lists.specs.Lists.{tab}
use Rattle.lapjv_walk.specs.Ccrt.{Assign, assign, assign_from, ccrt_dense, collect, collect_step, Reduce, reduce_columns, reduce_row}
use Rattle.lapjv_walk.specs.Holds.{AssignOk, Marked, Seated}
use Rattle.lapjv_walk.specs.Loops.{walk}
use Rattle.lapjv_walk.specs.Marks.{free}
use Rattle.lapjv_walk.specs.Ops.{Ops}
use Rattle.lapjv_walk.specs.Reads.{ccrt_reads, collect_reads}
use Rattle.lapjv_walk.proofs.Assign.{assign-ok, assign-starts, rows-marked}
use Rattle.lapjv_walk.proofs.Ccrt.{ReduceOk}
use Rattle.lapjv_walk.proofs.Whole.{columns-ok}

module _ (O : Ops) (n : ℕ) (cost : List O.C) (some : 0 < n) (x₁ y₁ y₂ : List ℤ) (v₁ v₂ : List O.C) (u₁ : List Bool)
    (ex : x₁ ≡ tab (λ _. free) n) (ev : v₁ ≡ tab (λ _. O.large) n) (ey : y₁ ≡ tab (λ _. pos 0) n) (eu : u₁ ≡ tab (λ _. true) n)
    (er : walk (reduce_row O n cost) 0 n (record { v = v₁; y = y₁ }) ≡ record { v = v₂; y = y₂ }) where
  pub reduced : reduce_columns O n cost ≡ record { v = v₂; y = y₂ }
  unfolding reduce_columns
  reduced = rw (← ev, ← ey) er

  ok : ReduceOk n {C = O.C} (record { v = v₂; y = y₂ }) × Seated n y₂
  ok = subst (λ (s : Reduce O.C). ReduceOk n s × Seated n s.y) reduced (columns-ok O n cost some)

  pub assign-asks : AssignOk n n (record { x = x₁; y = y₂; unique = u₁ })
  assign-asks = rw (ex, eu) (assign-starts n n y₂ refl ok.1)

  module _ (x₃ y₃ : List ℤ) (u₃ : List Bool) (ea : assign_from n (record { x = x₁; y = y₂; unique = u₁ }) ≡ record { x = x₃; y = y₃; unique = u₃ }) where
    pub assigned : assign n y₂ ≡ record { x = x₃; y = y₃; unique = u₃ }
    unfolding assign
    assigned = rw (← ex, ← eu) ea

    after : AssignOk n 0 (record { x = x₃; y = y₃; unique = u₃ })
    after = subst (λ (s : Assign). AssignOk n 0 s) assigned (assign-ok n y₂ ok.1)

    pub collect-asks : (length u₃ ≡ n) × Marked n x₃ × (length v₂ ≡ n)
    collect-asks = (after.len_u, rows-marked n _ after, ok.0.len_v)

    pub ccrt-reads : ccrt_reads O n cost ≡ n * n + collect_reads n x₃ u₃
    unfolding ccrt_reads
    ccrt-reads = rw (reduced, assigned)

    pub ccrt-is : (r₁ r₄ : List ℕ) (k : ℕ) (v₄ : List O.C) → r₁ ≡ tab (λ _. 0) n
        → walk (collect_step O n cost x₃ u₃) 0 n (record { rows = r₁; count = 0; v = v₂ }) ≡ record { rows = r₄; count = k; v = v₄ }
        → ccrt_dense O n cost ≡ record { rows = r₄; count = k; x = x₃; y = y₃; v = v₄ }
    unfolding ccrt_dense collect
    ccrt-is r₁ r₄ k v₄ e₁ e₄ = rw (reduced, assigned, ← e₁, e₄)
