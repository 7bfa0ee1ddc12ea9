-- A row's turn in `collect_free`, by its cases. Assumes nothing.
use mathlib.Core.Path.{◌≡◌}
use mathlib.Core.Bool.{Bool, false, true}
use mathlib.Core.List.{List}
use Prim.Native.Nat.{◌+◌, ◌-◌, ℕ}
use lib.IntN.{ℤ}
use lib.ListN.{get_or, set}
use Rattle.lapjv_walk.specs.Ccrt.{Collect, collect_step, other_min}
use Rattle.lapjv_walk.specs.Marks.{index, is_free, mark_at}
use Rattle.lapjv_walk.specs.Ops.{Ops, val_at}
use Rattle.lapjv_walk.specs.Reads.{alone_reads}

pub collect≡ : {C : Type 0} {r r' : List ℕ} {a a' : ℕ} {v v' : List C} → r ≡ r' → a ≡ a' → v ≡ v' → ◌≡◌ {A = Collect C} (record { rows = r; count = a; v = v }) (record { rows = r'; count = a'; v = v' })
collect≡ p q s = λ i. record { rows = p i; count = q i; v = s i }

module _ (O : Ops) (n : ℕ) (cost : List O.C) (x : List ℤ) (unique : List Bool) (i : ℕ) (s : Collect O.C) where
  pub collect-free : is_free (mark_at x i) ≡ true → collect_step O n cost x unique i s ≡ record { rows = set s.rows s.count i; count = s.count + 1; v = s.v }
  unfolding collect_step
  collect-free e = rw e

  pub collect-alone : (j : ℕ) (m : O.C) → is_free (mark_at x i) ≡ false → get_or unique i false ≡ true → j ≡ index (mark_at x i) → m ≡ other_min O n cost i j s.v
      → collect_step O n cost x unique i s ≡ record { rows = s.rows; count = s.count; v = set s.v j (O.sub (val_at O s.v j) m) }
  unfolding collect_step
  collect-alone j m e u ej em = rw (e, u, em, ej)

  pub collect-other : is_free (mark_at x i) ≡ false → get_or unique i false ≡ false → collect_step O n cost x unique i s ≡ s
  unfolding collect_step
  collect-other e u = rw (e, u)

-- and what it reads

module _ (n : ℕ) (x : List ℤ) (unique : List Bool) (i : ℕ) where
  pub free-reads : is_free (mark_at x i) ≡ true → alone_reads n x unique i ≡ 0
  unfolding alone_reads
  free-reads e = rw e

  pub alone-reads : is_free (mark_at x i) ≡ false → get_or unique i false ≡ true → alone_reads n x unique i ≡ n - 1
  unfolding alone_reads
  alone-reads e u = rw (e, u)

  pub other-reads : is_free (mark_at x i) ≡ false → get_or unique i false ≡ false → alone_reads n x unique i ≡ 0
  unfolding alone_reads
  other-reads e u = rw (e, u)
