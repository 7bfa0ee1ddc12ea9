-- Marks in range stay so: a row takes a column, and what `ca_dense` holds of its rows. Assumes nothing.
use mathlib.Core.Path.{◌≡◌}
use mathlib.Core.List.{List}
use Prim.Native.Nat.{◌<◌, ℕ}
use lib.IntN.{pos, ℤ}
use lib.ListN.{length-set, set}
use lib.Seq.{get_or-set_other, get_or-set_same}
use native.Mathlib.Decide.{ℕ_discrete}
use native.Mathlib.Omega.{arith}
use Rattle.lapjv_walk.specs.Holds.{Paired}
use Rattle.lapjv_walk.specs.Lapjv.{Trail}
use Rattle.lapjv_walk.specs.Marks.{mark_at}
use Rattle.lapjv_walk.proofs.Ca.{column-below}
use Rattle.lapjv_walk.specs.Holds.{Ranged}

pub ranged-set : (n : ℕ) (x : List ℤ) (i j : ℕ) → Ranged n x → i < n → j < n → Ranged n (set x i (pos j))
ranged-set n x i j r hi hj = record {
  len = simp length-set r.len;
  below = λ k hk. elim (ℕ_discrete k i) [
    | yes e ↦ rw (e, get_or-set_same x i (pos j) (pos 0) (omega (arith, r.len))) hj
    | no u ↦ rw (get_or-set_other x i k (pos j) (pos 0) u) (r.below k hk)
  ];
}

pub paired-ranged : (n : ℕ) (W : ℕ → Type 0) (x y : List ℤ) → 0 < n → Paired n W x y → Ranged n x
paired-ranged n W x y h p = record { len = p.len_x; below = λ i hi. column-below n (mark_at x i) h (p.x_marks i hi) }

pub trail≡ : {r r' j j' : ℕ} {x x' y y' : List ℤ} → r ≡ r' → j ≡ j' → x ≡ x' → y ≡ y' → ◌≡◌ {A = Trail} (record { row = r; j = j; x = x; y = y }) (record { row = r'; j = j'; x = x'; y = y' })
trail≡ a b c d = λ i. record { row = a i; j = b i; x = c i; y = d i }
