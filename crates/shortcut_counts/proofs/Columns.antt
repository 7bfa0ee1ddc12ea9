-- One turn of the code's loop over the columns, and its bounds. Assumes nothing.
use mathlib.Core.Path.{◌≡◌, sym, ap, ◌∙◌}
use mathlib.Core.Bool.{Bool, true, false}
use Prim.Native.Nat.{ℕ, zero, suc, ◌+◌, ◌-◌, ◌*◌, ◌/◌, ◌%◌, ◌^◌, ◌≤◌, ◌<◌}
use native.Mathlib.Nat.{mul-le-mul, le_trans, le_of_suc-le-suc}
use native.Mathlib.Numerals.{add-one}
use native.Mathlib.Omega.{arith}
use lib.Pow.{pow_mono}
use borrow.Author.Tests.{eq-eqb, ne_eqb}
use Rattle.lists.specs.Lists.{pick}
use Rattle.shortcut_counts.specs.Counted.{bit_at, has_bit}
use Rattle.shortcut_counts.specs.Placements.{placements}
use Rattle.shortcut_counts.proofs.Sums.{sum_below}
use Rattle.shortcut_counts.proofs.Bits.{bit-small}
use Rattle.shortcut_counts.proofs.Placing.{placements-more}
use Rattle.shortcut_counts.proofs.Shares.{placements-most}

-- what the next row adds in column j
abbrev in_column : ℕ → ℕ → ℕ → ℕ → ℕ
in_column n c m j = pick (has_bit m j) 0 (placements n c (m + 2 ^ j))

-- the next row has none, or one in the first k columns
abbrev pub up_to : ℕ → ℕ → ℕ → ℕ → ℕ
up_to n c m k = placements n c m + sum_below (in_column n c m) k

-- ---- bounds

pub at-most-16 : (n c : ℕ) → n < 5 → c < 5 → n * c ≤ 16
at-most-16 n c h g = mul-le-mul (le_of_suc-le-suc h) (le_of_suc-le-suc g)

pub bit-few : (k : ℕ) → k < 4 → 2 ^ k ≤ 8
bit-few k h = pow_mono {i = k} {j = 3} (omega (arith, h))

module _ (n c m : ℕ) (h : n < 5) (g : c < 5) where
  placements-few : placements n c m ≤ 65536
  placements-few = le_trans (placements-most n c m) (pow_mono {i = n * c} {j = 16} (at-most-16 n c h g))

pub few-counted : (n c m r : ℕ) → n < 5 → c < 5 → r ≡ placements n c m → r ≤ 65536
few-counted n c m r h g e = omega (arith, e, placements-few n c m h g)

module _ (n c m : ℕ) (h : n < 5) (g : c < 5) where
  column-few : (j : ℕ) → in_column n c m j ≤ 65536
  column-few j = go (has_bit m j)
    where
      go : (t : Bool) → pick t 0 (placements n c (m + 2 ^ j)) ≤ 65536
      go true = omega arith
      go false = placements-few n c (m + 2 ^ j) h g

  columns-few : (k : ℕ) → sum_below (in_column n c m) k ≤ k * 65536
  columns-few zero = omega arith
  columns-few (suc k) = omega (arith, columns-few k, column-few k)

  pub up_to-few : (k : ℕ) → up_to n c m k ≤ (k + 1) * 65536
  up_to-few k = omega (arith, columns-few k, placements-few n c m h g)

-- ---- a turn

up_to-more : (n c m k a r s : ℕ) → a ≡ up_to n c m k → in_column n c m k ≡ s → r ≡ s → a + r ≡ up_to n c m (k + 1)
up_to-more n c m k a r s e t g = rw (add-one k) (omega (arith, e, t, g))

-- the column is free
pub free-turn : (n c m k a b r : ℕ) → a ≡ up_to n c m k → b ≡ 2 ^ k → m / b % 2 ≡ 0 → r ≡ placements n c (m + b) → a + r ≡ up_to n c m (k + 1)
free-turn n c m k a b r e f z g =
    let y : bit_at m k ≡ 0 = ap (λ (x : ℕ). m / x % 2) (sym f) ∙ z in
    let t : in_column n c m k ≡ placements n c (m + 2 ^ k) = ap (λ (u : Bool). pick u 0 (placements n c (m + 2 ^ k))) (ne_eqb (bit_at m k) 1 (λ q. omega (arith, q, y))) in
    up_to-more n c m k a r (placements n c (m + 2 ^ k)) e t (g ∙ ap (λ (x : ℕ). placements n c (m + x)) f)

-- or used
pub used_turn : (n c m k a b : ℕ) → a ≡ up_to n c m k → b ≡ 2 ^ k → (m / b % 2 ≡ 0 → ⊥) → a ≡ up_to n c m (k + 1)
used_turn n c m k a b e f z =
    let y : bit_at m k ≡ 0 → ⊥ = λ q. z (ap (λ (x : ℕ). m / x % 2) f ∙ q) in
    let o : bit_at m k ≡ 1 = omega (arith, bit-small m k, y) in
    let t : in_column n c m k ≡ 0 = ap (λ (u : Bool). pick u 0 (placements n c (m + 2 ^ k))) (eq-eqb (bit_at m k) 1 o) in
    rw (add-one k) (omega (arith, e, t))

-- all columns were tried
pub all-tried : (n c m k a : ℕ) → (n ≡ 0 → ⊥) → k ≡ c → a ≡ up_to (n - 1) c m k → a ≡ placements n c m
all-tried n c m k a z e f =
    f ∙ ap (up_to (n - 1) c m) e ∙ sym (placements-more (n - 1) c m) ∙ ap (λ (x : ℕ). placements x c m) (back n z)
  where
    back : (n : ℕ) → (n ≡ 0 → ⊥) → suc (n - 1) ≡ n
    back n z = omega (arith, z)
