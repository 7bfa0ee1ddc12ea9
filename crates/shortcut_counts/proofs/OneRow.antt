-- A row of c is a number below 2 ^ c. Those with at most one digit 1 are the empty one and one for each column. Assumes nothing.
use mathlib.Core.Path.{◌≡◌, ap, ap₂, ◌∙◌}
use mathlib.Core.Bool.{Bool}
use Prim.Native.Nat.{ℕ, zero, suc, ◌+◌, ◌^◌, ◌<◌}
use native.Mathlib.Nat.{pow-suc, add-zero, add_assoc}
use native.Mathlib.Omega.{arith}
use lib.Dec.{leb, eqb, leb-suc-suc}
use borrow.Author.Tests.{lt-leb}
use Rattle.lists.specs.Lists.{pick}
use Rattle.matching.specs.Matching.{count_of}
use Rattle.matching.proofs.Counting.{count_same}
use Rattle.shortcut_counts.specs.Counted.{has_bit}
use Rattle.shortcut_counts.proofs.Sums.{sum_below, sums_same, sums-split, sums-zero}
use Rattle.shortcut_counts.proofs.Bits.{pick-bit, bit-above, top-low, top-top}

-- how many the row w has
abbrev pub row_count : ℕ → ℕ → ℕ
row_count c w = count_of (has_bit w) c

-- F of each row with at most k, summed
abbrev pub row_sum : ℕ → ℕ → (ℕ → ℕ) → ℕ
row_sum k c F = sum_below (λ w. pick (leb (row_count c w) k) (F w) 0) (2 ^ c)

row_count-low : (c w : ℕ) → w < 2 ^ c → row_count (suc c) w ≡ row_count c w
row_count-low c w h = omega (arith, pick-bit w c, bit-above w c h)

row_count-high : (c v : ℕ) → v < 2 ^ c → row_count (suc c) (2 ^ c + v) ≡ suc (row_count c v)
row_count-high c v h =
    omega (arith, count_same (has_bit (2 ^ c + v)) (has_bit v) c (λ k l. ap (λ (z : ℕ). eqb z 1) (top-low c v k l)), pick-bit (2 ^ c + v) c, top-top c v h)

-- a row of one column more doesn't have that column, or has it
wider : (k c : ℕ) (F : ℕ → ℕ) → row_sum k (suc c) F ≡ row_sum k c F + sum_below (λ v. pick (leb (suc (row_count c v)) k) (F (2 ^ c + v)) 0) (2 ^ c)
wider k c F =
    let g : ℕ → ℕ = λ w. pick (leb (row_count (suc c) w) k) (F w) 0 in
    ap (sum_below g) (double c)
    ∙ sums-split g (2 ^ c) (2 ^ c)
    ∙ ap₂ ◌+◌
    (sums_same g (λ w. pick (leb (row_count c w) k) (F w) 0) (2 ^ c) (λ w h. ap (λ (z : ℕ). pick (leb z k) (F w) 0) (row_count-low c w h)))
    (sums_same (λ v. g (2 ^ c + v)) (λ v. pick (leb (suc (row_count c v)) k) (F (2 ^ c + v)) 0) (2 ^ c) (λ v h. ap (λ (z : ℕ). pick (leb z k) (F (2 ^ c + v)) 0) (row_count-high c v h)))
  where
    double : (c : ℕ) → 2 ^ suc c ≡ 2 ^ c + 2 ^ c
    double c = omega (arith, pow-suc 2 c)

pub row_sum-none : (c : ℕ) (F : ℕ → ℕ) → row_sum 0 c F ≡ F 0
row_sum-none zero F = omega arith
row_sum-none (suc c) F =
    wider 0 c F
    ∙ ap₂ ◌+◌ (row_sum-none c F)
    (sums_same (λ v. pick (leb (suc (row_count c v)) 0) (F (2 ^ c + v)) 0) (λ _. 0) (2 ^ c) (λ v h. ap (λ (t : Bool). pick t (F (2 ^ c + v)) 0) (lt-leb (suc (row_count c v)) 0 (omega arith)))
    ∙ sums-zero (2 ^ c))
    ∙ add-zero (F 0)

pub row_sum-one : (c : ℕ) (F : ℕ → ℕ) → row_sum 1 c F ≡ F 0 + sum_below (λ j. F (2 ^ j)) c
row_sum-one zero F = omega arith
row_sum-one (suc c) F =
    wider 1 c F
    ∙ ap₂ ◌+◌ (row_sum-one c F)
    (sums_same (λ v. pick (leb (suc (row_count c v)) 1) (F (2 ^ c + v)) 0) (λ v. pick (leb (row_count c v) 0) (F (2 ^ c + v)) 0) (2 ^ c) (λ v h. ap (λ (t : Bool). pick t (F (2 ^ c + v)) 0) (leb-suc-suc (row_count c v) 0))
    ∙ row_sum-none c (λ v. F (2 ^ c + v))
    ∙ ap F (add-zero (2 ^ c)))
    ∙ add_assoc (F 0) (sum_below (λ j. F (2 ^ j)) c) (F (2 ^ c))
