-- Each pattern of r rows by c columns has one number below 2 ^ (r * c): its cells, row after row, are that number's binary digits. Assumes nothing.
use mathlib.Core.Path.{◌≡◌, sym, ap, ap₂, ◌∙◌, subst}
use mathlib.Core.Bool.{Bool}
use Prim.Native.Nat.{ℕ, zero, suc, ◌+◌, ◌*◌, ◌/◌, ◌%◌, ◌^◌, ◌<◌}
use native.Mathlib.Nat.{div-add-mod', div-lt_iff_lt-mul, mod-lt, zero-lt-suc}
use native.Mathlib.Omega.{arith}
use Rattle.lists.specs.Lists.{pick}
use Rattle.matching.specs.Matching.{Pattern}
use Rattle.matching.proofs.Loops.{cell-inside}
use Rattle.matching.proofs.Rows.{row_of, column-of}
use Rattle.shortcut_counts.specs.Counted.{has_bit, pattern_of, SameTable, EachOnce}
use Rattle.shortcut_counts.proofs.Bits.{pick-bit, number_with, with-small, with-bit, digits-tell}

numbered : (r c : ℕ) (p : Pattern) → (b : ℕ) × ((b < 2 ^ (r * c)) × SameTable r c (pattern_of c b) p)
numbered r c p =
    let f : ℕ → Bool = λ k. p (k / c) (k % c) in
    (number_with f (r * c), (with-small f (r * c), λ i j h g. with-bit f (r * c) (i * c + j) (cell-inside r c i j h g) ∙ ap₂ p (row_of c i j g) (column-of c i j g)))

-- a cell's row and column
in_table : (r c k : ℕ) → k < r * c → (k / c < r) × (k % c < c)
in_table r zero k h = absurd (omega arith)
in_table r (suc c) k h = ((div-lt_iff_lt-mul (zero-lt-suc c)).1 h, mod-lt k (zero-lt-suc c))

distinct : (r c a b : ℕ) → a < 2 ^ (r * c) → b < 2 ^ (r * c) → SameTable r c (pattern_of c a) (pattern_of c b) → a ≡ b
distinct r c a b h g s = digits-tell (r * c) a b h g (λ k l. sym (pick-bit a k) ∙ ap (λ t. pick t 1 0) (cell k l) ∙ pick-bit b k)
  where
    cell : (k : ℕ) → k < r * c → has_bit a k ≡ has_bit b k
    cell k l = subst (λ (z : ℕ). has_bit a z ≡ has_bit b z) (div-add-mod' k c) (s (k / c) (k % c) (in_table r c k l).0 (in_table r c k l).1)

pub each-once : EachOnce
each-once = record { numbered = numbered; distinct = distinct }
