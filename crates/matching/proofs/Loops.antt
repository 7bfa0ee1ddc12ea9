-- What the code over a matrix of overlaps asks: counts, the last that passes, the fullest of two, and places in rows.
-- Assumes nothing.
use mathlib.Core.Path.{◌≡◌, sym, ap, ◌∙◌}
use mathlib.Core.Bool.{Bool, true, false, ◌&&◌}
use Prim.Native.Nat.{ℕ, zero, suc, ◌+◌, ◌-◌, ◌*◌, ◌≤◌, ◌<◌}
use native.Mathlib.Nat.{mul-le-mul, mul-le-mul_right, sub-zero, suc-mul, suc-sub-suc, zero-sub}
use native.Mathlib.Numerals.{add-one}
use native.Mathlib.Omega.{arith}
use borrow.Author.Tests.{eq-eqb, ne_eqb}
use lib.Dec.{eqb}
use lib.IntN.{ℤ, pos}
use lib.ListN.{drop, replicate}
use Rattle.lists.specs.Lists.{pick}
use Rattle.matching.specs.Matching.{count_of, passing}

-- ---- over the first so many of a row or of a column

one-most : (q : Bool) → ◌≤◌ (pick q 1 0) 1
one-most true = omega arith
one-most false = omega arith

pub count_most : (p : ℕ → Bool) (j : ℕ) → count_of p j ≤ j
count_most p zero = omega arith
count_most p (suc j) = omega (arith, count_most p j, one-most (p j))

pub passing-turn : (p : ℕ → Bool) (j : ℕ) (m r : ℤ) (q : Bool) → m ≡ passing p j → q ≡ p j → r ≡ pick q (pos j) m → r ≡ passing p (j + 1)
passing-turn p j m r q e g h = rw (h, e, g, add-one j)

-- ---- the fullest of two, tested one after the other

pub both : (a b x y : ℕ) → x ≡ a → y ≡ b → x ≡ 1 → eqb y 1 ≡ (eqb a 1 && eqb b 1)
both a b x y e f h = rw (sym e, sym f, eq-eqb x 1 h)

pub not-both : (a b x : ℕ) → x ≡ a → (x ≡ 1 → ⊥) → eqb x 1 ≡ (eqb a 1 && eqb b 1)
not-both a b x e h = rw (sym e, ne_eqb x 1 h)

-- ---- places in nd rows of nt

pub few-cells : (nd nt : ℕ) → nd ≤ 64 → nt ≤ 64 → nd * nt ≤ 4096
few-cells nd nt h g = mul-le-mul h g

-- row i ends within nd rows
pub row_ends : (nd nt i : ℕ) → i < nd → i * nt + nt ≤ nd * nt
row_ends nd nt i h = omega (arith, mul-le-mul_right nt h, suc-mul i nt)

pub cell-inside : (nd nt i j : ℕ) → i < nd → j < nt → i * nt + j < nd * nt
cell-inside nd nt i j h g = omega (arith, row_ends nd nt i h)

-- ---- 64 marks, free at first

pub drop-replicate : {A : Type 0} (a : A) (n k : ℕ) → drop k (replicate n a) ≡ replicate (n - k) a
drop-replicate a n zero = ap (λ (m : ℕ). replicate m a) (sym (sub-zero n))
drop-replicate a zero (suc k) = ap (λ (m : ℕ). replicate m a) (sym (zero-sub (suc k)))
drop-replicate a (suc n) (suc k) = drop-replicate a n k ∙ ap (λ (m : ℕ). replicate m a) (sym (suc-sub-suc n k))
