-- `sqrt_of` by the pattern of its argument: a finite one above zero by its units, one below zero, and those that are their own roots. Assumes nothing.
use mathlib.Core.Path.{◌≡◌, refl, sym, ap, ◌∙◌, subst}
use mathlib.Core.Logic.{◌⊎◌, inl, inr}
use Prim.Native.Nat.{ℕ, zero, suc, ◌+◌, ◌*◌, ◌/◌, ◌%◌, ◌^◌, ◌≤◌, ◌<◌}
use native.Mathlib.Nat.{le_of_eq, le_of_lt, lt_of_lt_of_le, lt_irrefl, mul-pos, mul-div_cancel, eq-or-lt_of_le, zero-mul}
use native.Mathlib.Omega.{arith}
use mathlib.Core.Bool.{Bool, true, false, cond, true≢false, false≢true}
use lib.Dec.{T, eqb, eqb-suc-zero}
use borrow.Author.Tests.{le-leb}
use lib.Pow.{pow_pos}
use lib.Ieee.{Float, nan, inf, fin, binary32, up, down, fits, of_fields, of_bits, to_bits}
use lib.Ieee.Fits.{down_pos}
use lib.Ieee.Exact.{HasValue}
use lib.Ieee.Bits.{of_bits-to_bits}
use Rattle.ieee.specs.Patterns.{field_units, pattern_units}
use Rattle.ieee.specs.Sqrt.{root_rounded, sqrt_of}
use Rattle.ieee.proofs.Values.{of_bits_is, fields_value, pattern-value}

-- ---- above zero
sqrt-value : (v : Float) (a : ℕ) → HasValue v false a (2 ^ 149) → sqrt_of v ≡ root_rounded (a * 2 ^ 149)
unfolding sqrt_of
sqrt-value nan a h = absurd h
sqrt-value (inf s) a h = absurd h
sqrt-value (fin true m e) a h = absurd (true≢false h.0)
sqrt-value (fin false m e) a h = ap (λ (z : ℕ). root_rounded (z * 2 ^ 149)) (ap (λ (z : ℕ). z / down e) h.1 ∙ mul-div_cancel a (down_pos e))

-- n is x in units, times 2 ^ 149
pub positive-root : (x : Float) (n r : ℕ) → T (fits binary32 x) → to_bits binary32 x < 0x7f80_0000 → n ≡ pattern_units binary32 (to_bits binary32 x) * 2 ^ 149 → of_bits binary32 r ≡ root_rounded n → of_bits binary32 r ≡ sqrt_of x
positive-root x n r f h e q =
    let b = to_bits binary32 x in
    q ∙ ap root_rounded e ∙ sym (sqrt-value (of_bits binary32 b) (pattern_units binary32 b) (pattern-value b h)) ∙ ap sqrt_of (of_bits-to_bits binary32 x f)

-- ---- below zero
sqrt_negative : (v : Float) (a : ℕ) → 0 < a → HasValue v true a (2 ^ 149) → sqrt_of v ≡ nan
unfolding sqrt_of
sqrt_negative nan a p h = refl
sqrt_negative (inf s) a p h = absurd h
sqrt_negative (fin false m e) a p h = absurd (false≢true h.0)
sqrt_negative (fin true zero e) a p h = absurd (lt_irrefl 0 (lt_of_lt_of_le (mul-pos p (down_pos e)) (le_of_eq (sym h.1 ∙ ap (λ (z : ℕ). z * 2 ^ 149) (zero-mul (up e)) ∙ zero-mul (2 ^ 149)))))
sqrt_negative (fin true (suc m) e) a p h = ap (λ (b : Bool). cond b (fin true (suc m) e) nan) (eqb-suc-zero m)

units-pos : (x t : ℕ) → 0 < x * 2 ^ 23 + t → 0 < field_units binary32 x t
units-pos zero t h = omega arith
units-pos (suc x) t h = mul-pos (first t) (pow_pos x)
  where
    first : (t : ℕ) → 0 < 2 ^ 23 + t
    first t = omega arith

top_field : (x t : ℕ) → x ≡ 255 → sqrt_of (of_fields binary32 true x t) ≡ nan
unfolding of_fields sqrt_of
top_field x t e = subst (λ (z : ℕ). sqrt_of (of_fields binary32 true z t) ≡ nan) (sym e) (pick (eqb t 0))
  where
    pick : (b : Bool) → sqrt_of (cond b (inf true) nan) ≡ nan
    pick true = refl
    pick false = refl

pub negative-root : (b : ℕ) → 2 ^ 31 < b → b < 2 ^ 32 → sqrt_of (of_bits binary32 b) ≡ nan
negative-root b lo hi =
    let x = b % 2 ^ 31 / 2 ^ 23 in
    let t = b % 2 ^ 23 in
    ap sqrt_of (of_bits_is binary32 b ∙ ap (λ (s : Bool). of_fields binary32 s x t) (le-leb (2 ^ 31) b (le_of_lt lo))) ∙ go x t (eq-or-lt_of_le (at_most b)) (above b lo hi)
  where
    at_most : (b : ℕ) → b % 2 ^ 31 / 2 ^ 23 ≤ 255
    at_most b = omega arith

    above : (b : ℕ) → 2 ^ 31 < b → b < 2 ^ 32 → 0 < b % 2 ^ 31 / 2 ^ 23 * 2 ^ 23 + b % 2 ^ 23
    above b l h = omega arith

    go : (x t : ℕ) → (x ≡ 255) ⊎ (x < 255) → 0 < x * 2 ^ 23 + t → sqrt_of (of_fields binary32 true x t) ≡ nan
    go x t (inl e) g = top_field x t e
    go x t (inr l) g = sqrt_negative (of_fields binary32 true x t) (field_units binary32 x t) (units-pos x t g) (fields_value binary32 true x t l)

-- ---- a value that is its own root
pub own_root : (x : Float) (n : ℕ) → T (fits binary32 x) → to_bits binary32 x ≡ n → sqrt_of (of_bits binary32 n) ≡ of_bits binary32 n → x ≡ sqrt_of x
own_root x n p e h = let z : of_bits binary32 n ≡ x = ap (of_bits binary32) (sym e) ∙ of_bits-to_bits binary32 x p in sym z ∙ sym h ∙ ap sqrt_of z

pub plus-zero : sqrt_of (of_bits binary32 0) ≡ of_bits binary32 0
unfolding sqrt_of of_bits
plus-zero = refl

pub minus-zero : sqrt_of (of_bits binary32 0x8000_0000) ≡ of_bits binary32 0x8000_0000
unfolding sqrt_of of_bits
minus-zero = refl

pub infinite : sqrt_of (of_bits binary32 0x7f80_0000) ≡ of_bits binary32 0x7f80_0000
unfolding sqrt_of of_bits
infinite = refl

pub not-a-number : sqrt_of nan ≡ nan
unfolding sqrt_of
not-a-number = refl
