-- NaNs: `x != x` is the test for one, 0.0 / 0.0 is one, and which patterns are none. Assumes nothing.
use mathlib.Core.Path.{◌≡◌, refl, sym, ap, ◌∙◌}
use mathlib.Core.Bool.{Bool, true, false, not, cond, true≢false}
use Prim.Native.Nat.{ℕ, ◌*◌, ◌%◌, ◌^◌, ◌≤◌, ◌<◌}
use native.Mathlib.Omega.{arith}
use lib.Arith.{le→nltb}
use lib.Dec.{T, eqb, eqb_refl}
use lib.Ieee.{Float, nan, inf, fin, Format, binary32, binary64, up, down, div, lt, ne, fits, is_nan, nan_bits, of_bits, to_bits}
use lib.Ieee.Bits.{is_true, of_bits-to_bits, nan_bits_is, nan_bits_above}
use borrow.Author.Tests.{ltb-false}

pub ne-self : (x : Float) → ne x x ≡ is_nan x
unfolding ne is_nan
ne-self nan = refl
ne-self (inf true) = refl
ne-self (inf false) = refl
ne-self (fin true m e) = rw (is_true (eqb (m * up e * down e) (m * up e * down e)) (eqb_refl (m * up e * down e)))
ne-self (fin false m e) = rw (is_true (eqb (m * up e * down e) (m * up e * down e)) (eqb_refl (m * up e * down e)))

pub nan_is : (x : Float) → is_nan x ≡ true → x ≡ nan
unfolding is_nan
nan_is nan h = refl
nan_is (inf s) h = cc
nan_is (fin s m e) h = cc

pub no_nan : (x : Float) → is_nan x ≡ false → T (not (is_nan x))
no_nan x h = rw h tt

-- 0.0 / 0.0 as MIR has it, with 0.0 by its pattern
pub zero_by_zero : (f : Format) → div f (of_bits f 0) (of_bits f 0) ≡ nan
unfolding div of_bits
zero_by_zero binary32 = refl
zero_by_zero binary64 = refl

pub pattern-of-finite : (b : ℕ) → b < 0x7f80_0000 → T (not (nan_bits binary32 b))
pattern-of-finite b h =
    let e : b % 2 ^ 31 ≤ 0x7f80_0000 = omega arith in
    rw (nan_bits_above binary32 b) (le→nltb 0x7f80_0000 (b % 2 ^ 31) e)

-- the pattern of a number, its sign's bit aside, is at most the infinity's
pub at-most-infinity : (x : Float) → T (fits binary32 x) → is_nan x ≡ false → to_bits binary32 x % 2 ^ 31 ≤ 0x7f80_0000
at-most-infinity x p h =
    let b = to_bits binary32 x in
    ltb-false 0x7f80_0000 (b % 2 ^ 31) (sym (nan_bits_above binary32 b) ∙ nan_bits_is binary32 b ∙ ap is_nan (of_bits-to_bits binary32 x p) ∙ h)

-- ---- the larger and the smaller of two: b where a comparison holds, which no NaN meets, or a is a NaN
pub lt-numbers : (x y : Float) → lt x y ≡ true → (is_nan x ≡ false) × (is_nan y ≡ false)
unfolding lt is_nan
lt-numbers nan y h = absurd (true≢false (sym h))
lt-numbers (inf s) nan h = absurd (true≢false (sym h))
lt-numbers (inf s) (inf t) h = (refl, refl)
lt-numbers (inf s) (fin t n d) h = (refl, refl)
lt-numbers (fin s m e) nan h = absurd (true≢false (sym h))
lt-numbers (fin s m e) (inf t) h = (refl, refl)
lt-numbers (fin s m e) (fin t n d) h = (refl, refl)

pub pick_first : (m : Bool) (n l : Bool) (a b : Float) → n ≡ false → l ≡ false → a ≡ cond n b (cond m a (cond l b a))
pick_first true n l a b h k = rw h
pick_first false n l a b h k = rw (h, k)
