-- The f64 pattern of each class has the value of the f32 pattern: the same sign, and as many units, which are 2 ^ 925 times smaller. Assumes nothing.
use mathlib.Core.Path.{◌≡◌, refl, sym, ap, ◌∙◌, subst}
use mathlib.Core.Bool.{Bool, true, false, not}
use Prim.Native.Nat.{ℕ, zero, suc, ◌+◌, ◌-◌, ◌*◌, ◌/◌, ◌%◌, ◌^◌, ◌≤◌, ◌<◌}
use native.Mathlib.Nat.{mul_assoc, le-div_iff_mul-le, div-lt_iff_lt-mul}
use native.Mathlib.Omega.{arith}
use lib.Arith.{le→nltb}
use lib.Dec.{T, leb, eqb}
use lib.Pow.{pow-add, mod-mod-pow}
use lib.Ieee.{Float, inf, Format, binary32, binary64, low, nan_bits, of_fields, of_bits, ones, top}
use lib.Ieee.Bits.{of_bits-fits, nan_bits_above}
use lib.Ieee.Exact.{HasValue}
use lib.Ieee.Fits.{fits_widens}
use borrow.Author.Tests.{leb-true, leb-false, eq-eqb, ne_eqb}
use Rattle.ieee.specs.Patterns.{field_units, Normalised}
use Rattle.ieee.proofs.Values.{same_value, finer, of_bits_is, fields_value}
use Rattle.widening.specs.declared.Class.TheVariants.{Zero, Normal, Infinity}
use Rattle.widening.specs.Classes.{sign_bit, biased_exponent, trailing_significand, InClass}

-- ---- one pattern

sign-test : (c b : ℕ) → 0 < c → b < 2 * c → leb c b ≡ eqb (b / c) 1
sign-test c b p h = go (leb c b) refl
  where
    low_bit : b < c → b / c ≡ 1 → ⊥
    low_bit l = let d : b / c < 1 = (div-lt_iff_lt-mul p).1 (omega arith) in omega arith

    high_bit : c ≤ b → b / c ≡ 1
    high_bit l =
        let d : 1 ≤ b / c = (le-div_iff_mul-le p).1 (omega arith) in
        let e : b / c < 2 = (div-lt_iff_lt-mul p).1 h in
        omega arith

    go : (t : Bool) → leb c b ≡ t → leb c b ≡ eqb (b / c) 1
    go true e = e ∙ sym (eq-eqb (b / c) 1 (high_bit (leb-true c b e)))
    go false e = e ∙ sym (ne_eqb (b / c) 1 (low_bit (leb-false c b e)))

top_above : (f : Format) → 0 < top f
top_above binary32 = omega arith
top_above binary64 = omega arith

-- what a pattern stands for, by its fields
by-fields : (f : Format) (b : ℕ) → b < 2 * top f → of_bits f b ≡ of_fields f (eqb (sign_bit f b) 1) (biased_exponent f b) (trailing_significand f b)
by-fields f b h = of_bits_is f b ∙ ap (λ (s : Bool). of_fields f s (biased_exponent f b) (trailing_significand f b)) (sign-test (top f) b (top_above f) h)

worth : (f : Format) (b : ℕ) → b < 2 * top f → biased_exponent f b < ones f → HasValue (of_bits f b) (eqb (sign_bit f b) 1) (field_units f (biased_exponent f b) (trailing_significand f b)) (2 ^ low f)
worth f b h l =
    subst (λ (v : Float). HasValue v (eqb (sign_bit f b) 1) (field_units f (biased_exponent f b) (trailing_significand f b)) (2 ^ low f)) (sym (by-fields f b h)) (fields_value f (eqb (sign_bit f b) 1) (biased_exponent f b) (trailing_significand f b) l)

-- ---- the f64 pattern of three fields

abbrev pub wide_bits : ℕ → ℕ → ℕ → ℕ
wide_bits s e t = s * 2 ^ 63 + e * 2 ^ 52 + t

pub record Fields (s e t w : ℕ) : Type 0 where
  pub sign : sign_bit binary64 w ≡ s
  pub exponent : biased_exponent binary64 w ≡ e
  pub trailing : trailing_significand binary64 w ≡ t

pub fields-of : (s e t : ℕ) → s < 2 → e < 2048 → t < 2 ^ 52 → Fields s e t (wide_bits s e t)
fields-of s e t h l k = record { sign = omega arith; exponent = omega arith; trailing = omega arith }

pub bits-lt : (s e t : ℕ) → s < 2 → e < 2048 → t < 2 ^ 52 → wide_bits s e t < 2 ^ 64
bits-lt s e t h l k = omega arith

pub no-nan-bits : (s e t : ℕ) → s < 2 → t < 2 ^ 52 → e * 2 ^ 52 + t ≤ 2047 * 2 ^ 52 → T (not (nan_bits binary64 (wide_bits s e t)))
no-nan-bits s e t h k l =
    let i : wide_bits s e t % 2 ^ 63 ≤ 2047 * 2 ^ 52 = omega arith in
    rw (nan_bits_above binary64 (wide_bits s e t)) (le→nltb (2047 * 2 ^ 52) (wide_bits s e t % 2 ^ 63) i)

-- ---- finite values: the same number of units

same_units : (b s e t : ℕ) → b < 2 ^ 32 → sign_bit binary32 b ≡ s → e < 2047 → t < 2 ^ 52 → biased_exponent binary32 b < 255
    → field_units binary64 e t ≡ field_units binary32 (biased_exponent binary32 b) (trailing_significand binary32 b) * 2 ^ 925 → of_bits binary64 (wide_bits s e t) ≡ of_bits binary32 b
same_units b s e t h i l k m u =
    let w = wide_bits s e t in
    let a = field_units binary32 (biased_exponent binary32 b) (trailing_significand binary32 b) in
    let g = fields-of s e t (omega arith) (omega arith) k in
    let v : HasValue (of_bits binary64 w) (eqb (sign_bit binary64 w) 1) (field_units binary64 (biased_exponent binary64 w) (trailing_significand binary64 w)) (2 ^ 1074) = worth binary64 w (bits-lt s e t (omega arith) (omega arith) k) (omega (arith, g.exponent)) in
    same_value binary64 (of_bits binary64 w) (of_bits binary32 b) (eqb (sign_bit binary32 b) 1) (a * 2 ^ 925) (of_bits-fits binary64 w) (fits_widens (of_bits binary32 b) (of_bits-fits binary32 b))
    (subst (λ (n : ℕ). HasValue (of_bits binary64 w) (eqb (sign_bit binary32 b) 1) n (2 ^ 1074)) (ap (λ (z : ℕ). field_units binary64 z (trailing_significand binary64 w)) g.exponent ∙ ap (λ (z : ℕ). field_units binary64 e z) g.trailing ∙ u)
    (subst (λ (n : ℕ). HasValue (of_bits binary64 w) (eqb n 1) (field_units binary64 (biased_exponent binary64 w) (trailing_significand binary64 w)) (2 ^ 1074)) (g.sign ∙ sym i) v))
    (finer (of_bits binary32 b) (eqb (sign_bit binary32 b) 1) a (2 ^ 149) (2 ^ 925) (worth binary32 b h m))

pub zero_same : (b : ℕ) → b < 2 ^ 32 → InClass binary32 Zero b → of_bits binary64 (wide_bits (sign_bit binary32 b) 0 0) ≡ of_bits binary32 b
zero_same b h c = same_units b (sign_bit binary32 b) 0 0 h refl (omega arith) (omega arith) (omega (arith, c.0)) (sym (ap (λ (z : ℕ). field_units binary32 z (trailing_significand binary32 b) * 2 ^ 925) c.0 ∙ ap (λ (z : ℕ). z * 2 ^ 925) c.1))

powers-regrouped : (m i j k l : ℕ) → i + j ≡ k + l → m * 2 ^ i * 2 ^ j ≡ m * 2 ^ k * 2 ^ l
powers-regrouped m i j k l e = mul_assoc m (2 ^ i) (2 ^ j) ∙ ap (λ (z : ℕ). m * z) (sym (pow-add 2 i j) ∙ ap (λ (z : ℕ). 2 ^ z) e ∙ pow-add 2 k l) ∙ sym (mul_assoc m (2 ^ k) (2 ^ l))

-- the leading digit stands at place 52 where it stood at 23
led : (m k : ℕ) → 2 ^ 23 ≤ m → field_units binary64 (suc k) ((m - 2 ^ 23) * 2 ^ 29) ≡ m * 2 ^ 29 * 2 ^ k
led m k h = let e : 2 ^ 52 + (m - 2 ^ 23) * 2 ^ 29 ≡ m * 2 ^ 29 = omega arith in ap (λ (z : ℕ). z * 2 ^ k) e

normal-units : (e t : ℕ) → 0 < e → field_units binary64 (e + 896) (t * 2 ^ 29) ≡ field_units binary32 e t * 2 ^ 925
normal-units zero t h = absurd (none h)
  where
    none : 0 < 0 → ⊥
    none h = omega arith
normal-units (suc x) t h =
    let i : suc x + 896 ≡ suc (x + 896) = omega arith in
    let j : t ≡ 2 ^ 23 + t - 2 ^ 23 = omega arith in
    ap (λ (z : ℕ). field_units binary64 z (t * 2 ^ 29)) i ∙ ap (λ (z : ℕ). field_units binary64 (suc (x + 896)) (z * 2 ^ 29)) j ∙ led (2 ^ 23 + t) (x + 896) (omega arith) ∙ powers-regrouped (2 ^ 23 + t) 29 (x + 896) x 925 (omega arith)

pub normal-same : (b : ℕ) → b < 2 ^ 32 → InClass binary32 Normal b → of_bits binary64 (wide_bits (sign_bit binary32 b) (biased_exponent binary32 b + 896) (trailing_significand binary32 b * 2 ^ 29)) ≡ of_bits binary32 b
normal-same b h c =
    same_units b (sign_bit binary32 b) (biased_exponent binary32 b + 896) (trailing_significand binary32 b * 2 ^ 29) h refl (omega arith) (omega arith) c.1 (normal-units (biased_exponent binary32 b) (trailing_significand binary32 b) c.0)

subnormal-units : (t m p : ℕ) → Normalised (t * 2 ^ 149) m p → field_units binary64 (p + 748) ((m - 2 ^ 23) * 2 ^ 29) ≡ t * 2 ^ 925
subnormal-units t m p n =
    let i : p + 748 ≡ suc (p + 747) = omega arith in
    ap (λ (z : ℕ). field_units binary64 z ((m - 2 ^ 23) * 2 ^ 29)) i ∙ led m (p + 747) n.leading ∙ powers-regrouped m 29 (p + 747) p 776 (omega arith) ∙ ap (λ (z : ℕ). z * 2 ^ 776) n.value ∙ mul_assoc t (2 ^ 149) (2 ^ 776)

pub subnormal-same : (s t m p : ℕ) → s < 2 → t < 2 ^ 23 → Normalised (t * 2 ^ 149) m p → of_bits binary64 (wide_bits s (p + 748) ((m - 2 ^ 23) * 2 ^ 29)) ≡ of_bits binary32 (s * 2 ^ 31 + t)
subnormal-same s t m p h l n =
    let b = s * 2 ^ 31 + t in
    let e : biased_exponent binary32 b ≡ 0 = omega arith in
    let d : trailing_significand binary32 b ≡ t = omega arith in
    same_units b s (p + 748) ((m - 2 ^ 23) * 2 ^ 29) (omega arith) (omega arith) (omega (arith, n.most)) (omega (arith, n.leading, n.digits)) (omega arith)
    (subnormal-units t m p n ∙ sym (ap (λ (z : ℕ). field_units binary32 z (trailing_significand binary32 b) * 2 ^ 925) e ∙ ap (λ (z : ℕ). z * 2 ^ 925) d))

-- a pattern with a biased exponent of 0 is its other two fields
pub two_fields : (b : ℕ) → b < 2 ^ 32 → biased_exponent binary32 b ≡ 0 → sign_bit binary32 b * 2 ^ 31 + trailing_significand binary32 b ≡ b
two_fields b h e = omega (arith, mod-mod-pow b 8 23)

-- ---- infinities

infinity-fields : (f : Format) (s : Bool) → of_fields f s (ones f) 0 ≡ inf s
unfolding of_fields
infinity-fields binary32 s = refl
infinity-fields binary64 s = refl

infinity-is : (f : Format) (b : ℕ) → b < 2 * top f → InClass f Infinity b → of_bits f b ≡ inf (eqb (sign_bit f b) 1)
infinity-is f b h c =
    by-fields f b h ∙ ap (λ (z : ℕ). of_fields f (eqb (sign_bit f b) 1) z (trailing_significand f b)) c.0 ∙ ap (λ (z : ℕ). of_fields f (eqb (sign_bit f b) 1) (ones f) z) c.1 ∙ infinity-fields f (eqb (sign_bit f b) 1)

pub infinity-same : (b : ℕ) → b < 2 ^ 32 → InClass binary32 Infinity b → of_bits binary64 (wide_bits (sign_bit binary32 b) 2047 0) ≡ of_bits binary32 b
infinity-same b h c =
    let s = sign_bit binary32 b in
    let g = fields-of s 2047 0 (omega arith) (omega arith) (omega arith) in
    infinity-is binary64 (wide_bits s 2047 0) (bits-lt s 2047 0 (omega arith) (omega arith) (omega arith)) (g.exponent, g.trailing) ∙ ap (λ (z : ℕ). inf (eqb z 1)) g.sign ∙ sym (infinity-is binary32 b h c)
