-- What each class gives: the f64 has one pattern, which is the one that its class makes; only a NaN has many. Assumes nothing.
use mathlib.Core.Path.{◌≡◌, sym, ap, ◌∙◌, subst}
use Prim.Native.Nat.{ℕ, zero, suc, ◌+◌, ◌-◌, ◌*◌, ◌^◌, ◌≤◌, ◌<◌}
use native.Mathlib.Nat.{le_trans, le_of_eq, mul-le-mul_right, mul_assoc}
use native.Mathlib.Omega.{arith}
use mathlib.Core.Bool.{Bool, not}
use lib.Dec.{T}
use lib.Pow.{pow-add, shl_lt}
use lib.Ieee.{Float, Format, binary32, binary64, size, is_nan, of_bits, to_bits, top}
use lib.Ieee.Bits.{to_bits-of_bits, nan_bits_is}
use lib.Ieee.Digits.{size-lt, size-le, size_reaches}
use Rattle.ieee.specs.Patterns.{Normalised}
use Rattle.widening.specs.declared.Class.{Class}
use Rattle.widening.specs.declared.Class.TheVariants.{Zero, Subnormal, Normal, Infinity, NaN}
use Rattle.widening.specs.Classes.{sign_bit, biased_exponent, trailing_significand, InClass, Gives, ByClass}
use Rattle.widening.proofs.Classes.{class_by, in-class, one_class, class-nan, nan-class}
use Rattle.widening.proofs.Values.{wide_bits, Fields, fields-of, bits-lt, no-nan-bits, zero_same, normal-same, subnormal-same, two_fields, infinity-same}

-- a number has one pattern
one-pattern : (f : Format) (v w : ℕ) → v < 2 * top f → w < 2 * top f → of_bits f v ≡ of_bits f w → T (not (is_nan (of_bits f w))) → v ≡ w
one-pattern f v w h k e n = sym (to_bits-of_bits f v h (subst (λ (x : Float). T (not (is_nan x))) (sym e) n)) ∙ ap (to_bits f) e ∙ to_bits-of_bits f w k n

-- so a w with b's value has the fields that b's class makes
fields_made : (b w s e t : ℕ) → s < 2 → t < 2 ^ 52 → e * 2 ^ 52 + t ≤ 2047 * 2 ^ 52 → w < 2 ^ 64 → of_bits binary64 w ≡ of_bits binary32 b → of_bits binary64 (wide_bits s e t) ≡ of_bits binary32 b → Fields s e t w
fields_made b w s e t h k l i v u =
    let o : e < 2048 = omega arith in
    subst (Fields s e t) (sym (one-pattern binary64 w (wide_bits s e t) i (bits-lt s e t h o k) (v ∙ sym u) (subst (λ (z : Bool). T (not z)) (nan_bits_is binary64 (wide_bits s e t)) (no-nan-bits s e t h k l)))) (fields-of s e t h o k)

-- every subnormal has a leading digit
leading-digit : (t : ℕ) → 0 < t → t < 2 ^ 23 → (m : ℕ) × (p : ℕ) × Normalised (t * 2 ^ 149) m p
leading-digit t h l = go (size t) (size-lt t) (size_reaches t) (size-le t 23 l)
  where
    go : (n : ℕ) → t < 2 ^ n → ((j : ℕ) → j < n → 2 ^ j ≤ t) → n ≤ 23 → (m : ℕ) × (p : ℕ) × Normalised (t * 2 ^ 149) m p
    go zero u r k = absurd (none t h u)
      where
        none : (t : ℕ) → 0 < t → t < 1 → ⊥
        none t h u = omega arith
    go (suc n) u r k =
        let i : 23 - n + (126 + n) ≡ 149 = omega arith in
        let j : n + (23 - n) ≡ 23 = omega arith in
        let d : suc n + (23 - n) ≡ 24 = omega arith in (
          t * 2 ^ (23 - n),
          126 + n,
          record {
            value = mul_assoc t (2 ^ (23 - n)) (2 ^ (126 + n)) ∙ ap (λ (z : ℕ). t * z) (sym (pow-add 2 (23 - n) (126 + n)) ∙ ap (λ (z : ℕ). 2 ^ z) i);
            leading = le_trans (le_of_eq (ap (λ (z : ℕ). 2 ^ z) (sym j) ∙ pow-add 2 n (23 - n))) (mul-le-mul_right (2 ^ (23 - n)) (r n (omega arith)));
            digits = subst (λ (z : ℕ). t * 2 ^ (23 - n) < 2 ^ z) d (shl_lt (suc n) (23 - n) u);
            least = omega arith;
            most = omega arith;
          },
        )

gives : (c : Class) (b w : ℕ) → b < 2 ^ 32 → w < 2 ^ 64 → InClass binary32 c b → of_bits binary64 w ≡ of_bits binary32 b → Gives c b w
gives Zero b w h k c v =
    let g = fields_made b w (sign_bit binary32 b) 0 0 (omega arith) (omega arith) (omega arith) k v (zero_same b h c) in
    ((g.exponent, g.trailing), g.sign)
gives Subnormal b w h k c v =
    let d = leading-digit (trailing_significand binary32 b) c.1 (omega arith) in
    let n = d.2 in
    let g = fields_made b w (sign_bit binary32 b) (d.1 + 748) ((d.0 - 2 ^ 23) * 2 ^ 29) (omega arith) (omega (arith, n.leading, n.digits)) (omega (arith, n.leading, n.digits, n.most)) k v (subnormal-same (sign_bit binary32 b) (trailing_significand binary32 b) d.0 d.1 (omega arith) (omega arith) n ∙ ap (of_bits binary32) (two_fields b h c.0)) in
    ((omega (arith, g.exponent), omega (arith, g.exponent, n.most)), g.sign, v)
gives Normal b w h k c v =
    let g = fields_made b w (sign_bit binary32 b) (biased_exponent binary32 b + 896) (trailing_significand binary32 b * 2 ^ 29) (omega arith) (omega arith) (omega (arith, c.1)) k v (normal-same b h c) in
    ((omega (arith, g.exponent), omega (arith, g.exponent, c.1)), g.sign, v)
gives Infinity b w h k c v =
    let g = fields_made b w (sign_bit binary32 b) 2047 0 (omega arith) (omega arith) (omega arith) k v (infinity-same b h c) in
    ((g.exponent, g.trailing), g.sign)
gives NaN b w h k c v = nan-class binary64 w (ap is_nan v ∙ class-nan binary32 b c)

pub by_class : (x r : Float) → r ≡ x → ByClass x r
by_class x r e =
    record {
      same_value = e;
      by_class = λ b w h k i j.
          record { class = class_by binary32 b; one_class = one_class binary32 b (class_by binary32 b) (in-class b); gives = gives (class_by binary32 b) b w h k (in-class b) (j ∙ e ∙ sym i) };
    }
