-- An overlap is at least 0, whatever numbers the boxes hold: the common part is never below zero, and where the union is above zero it is finite. So an overlap is no NaN.
-- Assumes nothing.
use mathlib.Core.Path.{◌≡◌, refl, sym, ap, ◌∙◌, subst}
use mathlib.Core.Logic.{◌⊎◌, inl, inr}
use mathlib.Core.Bool.{Bool, true, false, not, cond, ◌||◌}
use Prim.Native.Nat.{ℕ, zero, suc, ◌+◌, ◌-◌, ◌*◌, ◌/◌, ◌%◌, ◌^◌, ◌<◌, zero-le, compare}
use native.Mathlib.Nat.{le_trans, le_of_eq, lt_of_lt_of_le, mul_assoc, mul-pos, mul-one, zero-mul, mul-zero, zero-lt-suc, le-add_right}
use lib.IntN.{ℤ, pos}
use lib.Dec.{T, ltb, eqb, lt→ltb, eqb-suc-zero, T_not}
use lib.Ieee.{Float, nan, inf, fin, binary32, up, down, unlike, size, nearest, odd, units, round, add, sub, neg, mul, div, lt, le, is_nan, of_bits}
use lib.Ieee.Fits.{down_pos, up_pos, round_is}
use lib.Ieee.Order.{round_mono}
use lib.Ieee.Positive.{positive}
use lib.Ieee.Scale.{finite, round_same}
use Rattle.ieee.specs.Ops.{f32, max_of, min_of}
use Rattle.object.specs.declared.Corners.{Corners}
use Rattle.pair.specs.Overlap.{side_of, area_of, inter_of, share_of, overlap_of}
use Rattle.overlap_laws.proofs.Finite.{lt_above}

-- no number below zero; a NaN is none
abbrev pub nonneg : Float → Bool
nonneg nan = true
nonneg (inf s) = not s
nonneg (fin s m e) = not s || eqb m 0

pub some-sign : (s : Bool) (m : ℕ) → T (not s || eqb (suc m) 0) → s ≡ false
some-sign true m h = absurd (subst T (eqb-suc-zero m) h)
some-sign false m h = refl

-- ---- the length in common: the larger of a difference and 0
zero_number : is_nan (f32 0) ≡ false
unfolding is_nan of_bits
zero_number = refl

pub max-zero : (z : Float) → (max_of z (f32 0) ≡ f32 0) ⊎ ((max_of z (f32 0) ≡ z) × T (not (lt z (f32 0))))
unfolding max_of
max-zero z = go (is_nan z) (lt z (f32 0))
  where
    go : (a b : Bool) → (cond a (f32 0) (cond (is_nan (f32 0)) z (cond b (f32 0) z)) ≡ f32 0) ⊎ ((cond a (f32 0) (cond (is_nan (f32 0)) z (cond b (f32 0) z)) ≡ z) × T (not b))
    go true b = inl refl
    go false true = inl (rw zero_number)
    go false false = inr (rw zero_number, tt)

zero-nonneg : T (nonneg (f32 0))
unfolding of_bits
zero-nonneg = tt

not-below-zero : (z : Float) → T (not (lt z (f32 0))) → T (nonneg z)
unfolding lt of_bits
not-below-zero nan h = tt
not-below-zero (inf s) h = h
not-below-zero (fin false m e) h = tt
not-below-zero (fin true zero e) h = tt
not-below-zero (fin true (suc m) e) h =
    absurd (T_not (ltb 0 (suc m * up e * 1 + 0 * 1 * down e)) h
    (lt→ltb 0 (suc m * up e * 1 + 0 * 1 * down e) (lt_of_lt_of_le (mul-pos (mul-pos (zero-lt-suc m) (up_pos e)) (zero-lt-suc 0)) (le-add_right (suc m * up e * 1) (0 * 1 * down e)))))

pub side-nonneg : (a b c d : Float) → T (nonneg (side_of a b c d))
unfolding side_of
side-nonneg a b c d = elim (max-zero (sub binary32 (min_of b d) (max_of a c))) [
  | inl e ↦ subst (λ (z : Float). T (nonneg z)) (sym e) zero-nonneg
  | inr e ↦ subst (λ (z : Float). T (nonneg z)) (sym e.0) (not-below-zero (sub binary32 (min_of b d) (max_of a c)) e.1)
]

-- ---- a product of two such
round-nothing : (s : Bool) → round binary32 s 0 1 ≡ fin s 0 (pos 0)
unfolding round
round-nothing s = refl

pub round-of-zero : (s : Bool) (a c : ℕ) → 0 < c → a ≡ 0 → round binary32 s a c ≡ fin s 0 (pos 0)
round-of-zero s a c h e = round_same binary32 s a c 0 1 h (zero-lt-suc 0) (mul-one a ∙ e ∙ sym (zero-mul c)) ∙ round-nothing s

pub zero-times : (x y : ℕ) → 0 * x * y ≡ 0
zero-times x y = ap (λ (z : ℕ). z * y) (zero-mul x) ∙ zero-mul y

odd-nonneg : (d q k l : ℕ) → T (nonneg (odd d false q k l))
unfolding odd
odd-nonneg d zero k l = tt
odd-nonneg d (suc q) k l = tt

units-nonneg : (q k : ℕ) → T (nonneg (units binary32 false q k))
unfolding units
units-nonneg q k = go (ltb (q * 2 ^ k) (2 ^ 277))
  where
    go : (b : Bool) → T (nonneg (cond b (odd 25 false q k 149) (inf false)))
    go true = odd-nonneg 25 q k 149
    go false = tt

round-nonneg : (a c : ℕ) → T (nonneg (round binary32 false a c))
round-nonneg a c =
    let k = size (a * 2 ^ 149 / c) - 24 in
    let u = c * 2 ^ k in
    subst (λ (x : Float). T (nonneg x)) (sym (round_is binary32 false a c)) (units-nonneg (nearest (a * 2 ^ 149 / u) (compare (a * 2 ^ 149 % u * 2) u)) k)

signed-zero-nonneg : (s : Bool) → T (nonneg (fin s 0 (pos 0)))
signed-zero-nonneg true = tt
signed-zero-nonneg false = tt

product-of-zero : (s : Bool) (a c : ℕ) → 0 < c → a ≡ 0 → T (nonneg (round binary32 s a c))
product-of-zero s a c h e = subst (λ (x : Float). T (nonneg x)) (sym (round-of-zero s a c h e)) (signed-zero-nonneg s)

products : (s t : Bool) (m n : ℕ) (e d : ℤ) → T (not s || eqb m 0) → T (not t || eqb n 0) → T (nonneg (round binary32 (unlike s t) (m * up e * (n * up d)) (down e * down d)))
products s t zero n e d p q = product-of-zero (unlike s t) (0 * up e * (n * up d)) (down e * down d) (mul-pos (down_pos e) (down_pos d)) (zero-times (up e) (n * up d))
products s t (suc m) zero e d p q =
    product-of-zero (unlike s t) (suc m * up e * (0 * up d)) (down e * down d) (mul-pos (down_pos e) (down_pos d)) (ap (λ (z : ℕ). suc m * up e * z) (zero-mul (up d)) ∙ mul-zero (suc m * up e))
products s t (suc m) (suc n) e d p q = rw (some-sign s m p, some-sign t n q) (round-nonneg (suc m * up e * (suc n * up d)) (down e * down d))

-- an infinity times a finite value: a NaN or an infinity above zero
by-infinity : (s : Bool) (m : ℕ) (t : Bool) → T (not s || eqb m 0) → t ≡ s → T (nonneg (cond (eqb m 0) nan (inf t)))
by-infinity s zero t p e = tt
by-infinity s (suc m) t p e = rw (eqb-suc-zero m, e, some-sign s m p) tt

mul-nonneg : (x y : Float) → T (nonneg x) → T (nonneg y) → T (nonneg (mul binary32 x y))
unfolding mul
mul-nonneg nan y p q = tt
mul-nonneg (inf s) nan p q = tt
mul-nonneg (inf true) (inf t) p q = absurd p
mul-nonneg (inf false) (inf true) p q = absurd q
mul-nonneg (inf false) (inf false) p q = tt
mul-nonneg (inf true) (fin t n d) p q = absurd p
mul-nonneg (inf false) (fin true n d) p q = by-infinity true n true q refl
mul-nonneg (inf false) (fin false n d) p q = by-infinity false n false q refl
mul-nonneg (fin s m e) nan p q = tt
mul-nonneg (fin s m e) (inf true) p q = absurd q
mul-nonneg (fin true m e) (inf false) p q = by-infinity true m true p refl
mul-nonneg (fin false m e) (inf false) p q = by-infinity false m false p refl
mul-nonneg (fin s m e) (fin t n d) p q = products s t m n e d p q

pub inter-nonneg : (d t : Corners) → T (nonneg (inter_of d t))
unfolding inter_of
inter-nonneg d t = mul-nonneg (side_of d.x1 d.x2 t.x1 t.x2) (side_of d.y1 d.y2 t.y1 t.y2) (side-nonneg d.x1 d.x2 t.x1 t.x2) (side-nonneg d.y1 d.y2 t.y1 t.y2)

-- ---- where S less the common part is above zero, the common part is finite
less-nan : (S : Float) → T (lt (f32 0) (sub binary32 S nan)) → ⊥
unfolding sub add neg lt of_bits
less-nan nan h = h
less-nan (inf s) h = h
less-nan (fin s m e) h = h

less-infinity : (S : Float) → T (lt (f32 0) (sub binary32 S (inf false))) → ⊥
unfolding sub add neg lt of_bits
less-infinity nan h = h
less-infinity (inf true) h = h
less-infinity (inf false) h = h
less-infinity (fin s m e) h = h

pub inter-finite : (i S : Float) → T (nonneg i) → T (lt (f32 0) (sub binary32 S i)) → T (finite i)
inter-finite nan S p h = absurd (less-nan S h)
inter-finite (inf true) S p h = absurd p
inter-finite (inf false) S p h = absurd (less-infinity S h)
inter-finite (fin s m e) S p h = tt

-- ---- the share
zero_is : round binary32 false 0 1 ≡ f32 0
unfolding round of_bits
zero_is = refl

signed-zero-from-0 : (s : Bool) → T (le (f32 0) (fin s 0 (pos 0)))
unfolding le of_bits
signed-zero-from-0 true = tt
signed-zero-from-0 false = tt

round-from-0 : (s : Bool) (m k c : ℕ) → T (not s || eqb m 0) → 0 < c → T (le (f32 0) (round binary32 s (m * k) c))
round-from-0 s zero k c p h = subst (λ (x : Float). T (le (f32 0) x)) (sym (round-of-zero s (0 * k) c h (zero-mul k))) (signed-zero-from-0 s)
round-from-0 s (suc m) k c p h =
    rw (some-sign s m p) (subst (λ (z : Float). T (le z (round binary32 false (suc m * k) c))) zero_is (round_mono binary32 0 1 (suc m * k) c (zero-lt-suc 0) h (le_trans (le_of_eq (zero-mul c)) zero-le)))

unlike-false : (s : Bool) → unlike s false ≡ s
unlike-false true = refl
unlike-false false = refl

div-from-0 : (x y : Float) → T (finite x) → T (nonneg x) → T (positive y) → T (le (f32 0) (div binary32 x y))
unfolding div
div-from-0 nan y f p q = absurd f
div-from-0 (inf s) y f p q = absurd f
div-from-0 (fin s m e) nan f p q = absurd q
div-from-0 (fin s m e) (inf t) f p q = absurd q
div-from-0 (fin s m e) (fin true n d) f p q = absurd q
div-from-0 (fin s m e) (fin false zero d) f p q = absurd q
div-from-0 (fin s m e) (fin false (suc n) d) f p q = rw (eqb-suc-zero n, unlike-false s, mul_assoc m (up e) (down d)) (round-from-0 s m (up e * down d) (suc n * up d * down e) p (mul-pos (mul-pos (zero-lt-suc n) (up_pos d)) (down_pos e)))

over-infinity-from-0 : (x : Float) → T (finite x) → T (le (f32 0) (div binary32 x (inf false)))
unfolding div
over-infinity-from-0 nan f = absurd f
over-infinity-from-0 (inf s) f = absurd f
over-infinity-from-0 (fin s m e) f = signed-zero-from-0 (unlike s false)

zero-from-0 : T (le (f32 0) (f32 0))
unfolding le of_bits
zero-from-0 = tt

share-from-0 : (i S : Float) → T (nonneg i) → T (le (f32 0) (share_of i (sub binary32 S i)))
unfolding share_of
share-from-0 i S p = go (lt (f32 0) (sub binary32 S i)) (λ h. h)
  where
    go : (b : Bool) → (T b → T (lt (f32 0) (sub binary32 S i))) → T (le (f32 0) (cond b (div binary32 i (sub binary32 S i)) (f32 0)))
    go false h = zero-from-0
    go true h = elim (lt_above (sub binary32 S i) (h tt)) [
      | inl q ↦ div-from-0 i (sub binary32 S i) (inter-finite i S p (h tt)) p q
      | inr e ↦ subst (λ (z : Float). T (le (f32 0) (div binary32 i z))) (sym e) (over-infinity-from-0 i (inter-finite i S p (h tt)))
    ]

pub from_0 : (d t : Corners) → T (le (f32 0) (overlap_of d t))
unfolding overlap_of
from_0 d t = share-from-0 (inter_of d t) (add binary32 (area_of d) (area_of t)) (inter-nonneg d t)
