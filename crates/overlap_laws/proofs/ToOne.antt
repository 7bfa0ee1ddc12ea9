-- An overlap of two boxes of f32 is at most 1: the common part is no larger than the union. Assumes nothing.
use mathlib.Core.Path.{◌≡◌, refl, sym, ap, ◌∙◌, subst}
use mathlib.Core.Logic.{inl, inr}
use mathlib.Core.Bool.{Bool, true, false, cond}
use Prim.Native.Nat.{ℕ, zero, suc, ◌*◌, ◌≤◌, ◌<◌}
use native.Mathlib.Nat.{le_trans, le_of_eq, mul-pos, mul-one, one-mul, zero-mul, mul-zero, zero-lt-suc}
use lib.IntN.{ℤ, pos}
use lib.Dec.{T, lt→ltb, eqb-suc-zero}
use lib.Ieee.{Float, nan, inf, fin, binary32, up, down, unlike, round, add, sub, mul, div, lt, le, of_bits}
use lib.Ieee.Fits.{down_pos, up_pos, mul-fits}
use lib.Ieee.Order.{round_mono}
use lib.Ieee.Positive.{positive, le→cross, mul_mono, positive-finite}
use lib.Ieee.Scale.{finite}
use Rattle.ieee.specs.Ops.{f32}
use Rattle.object.specs.declared.Corners.{Corners}
use Rattle.pair.specs.Overlap.{side_of, area_of, inter_of, share_of, overlap_of}
use Rattle.overlap_laws.specs.Laws.{OfF32, x_side, y_side}
use Rattle.overlap_laws.proofs.Signed.{negative-round, zero-round}
use Rattle.overlap_laws.proofs.Finite.{add-finite, sub-finite, mul-finite, lt_above}
use Rattle.overlap_laws.proofs.FromZero.{nonneg, some-sign, side-nonneg, inter-nonneg, inter-finite, round-of-zero, zero-times}
use Rattle.overlap_laws.proofs.Sides.{axis}
use Rattle.overlap_laws.proofs.Union.{no-larger}

-- ---- a product above zero of two that are not below it: both are above
round-not-above : (s : Bool) (a c : ℕ) → 0 < c → a ≡ 0 → T (positive (round binary32 s a c)) → ⊥
round-not-above true a c C e h = negative-round binary32 a c h
round-not-above false a c C e h = zero-round binary32 a c C e h

some-positive : (s : Bool) (m : ℕ) (e : ℤ) → s ≡ false → T (positive (fin s (suc m) e))
some-positive s m e h = rw h (lt→ltb 0 (suc m) (zero-lt-suc m))

factors : (s t : Bool) (m n : ℕ) (e d : ℤ) → T (nonneg (fin s m e)) → T (nonneg (fin t n d)) → T (positive (round binary32 (unlike s t) (m * up e * (n * up d)) (down e * down d)))
    → T (positive (fin s m e)) × T (positive (fin t n d))
factors s t zero n e d p q h = absurd (round-not-above (unlike s t) (0 * up e * (n * up d)) (down e * down d) (mul-pos (down_pos e) (down_pos d)) (zero-times (up e) (n * up d)) h)
factors s t (suc m) zero e d p q h =
    absurd (round-not-above (unlike s t) (suc m * up e * (0 * up d)) (down e * down d) (mul-pos (down_pos e) (down_pos d)) (ap (λ (z : ℕ). suc m * up e * z) (zero-mul (up d)) ∙ mul-zero (suc m * up e)) h)
factors s t (suc m) (suc n) e d p q h = (some-positive s m e (some-sign s m p), some-positive t n d (some-sign t n q))

mul-positive : (x y : Float) → T (nonneg x) → T (nonneg y) → T (positive (mul binary32 x y)) → T (positive x) × T (positive y)
unfolding mul
mul-positive x y p q h = go x y p q (mul-finite binary32 x y (positive-finite (mul binary32 x y) h)) h
  where
    go : (x y : Float) → T (nonneg x) → T (nonneg y) → T (finite x) × T (finite y) → T (positive (mul binary32 x y)) → T (positive x) × T (positive y)
    go nan y p q f h = absurd f.0
    go (inf s) y p q f h = absurd f.0
    go (fin s m e) nan p q f h = absurd f.1
    go (fin s m e) (inf t) p q f h = absurd f.1
    go (fin s m e) (fin t n d) p q f h = factors s t m n e d p q h

-- ---- the common part is no larger than the union
within-union : (d t : Corners) → OfF32 d → OfF32 t → T (positive (inter_of d t)) → T (finite (sub binary32 (add binary32 (area_of d) (area_of t)) (inter_of d t))) → T (le (inter_of d t) (sub binary32 (add binary32 (area_of d) (area_of t)) (inter_of d t)))
unfolding inter_of area_of
within-union d t p q pI fU =
    let w = side_of d.x1 d.x2 t.x1 t.x2 in
    let h = side_of d.y1 d.y2 t.y1 t.y2 in
    let A = mul binary32 (x_side d) (y_side d) in
    let B = mul binary32 (x_side t) (y_side t) in
    let both = mul-positive w h (side-nonneg d.x1 d.x2 t.x1 t.x2) (side-nonneg d.y1 d.y2 t.y1 t.y2) pI in
    let areas = add-finite binary32 A B (sub-finite binary32 (add binary32 A B) (mul binary32 w h) fU).0 in
    let fd = mul-finite binary32 (x_side d) (y_side d) areas.0 in
    let ft = mul-finite binary32 (x_side t) (y_side t) areas.1 in
    let x = axis d.x1 d.x2 t.x1 t.x2 p.x1 p.x2 q.x1 q.x2 both.0 fd.0 ft.0 in
    let y = axis d.y1 d.y2 t.y1 t.y2 p.y1 p.y2 q.y1 q.y2 both.1 fd.1 ft.1 in
    no-larger (mul binary32 w h) A B (mul-fits binary32 w h) (mul-fits binary32 (x_side d) (y_side d)) (mul-fits binary32 (x_side t) (y_side t)) pI
    (mul_mono binary32 w (x_side d) h (y_side d) both.0 x.first both.1 y.first x.in-first y.in-first)
    (mul_mono binary32 w (x_side t) h (y_side t) both.0 x.second both.1 y.second x.in-second y.in-second)
    fU

-- ---- the share
pub one-is : round binary32 false 1 1 ≡ f32 0x3f80_0000
unfolding round of_bits
one-is = refl

signed-zero-to-1 : (s : Bool) → T (le (fin s 0 (pos 0)) (f32 0x3f80_0000))
unfolding le of_bits
signed-zero-to-1 true = tt
signed-zero-to-1 false = tt

round-to-1 : (a b : ℕ) → 0 < b → a ≤ b → T (le (round binary32 false a b) (f32 0x3f80_0000))
round-to-1 a b B h = subst (λ (z : Float). T (le (round binary32 false a b) z)) one-is (round_mono binary32 a b 1 1 B (zero-lt-suc 0) (le_trans (le_of_eq (mul-one a)) (le_trans h (le_of_eq (sym (one-mul b))))))

div-to-1 : (x y : Float) → T (finite x) → T (nonneg x) → T (positive y) → (T (positive x) → T (le x y)) → T (le (div binary32 x y) (f32 0x3f80_0000))
unfolding div
div-to-1 nan y f p q k = absurd f
div-to-1 (inf s) y f p q k = absurd f
div-to-1 (fin s m e) nan f p q k = absurd q
div-to-1 (fin s m e) (inf t) f p q k = absurd q
div-to-1 (fin s m e) (fin true n d) f p q k = absurd q
div-to-1 (fin s m e) (fin false zero d) f p q k = absurd q
div-to-1 (fin s zero e) (fin false (suc n) d) f p q k =
    rw (eqb-suc-zero n) (subst (λ (z : Float). T (le z (f32 0x3f80_0000))) (sym (round-of-zero (unlike s false) (0 * up e * down d) (suc n * up d * down e) (mul-pos (mul-pos (zero-lt-suc n) (up_pos d)) (down_pos e)) (zero-times (up e) (down d)))) (signed-zero-to-1 (unlike s false)))
div-to-1 (fin true (suc m) e) (fin false (suc n) d) f p q k = absurd (subst T (eqb-suc-zero m) p)
div-to-1 (fin false (suc m) e) (fin false (suc n) d) f p q k =
    let g : T (positive (fin false (suc m) e)) = lt→ltb 0 (suc m) (zero-lt-suc m) in
    rw (eqb-suc-zero n) (round-to-1 (suc m * up e * down d) (suc n * up d * down e) (mul-pos (mul-pos (zero-lt-suc n) (up_pos d)) (down_pos e)) (le→cross (fin false (suc m) e) (fin false (suc n) d) g q (k g)))

over-infinity-to-1 : (x : Float) → T (finite x) → T (le (div binary32 x (inf false)) (f32 0x3f80_0000))
unfolding div
over-infinity-to-1 nan f = absurd f
over-infinity-to-1 (inf s) f = absurd f
over-infinity-to-1 (fin s m e) f = signed-zero-to-1 (unlike s false)

zero-to-1 : T (le (f32 0) (f32 0x3f80_0000))
unfolding le of_bits
zero-to-1 = tt

share-to-1 : (i S : Float) → T (nonneg i) → (T (positive i) → T (finite (sub binary32 S i)) → T (le i (sub binary32 S i))) → T (le (share_of i (sub binary32 S i)) (f32 0x3f80_0000))
unfolding share_of
share-to-1 i S p k = go (lt (f32 0) (sub binary32 S i)) (λ h. h)
  where
    go : (b : Bool) → (T b → T (lt (f32 0) (sub binary32 S i))) → T (le (cond b (div binary32 i (sub binary32 S i)) (f32 0)) (f32 0x3f80_0000))
    go false h = zero-to-1
    go true h = elim (lt_above (sub binary32 S i) (h tt)) [
      | inl q ↦ div-to-1 i (sub binary32 S i) (inter-finite i S p (h tt)) p q (λ g. k g (positive-finite (sub binary32 S i) q))
      | inr e ↦ subst (λ (z : Float). T (le (div binary32 i z) (f32 0x3f80_0000))) (sym e) (over-infinity-to-1 i (inter-finite i S p (h tt)))
    ]

pub to_1 : (d t : Corners) → OfF32 d → OfF32 t → T (le (overlap_of d t) (f32 0x3f80_0000))
unfolding overlap_of
to_1 d t p q = share-to-1 (inter_of d t) (add binary32 (area_of d) (area_of t)) (inter-nonneg d t) (within-union d t p q)
