-- A box with positive sides and an area above 0 and below 2 ^ 127 overlaps itself by exactly 1: the area's double is a value of the format, so the union is the area again. Assumes nothing.
use mathlib.Core.Path.{◌≡◌, refl, sym, ap, ◌∙◌}
use mathlib.Core.Bool.{Bool, true, false, cond}
use Prim.Native.Nat.{ℕ, zero, suc, ◌+◌, ◌-◌, ◌*◌, ◌^◌, ◌≤◌, ◌<◌}
use native.Mathlib.Nat.{lt_of_le_of_lt, mul-lt-mul_of_pos_right, mul-pos, mul-one, one-mul, zero-lt-suc, le-add_right}
use native.Mathlib.Omega.{arith}
use lib.IntN.{pos}
use lib.Dec.{T, lit<, lt→ltb, eqb-suc-zero}
use lib.Pow.{pow_pos}
use borrow.Author.Tests.{le-ltb, lt-ltb}
use lib.Ieee.{Float, nan, inf, fin, binary32, up, down, round, sum, add, sub, mul, div, lt, le, fits, is_nan, of_bits}
use lib.Ieee.Exact.{HasValue}
use lib.Ieee.Fits.{down_pos, up_pos, mul-fits, round-fits}
use lib.Ieee.Positive.{positive, le→cross}
use lib.Ieee.Scale.{finite, round_same}
use Rattle.ieee.specs.Ops.{f32, max_of, min_of}
use Rattle.ieee.proofs.Values.{same_value}
use Rattle.object.specs.declared.Corners.{Corners}
use Rattle.pair.specs.Overlap.{side_of, area_of, inter_of, share_of, overlap_of}
use Rattle.overlap_laws.specs.Laws.{x_side, y_side}
use Rattle.overlap_laws.proofs.Signed.{Less, add-units, sub-units, difference-above, lt_yes}
use Rattle.overlap_laws.proofs.Finite.{mul-finite, lt-positive}
use Rattle.overlap_laws.proofs.Union.{units-above, tally, exact, exact-double}
use Rattle.overlap_laws.proofs.ToOne.{one-is}

-- ---- a box's length in common with itself is its side
pick_same : (a b c : Bool) (x : Float) → cond a x (cond b x (cond c x x)) ≡ x
pick_same true b c x = refl
pick_same false true c x = refl
pick_same false false true x = refl
pick_same false false false x = refl

min-same : (x : Float) → min_of x x ≡ x
unfolding min_of
min-same x = pick_same (is_nan x) (is_nan x) (lt x x) x

max-same : (x : Float) → max_of x x ≡ x
unfolding max_of
max-same x = pick_same (is_nan x) (is_nan x) (lt x x) x

max-positive : (x : Float) → T (positive x) → max_of x (f32 0) ≡ x
unfolding max_of is_nan lt of_bits
max-positive nan p = absurd p
max-positive (inf s) p = absurd p
max-positive (fin true m e) p = absurd p
max-positive (fin false m e) p = ap (λ (b : Bool). cond b (fin false 0 (pos 0)) (fin false m e)) (le-ltb (m * up e * 1) (0 * 1 * down e) (no_less (m * up e * 1) (down e)))
  where
    no_less : (x y : ℕ) → 0 * 1 * y ≤ x
    no_less x y = omega arith

side-itself : (a b : Float) → T (positive (sub binary32 b a)) → side_of a b a b ≡ sub binary32 b a
unfolding side_of
side-itself a b p = rw (min-same b, max-same a) (max-positive (sub binary32 b a) p)

-- ---- x over x
above_zero : (x : Float) → T (positive x) → lt (f32 0) x ≡ true
unfolding lt of_bits
above_zero nan p = absurd p
above_zero (inf s) p = absurd p
above_zero (fin true m e) p = absurd p
above_zero (fin false zero e) p = absurd p
above_zero (fin false (suc m) e) p = lt-ltb (0 * 1 * down e) (suc m * up e * 1) (lt_of_le_of_lt (no_less (down e)) (mul-pos (mul-pos (zero-lt-suc m) (up_pos e)) (zero-lt-suc 0)))
  where
    no_less : (y : ℕ) → 0 * 1 * y ≤ 0
    no_less y = omega arith

over-itself : (x : Float) → T (positive x) → div binary32 x x ≡ f32 0x3f80_0000
unfolding div
over-itself nan p = absurd p
over-itself (inf s) p = absurd p
over-itself (fin true m e) p = absurd p
over-itself (fin false zero e) p = absurd p
over-itself (fin false (suc m) e) p =
    let k = suc m * up e * down e in
    ap (λ (b : Bool). cond b (cond b nan (inf false)) (round binary32 false k k)) (eqb-suc-zero m)
    ∙ round_same binary32 false k k 1 1 (mul-pos (mul-pos (zero-lt-suc m) (up_pos e)) (down_pos e)) (zero-lt-suc 0) (mul-one k ∙ sym (one-mul k))
    ∙ one-is

-- ---- x + x - x
limit-value : HasValue (f32 0x7f00_0000) false (2 ^ 276) (2 ^ 149)
unfolding of_bits
limit-value = (refl, refl)

twice-less-once : (x : Float) → T (fits binary32 x) → T (positive x) → T (lt x (f32 0x7f00_0000)) → sub binary32 (add binary32 x x) x ≡ x
unfolding sum
twice-less-once x f p l =
    let u = units-above x f p in
    let a = tally u in
    let h : Less false a false (2 ^ 276) = lt_yes x (f32 0x7f00_0000) false false a (2 ^ 276) (2 ^ 149) (pow_pos 149) u.value limit-value l in
    let d : a + a < 2 ^ 277 = double a (2 ^ 276) h in
    let s : add binary32 x x ≡ round binary32 false (a + a) (2 ^ 149) = add-units binary32 x x false false a a (2 ^ 149) (pow_pos 149) u.value u.value in
    ap (λ (z : Float). sub binary32 z x) s
    ∙ sub-units binary32 (round binary32 false (a + a) (2 ^ 149)) x false false (a + a) a (2 ^ 149) (pow_pos 149) (exact-double x u d) u.value
    ∙ difference-above binary32 false false (a + a) a (2 ^ 149) (more a u.nonzero)
    ∙ ap (λ (z : ℕ). round binary32 false z (2 ^ 149)) (less a)
    ∙ same_value binary32 (round binary32 false a (2 ^ 149)) x false a (round-fits binary32 false a (2 ^ 149)) f (exact x u (lt_of_le_of_lt (le-add_right a a) d)) u.value
  where
    double : (a k : ℕ) → a + 0 < k + 0 → a + a < k + k
    double a k h = omega arith

    more : (a : ℕ) → 0 < a → a + 0 < a + a + 0
    more a h = omega arith

    less : (a : ℕ) → a + a + 0 - (a + 0) ≡ a
    less a = omega arith

lt-finite : (x : Float) → T (lt (f32 0) x) → T (lt x (f32 0x7f00_0000)) → T (finite x)
unfolding lt of_bits
lt-finite nan p h = p
lt-finite (inf true) p h = p
lt-finite (inf false) p h = h
lt-finite (fin s m e) p h = tt

-- ---- the law
pub itself_below : (b : Corners) → T (lt (f32 0) (x_side b)) → T (lt (f32 0) (y_side b)) → T (lt (f32 0) (area_of b)) → T (lt (area_of b) (f32 0x7f00_0000)) → overlap_of b b ≡ f32 0x3f80_0000
unfolding overlap_of share_of inter_of area_of
itself_below b px py pa l =
    let A = mul binary32 (x_side b) (y_side b) in
    let fA : T (finite A) = lt-finite A pa l in
    let fs = mul-finite binary32 (x_side b) (y_side b) fA in
    let p : T (positive A) = lt-positive A pa fA in
    let ex = side-itself b.x1 b.x2 (lt-positive (x_side b) px fs.0) in
    let ey = side-itself b.y1 b.y2 (lt-positive (y_side b) py fs.1) in
    let u = twice-less-once A (mul-fits binary32 (x_side b) (y_side b)) p l in
    rw (ex, ey, u, above_zero A p) (over-itself A p)

le-finite : (x : Float) → T (lt (f32 0) x) → T (le x (f32 0x7e80_0000)) → T (finite x)
unfolding lt le of_bits
le-finite nan p h = p
le-finite (inf true) p h = p
le-finite (inf false) p h = h
le-finite (fin s m e) p h = tt

at-most-below : (x : Float) → T (positive x) → T (le x (f32 0x7e80_0000)) → T (lt x (f32 0x7f00_0000))
unfolding lt of_bits
at-most-below nan p h = absurd p
at-most-below (inf s) p h = absurd p
at-most-below (fin true m e) p h = absurd p
at-most-below (fin false m e) p h =
    let g : m * up e * 1 ≤ 1 * 2 ^ 126 * down e = le→cross (fin false m e) (fin false 1 (pos 126)) p tt h in
    lt→ltb (m * up e * 1) (1 * 2 ^ 127 * down e) (lt_of_le_of_lt g (mul-lt-mul_of_pos_right (lit< tt) (down_pos e)))

pub itself : (b : Corners) → T (lt (f32 0) (x_side b)) → T (lt (f32 0) (y_side b)) → T (lt (f32 0) (area_of b)) → T (le (area_of b) (f32 0x7e80_0000)) → overlap_of b b ≡ f32 0x3f80_0000
itself b px py pa l = itself_below b px py pa (at-most-below (area_of b) (lt-positive (area_of b) pa (le-finite (area_of b) pa l)) l)
