-- One axis: what two boxes have in common there is no longer than either one's side. Assumes nothing.
use mathlib.Core.Path.{◌≡◌, refl, sym, ◌∙◌, subst}
use mathlib.Core.Logic.{inl, inr}
use mathlib.Core.Bool.{Bool, true, false, not, cond}
use Prim.Native.Nat.{ℕ, ◌+◌, ◌-◌, ◌*◌, ◌^◌, ◌≤◌, ◌<◌}
use native.Mathlib.Nat.{le_of_eq, le_of_lt, lt_of_not-le, mul-le-mul_right}
use native.Mathlib.Omega.{arith}
use lib.Dec.{T}
use lib.Pow.{pow_pos}
use lib.Ieee.{Float, nan, inf, fin, binary32, round, sum, sub, lt, le, fits, is_nan, of_bits}
use lib.Ieee.Exact.{HasValue}
use lib.Ieee.Order.{round_mono}
use lib.Ieee.Positive.{positive, above_of_le}
use lib.Ieee.Scale.{finite}
use Rattle.ieee.specs.Ops.{f32, max_of, min_of}
use Rattle.ieee.proofs.Grid.{digits}
use Rattle.pair.specs.Overlap.{side_of}
use Rattle.overlap_laws.proofs.Signed.{pos-part, neg-part, Less, AtMost, ahead, sub-units, difference-above, difference-not-above, lt_yes, lt_no}
use Rattle.overlap_laws.proofs.Finite.{sub-finite, above-finite}
use Rattle.overlap_laws.proofs.FromZero.{max-zero}

-- ---- the smaller and the larger of two finite values

-- x is one of two values, and stands to both as R says
record Picked (R : Bool → ℕ → Bool → ℕ → Type 0) (x : Float) (s : Bool) (a : ℕ) (t : Bool) (b : ℕ) : Type 0 where
  r : Bool
  n : ℕ
  value : HasValue x r n (2 ^ 149)
  first : R r n s a
  second : R r n t b

abbrev AtLeast : Bool → ℕ → Bool → ℕ → Type 0
AtLeast r n s a = AtMost s a r n

min-units : (x y : Float) (s t : Bool) (a b : ℕ) → HasValue x s a (2 ^ 149) → HasValue y t b (2 ^ 149) → Picked AtMost (min_of x y) s a t b
unfolding min_of is_nan
min-units nan y s t a b v w = absurd v
min-units (inf r) y s t a b v w = absurd v
min-units (fin r m e) nan s t a b v w = absurd w
min-units (fin r m e) (inf q) s t a b v w = absurd w
min-units (fin r m e) (fin q n d) s t a b v w = go (lt (fin q n d) (fin r m e)) (lt_yes (fin q n d) (fin r m e) t s b a (2 ^ 149) (pow_pos 149) w v) (lt_no (fin q n d) (fin r m e) t s b a (2 ^ 149) (pow_pos 149) w v)
  where
    go : (z : Bool) → (T z → Less t b s a) → (T (not z) → AtMost s a t b) → Picked AtMost (cond z (fin q n d) (fin r m e)) s a t b
    go true x y = record { r = t; n = b; value = w; first = le_of_lt (x tt); second = le_of_eq refl }
    go false x y = record { r = s; n = a; value = v; first = le_of_eq refl; second = y tt }

max-units : (x y : Float) (s t : Bool) (a b : ℕ) → HasValue x s a (2 ^ 149) → HasValue y t b (2 ^ 149) → Picked AtLeast (max_of x y) s a t b
unfolding max_of is_nan
max-units nan y s t a b v w = absurd v
max-units (inf r) y s t a b v w = absurd v
max-units (fin r m e) nan s t a b v w = absurd w
max-units (fin r m e) (inf q) s t a b v w = absurd w
max-units (fin r m e) (fin q n d) s t a b v w = go (lt (fin r m e) (fin q n d)) (lt_yes (fin r m e) (fin q n d) s t a b (2 ^ 149) (pow_pos 149) v w) (lt_no (fin r m e) (fin q n d) s t a b (2 ^ 149) (pow_pos 149) v w)
  where
    go : (z : Bool) → (T z → Less s a t b) → (T (not z) → AtMost t b s a) → Picked AtLeast (cond z (fin q n d) (fin r m e)) s a t b
    go true x y = record { r = t; n = b; value = w; first = le_of_lt (x tt); second = le_of_eq refl }
    go false x y = record { r = s; n = a; value = v; first = le_of_eq refl; second = y tt }

-- ---- a difference above zero grows with the first operand and shrinks with the second
longer : (r2 r1 s2 s1 : Bool) (n2 n1 b2 b1 : ℕ) → Less r1 n1 r2 n2 → AtMost r2 n2 s2 b2 → AtMost s1 b1 r1 n1 → T (le (sum binary32 r2 n2 (not r1) n1 (2 ^ 149)) (sum binary32 s2 b2 (not s1) b1 (2 ^ 149)))
longer r2 r1 s2 s1 n2 n1 b2 b1 h u o =
    let k : Less s1 b1 s2 b2 = room (pos-part r2 n2) (neg-part r2 n2) (pos-part r1 n1) (neg-part r1 n1) (pos-part s2 b2) (neg-part s2 b2) (pos-part s1 b1) (neg-part s1 b1) h u o in
    subst (λ (z : Float). T (le z (sum binary32 s2 b2 (not s1) b1 (2 ^ 149)))) (sym (difference-above binary32 r2 r1 n2 n1 (2 ^ 149) h))
    (subst (λ (z : Float). T (le (round binary32 false (ahead r2 n2 r1 n1) (2 ^ 149)) z)) (sym (difference-above binary32 s2 s1 b2 b1 (2 ^ 149) k))
    (round_mono binary32 (ahead r2 n2 r1 n1) (2 ^ 149) (ahead s2 b2 s1 b1) (2 ^ 149) (pow_pos 149) (pow_pos 149)
    (mul-le-mul_right (2 ^ 149) (more (pos-part r2 n2) (neg-part r2 n2) (pos-part r1 n1) (neg-part r1 n1) (pos-part s2 b2) (neg-part s2 b2) (pos-part s1 b1) (neg-part s1 b1) h u o))))
  where
    room : (p q x y c d e g : ℕ) → x + q < p + y → p + d ≤ c + q → e + y ≤ x + g → e + d < c + g
    room p q x y c d e g h u o = omega arith

    more : (p q x y c d e g : ℕ) → x + q < p + y → p + d ≤ c + q → e + y ≤ x + g → p + y - (x + q) ≤ c + g - (e + d)
    more p q x y c d e g h u o = omega arith

-- ---- the axis
zero-not-positive : T (positive (f32 0)) → ⊥
unfolding of_bits
zero-not-positive h = h

side-is : (a b c d : Float) → T (positive (side_of a b c d)) → side_of a b c d ≡ sub binary32 (min_of b d) (max_of a c)
unfolding side_of
side-is a b c d h = elim (max-zero (sub binary32 (min_of b d) (max_of a c))) [
  | inl e ↦ absurd (zero-not-positive (subst (λ (z : Float). T (positive z)) e h))
  | inr e ↦ e.0
]

-- w is no longer than the sides x and y, which are above zero
pub record Within (w x y : Float) : Type 0 where
  pub first : T (positive x)
  pub second : T (positive y)
  pub in-first : T (le w x)
  pub in-second : T (le w y)

pub axis : (a1 a2 c1 c2 : Float) → T (fits binary32 a1) → T (fits binary32 a2) → T (fits binary32 c1) → T (fits binary32 c2)
    → T (positive (side_of a1 a2 c1 c2)) → T (finite (sub binary32 a2 a1)) → T (finite (sub binary32 c2 c1)) → Within (side_of a1 a2 c1 c2) (sub binary32 a2 a1) (sub binary32 c2 c1)
axis a1 a2 c1 c2 f1 f2 g1 g2 p fx fy =
    let x = sub binary32 a2 a1 in
    let y = sub binary32 c2 c1 in
    let w = side_of a1 a2 c1 c2 in
    let A2 = digits a2 f2 (sub-finite binary32 a2 a1 fx).0 in
    let A1 = digits a1 f1 (sub-finite binary32 a2 a1 fx).1 in
    let C2 = digits c2 g2 (sub-finite binary32 c2 c1 fy).0 in
    let C1 = digits c1 g1 (sub-finite binary32 c2 c1 fy).1 in
    let a2' = A2.m * 2 ^ A2.j in
    let a1' = A1.m * 2 ^ A1.j in
    let c2' = C2.m * 2 ^ C2.j in
    let c1' = C1.m * 2 ^ C1.j in
    let lo = min-units a2 c2 A2.sign C2.sign a2' c2' A2.value C2.value in
    let hi = max-units a1 c1 A1.sign C1.sign a1' c1' A1.value C1.value in
    let W = sum binary32 lo.r lo.n (not hi.r) hi.n (2 ^ 149) in
    let z : w ≡ W = side-is a1 a2 c1 c2 p ∙ sub-units binary32 (min_of a2 c2) (max_of a1 c1) lo.r hi.r lo.n hi.n (2 ^ 149) (pow_pos 149) lo.value hi.value in
    let d : Less hi.r hi.n lo.r lo.n = apart lo.r hi.r lo.n hi.n (subst (λ (v : Float). T (positive v)) z p) in
    let wx : T (le w x) = subst (λ (v : Float). T (le v x)) (sym z) (subst (λ (v : Float). T (le W v)) (sym (sub-units binary32 a2 a1 A2.sign A1.sign a2' a1' (2 ^ 149) (pow_pos 149) A2.value A1.value)) (longer lo.r hi.r A2.sign A1.sign lo.n hi.n a2' a1' d lo.first hi.first)) in
    let wy : T (le w y) = subst (λ (v : Float). T (le v y)) (sym z) (subst (λ (v : Float). T (le W v)) (sym (sub-units binary32 c2 c1 C2.sign C1.sign c2' c1' (2 ^ 149) (pow_pos 149) C2.value C1.value)) (longer lo.r hi.r C2.sign C1.sign lo.n hi.n c2' c1' d lo.second hi.second)) in
    record { first = above-finite x (above_of_le w x p wx) fx; second = above-finite y (above_of_le w y p wy) fy; in-first = wx; in-second = wy }
  where
    apart : (r t : Bool) (m n : ℕ) → T (positive (sum binary32 r m (not t) n (2 ^ 149))) → Less t n r m
    apart r t m n h = lt_of_not-le (λ (g : AtMost r m t n). difference-not-above binary32 r t m n (2 ^ 149) (pow_pos 149) g h)
