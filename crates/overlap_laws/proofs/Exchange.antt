-- Exchanging the boxes gives an equal overlap. Two values are alike if they are the same, or zeros of any signs; every step takes alike to alike, since no step makes more of a zero's sign than another zero.
-- Assumes nothing.
use mathlib.Core.Path.{◌≡◌, refl, sym, ap, ◌∙◌, subst}
use mathlib.Core.Logic.{◌⊎◌, inl, inr}
use mathlib.Core.Bool.{Bool, true, false, not, cond, ◌&&◌, ◌||◌, beq, true≢false}
use Prim.Native.Nat.{ℕ, zero, suc, ◌+◌, ◌-◌, ◌*◌, ◌^◌, ◌≤◌, ◌<◌}
use native.Mathlib.Nat.{le_antisymm, mul-pos, zero-mul, zero-lt-suc, add_comm, mul_comm, zero-add, sub-zero}
use native.Mathlib.Omega.{arith}
use lib.Dec.{T, ltb, eqb, ltb→lt, nltb→le, eqb-suc-zero}
use lib.Pow.{pow_pos}
use borrow.Author.Tests.{le-ltb, lt-ltb}
use lib.Ieee.{Float, nan, inf, fin, binary32, up, down, unlike, round, sum, add, sub, neg, mul, div, lt, eq, ne, fits, is_nan, of_bits}
use lib.Ieee.Exact.{HasValue}
use lib.Ieee.Fits.{down_pos, up_pos, mul-fits, add-fits, neg-fits, cond-fits}
use lib.Ieee.Positive.{positive}
use lib.Ieee.Scale.{finite}
use Rattle.ieee.specs.Ops.{f32, max_of, min_of}
use Rattle.ieee.proofs.Grid.{digits, zero-units}
use Rattle.ieee.proofs.Nans.{ne-self, nan_is}
use Rattle.ieee.proofs.Values.{same_value}
use Rattle.object.specs.declared.Corners.{Corners}
use Rattle.pair.specs.Overlap.{side_of, area_of, inter_of, share_of, overlap_of}
use Rattle.overlap_laws.specs.Laws.{OfF32}
use Rattle.overlap_laws.proofs.Signed.{Less, AtMost, pos-part, neg-part, add-units, lt_yes, lt_no}
use Rattle.overlap_laws.proofs.Finite.{lt_above, number-of-le}
use Rattle.overlap_laws.proofs.FromZero.{round-of-zero, zero-times, from_0}

-- ---- alike
abbrev is_zero : Float → Bool
is_zero nan = false
is_zero (inf s) = false
is_zero (fin s m e) = eqb m 0

abbrev Alike : Float → Float → Type 0
Alike x y = (x ≡ y) ⊎ (T (is_zero x) × T (is_zero y))

alike-trans : {x y z : Float} → Alike x y → Alike y z → Alike x z
alike-trans {x} {y} {z} (inl p) (inl q) = inl (p ∙ q)
alike-trans {x} {y} {z} (inl p) (inr q) = inr (subst (λ (v : Float). T (is_zero v)) (sym p) q.0, q.1)
alike-trans {x} {y} {z} (inr p) (inl q) = inr (p.0, subst (λ (v : Float). T (is_zero v)) q p.1)
alike-trans {x} {y} {z} (inr p) (inr q) = inr (p.0, q.1)

-- a zero is no units, with its sign, and no units are a zero
zero-of-units : (x : Float) (s : Bool) → HasValue x s 0 (2 ^ 149) → T (is_zero x)
zero-of-units nan s v = absurd v
zero-of-units (inf t) s v = absurd v
zero-of-units (fin t zero e) s v = tt
zero-of-units (fin t (suc m) e) s v = absurd (no (suc m * up e * 2 ^ 149) (mul-pos (mul-pos (zero-lt-suc m) (up_pos e)) (pow_pos 149)) (v.1 ∙ zero-mul (down e)))
  where
    no : (x : ℕ) → 0 < x → x ≡ 0 → ⊥
    no x h e = omega arith

units-of-zero : (x : Float) → T (is_zero x) → (s : Bool) × HasValue x s 0 (2 ^ 149)
units-of-zero nan h = absurd h
units-of-zero (inf t) h = absurd h
units-of-zero (fin t zero e) h = (t, zero-units t e)
units-of-zero (fin t (suc m) e) h = absurd (subst T (eqb-suc-zero m) h)

round-is-zero : (s : Bool) (a c : ℕ) → 0 < c → a ≡ 0 → T (is_zero (round binary32 s a c))
round-is-zero s a c h e = subst (λ (z : Float). T (is_zero z)) (sym (round-of-zero s a c h e)) tt

-- ---- the larger, or the smaller, in the other order
same_place : (x y : Float) (s t : Bool) (a b : ℕ) → T (fits binary32 x) → T (fits binary32 y) → HasValue x s a (2 ^ 149) → HasValue y t b (2 ^ 149) → pos-part s a + neg-part t b ≡ pos-part t b + neg-part s a → Alike x y
same_place x y false false a b f g v w h = let e : b ≡ a = omega arith in inl (same_value binary32 x y false a f g v (subst (λ (z : ℕ). HasValue y false z (2 ^ 149)) e w))
same_place x y true true a b f g v w h = let e : b ≡ a = omega arith in inl (same_value binary32 x y true a f g v (subst (λ (z : ℕ). HasValue y true z (2 ^ 149)) e w))
same_place x y false true a b f g v w h =
    let p : a ≡ 0 = omega arith in
    let q : b ≡ 0 = omega arith in
    inr (zero-of-units x false (subst (λ (z : ℕ). HasValue x false z (2 ^ 149)) p v), zero-of-units y true (subst (λ (z : ℕ). HasValue y true z (2 ^ 149)) q w))
same_place x y true false a b f g v w h =
    let p : a ≡ 0 = omega arith in
    let q : b ≡ 0 = omega arith in
    inr (zero-of-units x true (subst (λ (z : ℕ). HasValue x true z (2 ^ 149)) p v), zero-of-units y false (subst (λ (z : ℕ). HasValue y false z (2 ^ 149)) q w))

-- what the comparisons x < y and y < x of two numbers find
abbrev Compared : Bool → Bool → Float → Float → Type 0
Compared u v x y = ((u ≡ true) × (v ≡ false)) ⊎ (((u ≡ false) × (v ≡ true)) ⊎ ((u ≡ false) × (v ≡ false) × Alike x y))

compared-finite : (x y : Float) → T (fits binary32 x) → T (fits binary32 y) → T (finite x) → T (finite y) → Compared (lt x y) (lt y x) x y
compared-finite x y f g p q =
    let X = digits x f p in
    let Y = digits y g q in
    let a = X.m * 2 ^ X.j in
    let b = Y.m * 2 ^ Y.j in
    go X.sign Y.sign a b X.value Y.value (lt x y) (lt y x)
    (lt_yes x y X.sign Y.sign a b (2 ^ 149) (pow_pos 149) X.value Y.value) (lt_no x y X.sign Y.sign a b (2 ^ 149) (pow_pos 149) X.value Y.value)
    (lt_yes y x Y.sign X.sign b a (2 ^ 149) (pow_pos 149) Y.value X.value) (lt_no y x Y.sign X.sign b a (2 ^ 149) (pow_pos 149) Y.value X.value)
  where
    no : (i j : ℕ) → i < j → j < i → ⊥
    no i j h k = omega arith

    go : (s t : Bool) (a b : ℕ) → HasValue x s a (2 ^ 149) → HasValue y t b (2 ^ 149) → (u v : Bool) → (T u → Less s a t b) → (T (not u) → AtMost t b s a) → (T v → Less t b s a) → (T (not v) → AtMost s a t b) → Compared u v x y
    go s t a b i j true true h k l m = absurd (no (pos-part s a + neg-part t b) (pos-part t b + neg-part s a) (h tt) (l tt))
    go s t a b i j true false h k l m = inl (refl, refl)
    go s t a b i j false true h k l m = inr (inl (refl, refl))
    go s t a b i j false false h k l m = inr (inr (refl, refl, same_place x y s t a b f g i j (le_antisymm (m tt) (k tt))))

compared : (x y : Float) → T (fits binary32 x) → T (fits binary32 y) → is_nan x ≡ false → is_nan y ≡ false → Compared (lt x y) (lt y x) x y
unfolding is_nan lt
compared nan y f g p q = absurd (true≢false p)
compared (inf s) nan f g p q = absurd (true≢false q)
compared (inf true) (inf true) f g p q = inr (inr (refl, refl, inl refl))
compared (inf true) (inf false) f g p q = inl (refl, refl)
compared (inf false) (inf true) f g p q = inr (inl (refl, refl))
compared (inf false) (inf false) f g p q = inr (inr (refl, refl, inl refl))
compared (inf true) (fin t n d) f g p q = inl (refl, refl)
compared (inf false) (fin t n d) f g p q = inr (inl (refl, refl))
compared (fin s m e) nan f g p q = absurd (true≢false q)
compared (fin s m e) (inf true) f g p q = inr (inl (refl, refl))
compared (fin s m e) (inf false) f g p q = inl (refl, refl)
compared (fin s m e) (fin t n d) f g p q = compared-finite (fin s m e) (fin t n d) f g tt tt

larger-alike : (u v : Bool) (x y : Float) → Compared u v x y → Alike (cond u y x) (cond v x y)
larger-alike u v x y (inl h) = inl (rw (h.0, h.1))
larger-alike u v x y (inr (inl h)) = inl (rw (h.0, h.1))
larger-alike u v x y (inr (inr h)) = rw (h.0, h.1) h.2

smaller-alike : (u v : Bool) (x y : Float) → Compared u v x y → Alike (cond v y x) (cond u x y)
smaller-alike u v x y (inl h) = inl (rw (h.0, h.1))
smaller-alike u v x y (inr (inl h)) = inl (rw (h.0, h.1))
smaller-alike u v x y (inr (inr h)) = rw (h.0, h.1) h.2

-- a NaN gives way to the other, in either order
gives-way : (a b : Bool) (x y u v : Float) → (a ≡ true → x ≡ nan) → (b ≡ true → y ≡ nan) → (a ≡ false → b ≡ false → Alike u v) → Alike (cond a y (cond b x u)) (cond b x (cond a y v))
gives-way true true x y u v h k l = inl (k refl ∙ sym (h refl))
gives-way true false x y u v h k l = inl refl
gives-way false true x y u v h k l = inl refl
gives-way false false x y u v h k l = l refl refl

max-alike : (x y : Float) → T (fits binary32 x) → T (fits binary32 y) → Alike (max_of x y) (max_of y x)
unfolding max_of
max-alike x y f g = gives-way (is_nan x) (is_nan y) x y (cond (lt x y) y x) (cond (lt y x) x y) (nan_is x) (nan_is y) (λ p q. larger-alike (lt x y) (lt y x) x y (compared x y f g p q))

min-alike : (x y : Float) → T (fits binary32 x) → T (fits binary32 y) → Alike (min_of x y) (min_of y x)
unfolding min_of
min-alike x y f g = gives-way (is_nan x) (is_nan y) x y (cond (lt y x) y x) (cond (lt x y) x y) (nan_is x) (nan_is y) (λ p q. smaller-alike (lt x y) (lt y x) x y (compared x y f g p q))

max-fits : (x y : Float) → T (fits binary32 x) → T (fits binary32 y) → T (fits binary32 (max_of x y))
unfolding max_of
max-fits x y f g = cond-fits binary32 (is_nan x) y (cond (is_nan y) x (cond (lt x y) y x)) g (cond-fits binary32 (is_nan y) x (cond (lt x y) y x) f (cond-fits binary32 (lt x y) y x g f))

min-fits : (x y : Float) → T (fits binary32 x) → T (fits binary32 y) → T (fits binary32 (min_of x y))
unfolding min_of
min-fits x y f g = cond-fits binary32 (is_nan x) y (cond (is_nan y) x (cond (lt y x) y x)) g (cond-fits binary32 (is_nan y) x (cond (lt y x) y x) f (cond-fits binary32 (lt y x) y x g f))

-- ---- a sum in the other order
swap-mixed : (a b c : ℕ) → cond (ltb a b) (round binary32 false (b - a) c) (round binary32 (ltb b a) (a - b) c) ≡ cond (ltb b a) (round binary32 true (a - b) c) (round binary32 false (b - a) c)
swap-mixed a b c = go (ltb a b) (ltb b a) (ltb→lt a b) (nltb→le a b) (ltb→lt b a) (nltb→le b a)
  where
    no : a < b → b < a → ⊥
    no h k = omega arith

    same : b ≤ a → a ≤ b → a - b ≡ b - a
    same h k = omega arith

    go : (x y : Bool) → (T x → a < b) → (T (not x) → b ≤ a) → (T y → b < a) → (T (not y) → a ≤ b)
        → cond x (round binary32 false (b - a) c) (round binary32 y (a - b) c) ≡ cond y (round binary32 true (a - b) c) (round binary32 false (b - a) c)
    go true true p q r u = absurd (no (p tt) (r tt))
    go true false p q r u = refl
    go false true p q r u = refl
    go false false p q r u = ap (λ (z : ℕ). round binary32 false z c) (same (q tt) (u tt))

sum-swap : (s t : Bool) (a b c : ℕ) → sum binary32 s a t b c ≡ sum binary32 t b s a c
unfolding sum
sum-swap true true a b c = ap (λ (z : ℕ). round binary32 true z c) (add_comm a b)
sum-swap false false a b c = ap (λ (z : ℕ). round binary32 false z c) (add_comm a b)
sum-swap true false a b c = swap-mixed a b c
sum-swap false true a b c = sym (swap-mixed b a c)

add-swap : (x y : Float) → add binary32 x y ≡ add binary32 y x
unfolding add
add-swap nan nan = refl
add-swap nan (inf t) = refl
add-swap nan (fin t n d) = refl
add-swap (inf s) nan = refl
add-swap (inf true) (inf true) = refl
add-swap (inf true) (inf false) = refl
add-swap (inf false) (inf true) = refl
add-swap (inf false) (inf false) = refl
add-swap (inf s) (fin t n d) = refl
add-swap (fin s m e) nan = refl
add-swap (fin s m e) (inf t) = refl
add-swap (fin s m e) (fin t n d) = ap (λ (z : ℕ). sum binary32 s (m * up e * down d) t (n * up d * down e) z) (mul_comm (down e) (down d)) ∙ sum-swap s t (m * up e * down d) (n * up d * down e) (down d * down e)

-- ---- a sum with a zero
zeros-sum : (s t : Bool) → T (is_zero (sum binary32 s 0 t 0 (2 ^ 149)))
unfolding sum
zeros-sum true true = round-is-zero true (0 + 0) (2 ^ 149) (pow_pos 149) refl
zeros-sum true false = round-is-zero false (0 - 0) (2 ^ 149) (pow_pos 149) refl
zeros-sum false true = round-is-zero false (0 - 0) (2 ^ 149) (pow_pos 149) refl
zeros-sum false false = round-is-zero false (0 + 0) (2 ^ 149) (pow_pos 149) refl

zero-and : (s t : Bool) (b : ℕ) → 0 < b → sum binary32 s 0 t b (2 ^ 149) ≡ round binary32 t b (2 ^ 149)
unfolding sum
zero-and true true b h = ap (λ (z : ℕ). round binary32 true z (2 ^ 149)) (zero-add b)
zero-and false false b h = ap (λ (z : ℕ). round binary32 false z (2 ^ 149)) (zero-add b)
zero-and true false b h = rw (lt-ltb 0 b h) (ap (λ (z : ℕ). round binary32 false z (2 ^ 149)) (sub-zero b))
zero-and false true b h = rw (lt-ltb 0 b h) (ap (λ (z : ℕ). round binary32 true z (2 ^ 149)) (sub-zero b))

sums-alike : (s r t : Bool) (b : ℕ) → Alike (sum binary32 s 0 t b (2 ^ 149)) (sum binary32 r 0 t b (2 ^ 149))
sums-alike s r t zero = inr (zeros-sum s t, zeros-sum r t)
sums-alike s r t (suc b) = inl (zero-and s t (suc b) (zero-lt-suc b) ∙ sym (zero-and r t (suc b) (zero-lt-suc b)))

zero-and-nan : (x : Float) → T (is_zero x) → add binary32 x nan ≡ nan
unfolding add
zero-and-nan nan h = refl
zero-and-nan (inf s) h = refl
zero-and-nan (fin s m e) h = refl

zero-and-infinity : (x : Float) (t : Bool) → T (is_zero x) → add binary32 x (inf t) ≡ inf t
unfolding add
zero-and-infinity nan t h = absurd h
zero-and-infinity (inf s) t h = absurd h
zero-and-infinity (fin s m e) t h = refl

add_left : (x x' y : Float) → T (is_zero x) → T (is_zero x') → T (fits binary32 y) → Alike (add binary32 x y) (add binary32 x' y)
add_left x x' nan p q g = inl (zero-and-nan x p ∙ sym (zero-and-nan x' q))
add_left x x' (inf t) p q g = inl (zero-and-infinity x t p ∙ sym (zero-and-infinity x' t q))
add_left x x' (fin t n d) p q g =
    let u = units-of-zero x p in
    let v = units-of-zero x' q in
    let y = fin t n d in
    let Y = digits y g tt in
    let b = Y.m * 2 ^ Y.j in
    subst (λ (z : Float). Alike z (add binary32 x' y)) (sym (add-units binary32 x y u.0 Y.sign 0 b (2 ^ 149) (pow_pos 149) u.1 Y.value))
    (subst (λ (z : Float). Alike (sum binary32 u.0 0 Y.sign b (2 ^ 149)) z) (sym (add-units binary32 x' y v.0 Y.sign 0 b (2 ^ 149) (pow_pos 149) v.1 Y.value)) (sums-alike u.0 v.0 Y.sign b))

add-first-alike : (x x' y : Float) → T (fits binary32 y) → Alike x x' → Alike (add binary32 x y) (add binary32 x' y)
add-first-alike x x' y g (inl p) = inl (ap (λ (z : Float). add binary32 z y) p)
add-first-alike x x' y g (inr p) = add_left x x' y p.0 p.1 g

add-alike : (x x' y y' : Float) → T (fits binary32 x') → T (fits binary32 y) → Alike x x' → Alike y y' → Alike (add binary32 x y) (add binary32 x' y')
add-alike x x' y y' f g p q =
    alike-trans (add-first-alike x x' y g p)
    (subst (λ (z : Float). Alike z (add binary32 x' y')) (add-swap y x') (subst (λ (z : Float). Alike (add binary32 y x') z) (add-swap y' x') (add-first-alike y y' x' f q)))

neg-zero : (x : Float) → T (is_zero x) → T (is_zero (neg x))
unfolding neg
neg-zero nan h = h
neg-zero (inf s) h = h
neg-zero (fin s m e) h = h

neg-alike : (x y : Float) → Alike x y → Alike (neg x) (neg y)
neg-alike x y (inl e) = inl (ap neg e)
neg-alike x y (inr h) = inr (neg-zero x h.0, neg-zero y h.1)

sub_alike : (x x' y y' : Float) → T (fits binary32 x') → T (fits binary32 y) → Alike x x' → Alike y y' → Alike (sub binary32 x y) (sub binary32 x' y')
unfolding sub
sub_alike x x' y y' f g p q = add-alike x x' (neg y) (neg y') f (neg-fits binary32 y g) p (neg-alike y y' q)

-- ---- the length in common
zero-zero : T (is_zero (f32 0))
unfolding of_bits
zero-zero = tt

larger-of-zeros : (x : Float) → T (is_zero x) → T (is_zero (max_of x (f32 0)))
unfolding max_of
larger-of-zeros x h = go (is_nan x) (is_nan (f32 0)) (lt x (f32 0))
  where
    go : (a b c : Bool) → T (is_zero (cond a (f32 0) (cond b x (cond c (f32 0) x))))
    go true b c = zero-zero
    go false true c = h
    go false false true = zero-zero
    go false false false = h

max-zero-alike : (x y : Float) → Alike x y → Alike (max_of x (f32 0)) (max_of y (f32 0))
max-zero-alike x y (inl e) = inl (ap (λ (z : Float). max_of z (f32 0)) e)
max-zero-alike x y (inr h) = inr (larger-of-zeros x h.0, larger-of-zeros y h.1)

side-alike : (a b c d : Float) → T (fits binary32 a) → T (fits binary32 b) → T (fits binary32 c) → T (fits binary32 d) → Alike (side_of a b c d) (side_of c d a b)
unfolding side_of
side-alike a b c d f g h k =
    max-zero-alike (sub binary32 (min_of b d) (max_of a c)) (sub binary32 (min_of d b) (max_of c a))
    (sub_alike (min_of b d) (min_of d b) (max_of a c) (max_of c a) (min-fits d b k g) (max-fits a c f h) (min-alike b d g k) (max-alike a c f h))

-- ---- a product with a zero, and in the other order
mul_left : (x x' y : Float) → T (is_zero x) → T (is_zero x') → Alike (mul binary32 x y) (mul binary32 x' y)
unfolding mul
mul_left nan x' y p q = absurd p
mul_left (inf s) x' y p q = absurd p
mul_left (fin s m e) nan y p q = absurd q
mul_left (fin s m e) (inf r) y p q = absurd q
mul_left (fin s (suc m) e) (fin r l g) y p q = absurd (subst T (eqb-suc-zero m) p)
mul_left (fin s zero e) (fin r (suc l) g) y p q = absurd (subst T (eqb-suc-zero l) q)
mul_left (fin s zero e) (fin r zero g) nan p q = inl refl
mul_left (fin s zero e) (fin r zero g) (inf t) p q = inl refl
mul_left (fin s zero e) (fin r zero g) (fin t n d) p q =
    inr (
      round-is-zero (unlike s t) (0 * up e * (n * up d)) (down e * down d) (mul-pos (down_pos e) (down_pos d)) (zero-times (up e) (n * up d)),
      round-is-zero (unlike r t) (0 * up g * (n * up d)) (down g * down d) (mul-pos (down_pos g) (down_pos d)) (zero-times (up g) (n * up d)),
    )

unlike-swap : (s t : Bool) → unlike s t ≡ unlike t s
unlike-swap true true = refl
unlike-swap true false = refl
unlike-swap false true = refl
unlike-swap false false = refl

mul-swap : (x y : Float) → mul binary32 x y ≡ mul binary32 y x
unfolding mul
mul-swap nan nan = refl
mul-swap nan (inf t) = refl
mul-swap nan (fin t n d) = refl
mul-swap (inf s) nan = refl
mul-swap (inf s) (inf t) = ap inf (unlike-swap s t)
mul-swap (inf s) (fin t n d) = ap (λ (z : Bool). cond (eqb n 0) nan (inf z)) (unlike-swap s t)
mul-swap (fin s m e) nan = refl
mul-swap (fin s m e) (inf t) = ap (λ (z : Bool). cond (eqb m 0) nan (inf z)) (unlike-swap s t)
mul-swap (fin s m e) (fin t n d) =
    ap (λ (z : Bool). round binary32 z (m * up e * (n * up d)) (down e * down d)) (unlike-swap s t)
    ∙ ap (λ (z : ℕ). round binary32 (unlike t s) z (down e * down d)) (mul_comm (m * up e) (n * up d))
    ∙ ap (λ (z : ℕ). round binary32 (unlike t s) (n * up d * (m * up e)) z) (mul_comm (down e) (down d))

mul-first-alike : (x x' y : Float) → Alike x x' → Alike (mul binary32 x y) (mul binary32 x' y)
mul-first-alike x x' y (inl p) = inl (ap (λ (z : Float). mul binary32 z y) p)
mul-first-alike x x' y (inr p) = mul_left x x' y p.0 p.1

mul-alike : (x x' y y' : Float) → Alike x x' → Alike y y' → Alike (mul binary32 x y) (mul binary32 x' y')
mul-alike x x' y y' p q =
    alike-trans (mul-first-alike x x' y p)
    (subst (λ (z : Float). Alike z (mul binary32 x' y')) (mul-swap y x') (subst (λ (z : Float). Alike (mul binary32 y x') z) (mul-swap y' x') (mul-first-alike y y' x' q)))

-- ---- the share
zero-not-above : (u : Float) → T (is_zero u) → lt (f32 0) u ≡ false
unfolding lt of_bits
zero-not-above nan h = refl
zero-not-above (inf s) h = absurd h
zero-not-above (fin true m e) h = refl
zero-not-above (fin false (suc m) e) h = absurd (subst T (eqb-suc-zero m) h)
zero-not-above (fin false zero e) h = le-ltb (0 * 1 * down e) (0 * up e * 1) (no_more (up e) (down e))
  where
    no_more : (x y : ℕ) → 0 * x * 1 ≤ 0 * 1 * y
    no_more x y = omega arith

zero-over : (x u : Float) → T (is_zero x) → T (positive u) → T (is_zero (div binary32 x u))
unfolding div
zero-over nan u p h = absurd p
zero-over (inf s) u p h = absurd p
zero-over (fin s (suc m) e) u p h = absurd (subst T (eqb-suc-zero m) p)
zero-over (fin s zero e) nan p h = absurd h
zero-over (fin s zero e) (inf t) p h = absurd h
zero-over (fin s zero e) (fin true n d) p h = absurd h
zero-over (fin s zero e) (fin false zero d) p h = absurd h
zero-over (fin s zero e) (fin false (suc n) d) p h = rw (eqb-suc-zero n) (round-is-zero (unlike s false) (0 * up e * down d) (suc n * up d * down e) (mul-pos (mul-pos (zero-lt-suc n) (up_pos d)) (down_pos e)) (zero-times (up e) (down d)))

zero-over-infinity : (x : Float) → T (is_zero x) → T (is_zero (div binary32 x (inf false)))
unfolding div
zero-over-infinity nan p = absurd p
zero-over-infinity (inf s) p = absurd p
zero-over-infinity (fin s m e) p = tt

zero-over-above : (x u : Float) → T (is_zero x) → T (lt (f32 0) u) → T (is_zero (div binary32 x u))
zero-over-above x u p h = elim (lt_above u h) [
  | inl q ↦ zero-over x u p q
  | inr e ↦ subst (λ (z : Float). T (is_zero (div binary32 x z))) (sym e) (zero-over-infinity x p)
]

share-alike : (i i' u u' : Float) → Alike i i' → Alike u u' → Alike (share_of i u) (share_of i' u')
unfolding share_of
share-alike i i' u u' p (inr q) = inl (rw (zero-not-above u q.0, zero-not-above u' q.1))
share-alike i i' u u' p (inl q) = subst (λ (z : Float). Alike (share_of i u) (share_of i' z)) q (go (lt (f32 0) u) (λ h. h) p)
  where
    go : (b : Bool) → (T b → T (lt (f32 0) u)) → Alike i i' → Alike (cond b (div binary32 i u) (f32 0)) (cond b (div binary32 i' u) (f32 0))
    go false h p = inl refl
    go true h (inl p) = inl (ap (λ (z : Float). div binary32 z u) p)
    go true h (inr p) = inr (zero-over-above i u p.0 (h tt), zero-over-above i' u p.1 (h tt))

-- ---- the overlap
inter-alike : (d t : Corners) → OfF32 d → OfF32 t → Alike (inter_of d t) (inter_of t d)
unfolding inter_of
inter-alike d t p q =
    mul-alike (side_of d.x1 d.x2 t.x1 t.x2) (side_of t.x1 t.x2 d.x1 d.x2) (side_of d.y1 d.y2 t.y1 t.y2) (side_of t.y1 t.y2 d.y1 d.y2)
    (side-alike d.x1 d.x2 t.x1 t.x2 p.x1 p.x2 q.x1 q.x2) (side-alike d.y1 d.y2 t.y1 t.y2 p.y1 p.y2 q.y1 q.y2)

inter-fits : (d t : Corners) → T (fits binary32 (inter_of d t))
unfolding inter_of
inter-fits d t = mul-fits binary32 (side_of d.x1 d.x2 t.x1 t.x2) (side_of d.y1 d.y2 t.y1 t.y2)

overlap-alike : (d t : Corners) → OfF32 d → OfF32 t → Alike (overlap_of d t) (overlap_of t d)
unfolding overlap_of
overlap-alike d t p q =
    let S = add binary32 (area_of d) (area_of t) in
    let S' = add binary32 (area_of t) (area_of d) in
    share-alike (inter_of d t) (inter_of t d) (sub binary32 S (inter_of d t)) (sub binary32 S' (inter_of t d)) (inter-alike d t p q)
    (sub_alike S S' (inter_of d t) (inter_of t d) (add-fits binary32 (area_of t) (area_of d)) (inter-fits d t) (inl (add-swap (area_of d) (area_of t))) (inter-alike d t p q))

-- ---- alike numbers are equal
eq_self : (x : Float) → is_nan x ≡ false → T (eq x x)
unfolding ne
eq_self x h = go (eq x x) (ne-self x ∙ h)
  where
    go : (b : Bool) → not b ≡ false → T b
    go true e = tt
    go false e = absurd (true≢false e)

eq-zeros : (x y : Float) → T (is_zero x) → T (is_zero y) → T (eq x y)
unfolding eq
eq-zeros nan y p q = absurd p
eq-zeros (inf s) y p q = absurd p
eq-zeros (fin s (suc m) e) y p q = absurd (subst T (eqb-suc-zero m) p)
eq-zeros (fin s zero e) nan p q = absurd q
eq-zeros (fin s zero e) (inf t) p q = absurd q
eq-zeros (fin s zero e) (fin t (suc n) d) p q = absurd (subst T (eqb-suc-zero n) q)
eq-zeros (fin s zero e) (fin t zero d) p q = rw (zero-times (up e) (down d), zero-times (up d) (down e)) (last (beq s t))
  where
    last : (b : Bool) → T (true && (b || true))
    last true = tt
    last false = tt

pub exchange : (d t : Corners) → OfF32 d → OfF32 t → T (eq (overlap_of d t) (overlap_of t d))
exchange d t p q = elim (overlap-alike d t p q) [
  | inl e ↦ subst (λ (z : Float). T (eq (overlap_of d t) z)) e (eq_self (overlap_of d t) (number-of-le (f32 0) (overlap_of d t) (from_0 d t)))
  | inr h ↦ eq-zeros (overlap_of d t) (overlap_of t d) h.0 h.1
]
