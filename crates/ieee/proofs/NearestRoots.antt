-- By magnitudes alone, `sqrt_of` gives the value of binary32 nearest to the exact root: the root lies between two neighbours, and on one side of their middle. Assumes nothing.
use mathlib.Core.Path.{◌≡◌, refl, sym, ap, ◌∙◌, subst}
use mathlib.Core.Logic.{◌⊎◌, inl, inr}
use Prim.Native.Nat.{ℕ, suc, ◌+◌, ◌-◌, ◌*◌, ◌/◌, ◌%◌, ◌^◌, ◌≤◌, ◌<◌, compare, Ordering}
use native.Mathlib.Nat.{le_trans, le_of_eq, lt_of_lt_of_le, lt_of_le_of_lt, lt_of_not-le, not-le_of_lt, eq-or-lt_of_le, mul-le-mul, mul-pos, mul-lt-mul_of_pos_right, mul-lt-mul_of_pos_left, mul-le-mul_right, mul-le-mul_left, mul_assoc, mul-div_cancel, div-mul-le_self, lt-div-mul-add, div-lt_iff_lt-mul, le-div_iff_mul-le}
use native.Mathlib.Numerals.{add-one}
use native.Mathlib.Omega.{arith}
use mathlib.Core.Bool.{Bool, true, false, not}
use lib.Dec.{T, leb, lit<, lit≤, leb→le, nleb→lt}
use lib.Pow.{pow_pos, pow-add, pow_mono}
use lib.Ieee.{Float, nan, inf, fin, binary32, down, size, nearest, units, fits}
use lib.Ieee.Digits.{size-lt, size-le, size_reaches}
use lib.Ieee.Fits.{down_pos, nearest-le}
use lib.Ieee.Nearest.{nearest-ge}
use lib.Ieee.Exact.{HasValue, units_val}
use lib.Ieee.Positive.{positive, positive_of_value, positive-finite}
use lib.Ieee.Scale.{finite}
use Rattle.roots.specs.Roots.{root}
use Rattle.ieee.specs.Sqrt.{magnitude, radicand, root_rounded, sqrt_of}
use Rattle.roots.proofs.Roots.{sq-le, sq-lt, sq-lt-back, cmp-lt, cmp-gt, root_is}
use Rattle.ieee.proofs.RootBits.{units-fits}
use Rattle.ieee.proofs.Grid.{digits, units_of, grid, no_tie}

-- ---- the two neighbours of the root, and which of them is nearer than any other value

-- R is nearer to the square root of N than Y is: the root lies on R's side of their middle, (R + Y) / 2
abbrev pub Beside : ℕ → ℕ → ℕ → Type 0
Beside N R Y = (R < Y → 4 * N < (R + Y) * (R + Y)) × (Y < R → (R + Y) * (R + Y) < 4 * N)

module _ (N q u Y : ℕ) (lo : q * u * (q * u) ≤ N) (hi : N < (q + 1) * u * ((q + 1) * u)) (gap : (Y ≤ q * u) ⊎ ((q + 1) * u ≤ Y)) where
  four : (a : ℕ) → (a + a) * (a + a) ≡ 4 * (a * a)
  four a = omega arith

  middle : q * u + (q + 1) * u ≡ (2 * q + 1) * u
  middle = omega arith

  lower : 4 * N < (2 * q + 1) * u * ((2 * q + 1) * u) → Beside N (q * u) Y
  lower h = (
    λ (l : q * u < Y). elim gap [
      | inl g ↦ absurd (not-le_of_lt l g)
      | inr g ↦ lt_of_lt_of_le h (sq-le (le_trans (le_of_eq (sym middle)) (plus g)))
    ],
    λ (l : Y < q * u). lt_of_lt_of_le (sq-lt (less l)) (le_trans (le_of_eq (four (q * u))) (mul-le-mul_left 4 lo)),
  )
    where
      plus : (q + 1) * u ≤ Y → q * u + (q + 1) * u ≤ q * u + Y
      plus g = omega arith

      less : Y < q * u → q * u + Y < q * u + q * u
      less l = omega arith

  upper : (2 * q + 1) * u * ((2 * q + 1) * u) < 4 * N → Beside N ((q + 1) * u) Y
  upper h = (
    λ (l : (q + 1) * u < Y). lt_of_lt_of_le (mul-lt-mul_of_pos_left hi (lit< tt)) (le_trans (le_of_eq (sym (four ((q + 1) * u)))) (sq-le (more l))),
    λ (l : Y < (q + 1) * u). elim gap [
      | inl g ↦ lt_of_le_of_lt (sq-le (le_trans (plus g) (le_of_eq middle))) h
      | inr g ↦ absurd (not-le_of_lt l g)
    ],
  )
    where
      plus : Y ≤ q * u → (q + 1) * u + Y ≤ q * u + (q + 1) * u
      plus g = omega arith

      more : (q + 1) * u < Y → (q + 1) * u + (q + 1) * u ≤ (q + 1) * u + Y
      more l = omega arith

-- ---- the leading digits of the root of N
module _ (N : ℕ) (lo : 2 ^ 46 ≤ N) where
  w : ℕ
  w = root N

  k : ℕ
  k = size w - 24

  q : ℕ
  q = w / 2 ^ k

  w-big : 2 ^ 23 ≤ w
  unfolding w
  w-big = under (sq-lt-back (lt_of_le_of_lt lo (root_is N).high))
    where
      under : 2 ^ 23 < w + 1 → 2 ^ 23 ≤ w
      under g = omega arith

  size_is : size w ≡ 24 + k
  unfolding k
  size_is = sum (size w) (lt_of_not-le (λ (g : size w ≤ 23). not-le_of_lt (size-lt w) (le_trans (pow_mono g) w-big)))
    where
      sum : (z : ℕ) → 23 < z → z ≡ 24 + (z - 24)
      sum z h = omega arith

  q-big : 2 ^ 23 ≤ q
  unfolding q
  q-big = (le-div_iff_mul-le (pow_pos k)).1 (le_trans (le_of_eq (sym (pow-add 2 23 k))) (size_reaches w (23 + k) (le_of_eq (one k ∙ sym size_is))))
    where
      one : (k : ℕ) → suc (23 + k) ≡ 24 + k
      one k = omega arith

  q-small : q < 2 ^ 24
  unfolding q
  q-small = (div-lt_iff_lt-mul (pow_pos k)).1 (lt_of_lt_of_le (size-lt w) (le_of_eq (ap (λ (z : ℕ). 2 ^ z) size_is ∙ pow-add 2 24 k)))

  q-low : q * 2 ^ k * (q * 2 ^ k) ≤ N
  unfolding q w
  q-low = le_trans (sq-le (div-mul-le_self w (2 ^ k))) (root_is N).low

  q-high : N < (q + 1) * 2 ^ k * ((q + 1) * 2 ^ k)
  unfolding q w
  q-high = lt_of_lt_of_le (root_is N).high (sq-le (next w (q * 2 ^ k) (2 ^ k) (lt-div-mul-add (pow_pos k)) (more q (2 ^ k))))
    where
      more : (q u : ℕ) → q * u + u ≡ (q + 1) * u
      more q u = omega arith

      next : (w a u : ℕ) → {b : ℕ} → w < a + u → a + u ≡ b → w + 1 ≤ b
      next w a u h e = omega arith

  half : ℕ
  half = (2 * q + 1) * 2 ^ k

  rounded : ℕ
  rounded = nearest q (compare (4 * N) (half * half))

  rounded-is : root_rounded N ≡ units binary32 false rounded k
  unfolding root_rounded rounded half q k w
  rounded-is = refl

  rounded-big : 2 ^ 23 ≤ rounded
  unfolding rounded
  rounded-big = le_trans q-big (nearest-ge q (compare (4 * N) (half * half)))

  rounded-small : rounded ≤ 2 ^ 24
  unfolding rounded
  rounded-small = le_trans (nearest-le q (compare (4 * N) (half * half))) q-small

  near : (Y m j p n : ℕ) → Y ≡ m * 2 ^ j → m < 2 ^ 24 → N ≡ n * 2 ^ p → n % 2 ≡ 1 → n < 2 ^ 24 → Beside N (rounded * 2 ^ k) Y
  unfolding rounded half
  near Y m j p n e s d o t = go (leb (4 * N) (half * half)) (leb→le (4 * N) (half * half)) (nleb→lt (4 * N) (half * half))
    where
      gap : (Y ≤ q * 2 ^ k) ⊎ ((q + 1) * 2 ^ k ≤ Y)
      gap = subst (λ (z : ℕ). (z ≤ q * 2 ^ k) ⊎ ((q + 1) * 2 ^ k ≤ z)) (sym e) (grid m j q k s q-big)

      go : (b : Bool) → (T b → 4 * N ≤ half * half) → (T (not b) → half * half < 4 * N) → Beside N (nearest q (compare (4 * N) (half * half)) * 2 ^ k) Y
      go true x y = elim (eq-or-lt_of_le (x tt)) [
        | inl g ↦ absurd (no_tie n p q k o t q-big (ap (λ (z : ℕ). 4 * z) (sym d) ∙ g))
        | inr g ↦ subst (λ (c : Ordering). Beside N (nearest q c * 2 ^ k) Y) (sym (cmp-lt (4 * N) (half * half) g)) (lower N q (2 ^ k) Y q-low q-high gap g)
      ]
      go false x y = subst (λ (c : Ordering). Beside N (nearest q c * 2 ^ k) Y) (sym (cmp-gt (4 * N) (half * half) (y tt))) (subst (λ (z : ℕ). Beside N (z * 2 ^ k) Y) (add-one q) (upper N q (2 ^ k) Y q-low q-high gap (y tt)))

  w-small : N < 2 ^ 426 → w < 2 ^ 213
  unfolding w
  w-small h = sq-lt-back (lt_of_le_of_lt (root_is N).low h)

  k-small : N < 2 ^ 426 → k ≤ 189
  unfolding k
  k-small h = off (size w) (size-le w 213 (w-small h))
    where
      off : (z : ℕ) → z ≤ 213 → z - 24 ≤ 189
      off z h = omega arith

  room : N < 2 ^ 426 → rounded * 2 ^ k < 2 ^ 277
  room h = lt_of_le_of_lt (mul-le-mul rounded-small (pow_mono (k-small h))) (lit< tt)

-- ---- the theorem
value-magnitude : (v : Float) (s : Bool) (a : ℕ) → HasValue v s a (2 ^ 149) → magnitude v ≡ a
value-magnitude nan s a h = absurd h
value-magnitude (inf t) s a h = absurd h
value-magnitude (fin t m e) s a h = ap (λ (z : ℕ). z / down e) h.1 ∙ mul-div_cancel a (down_pos e)

sqrt_of-is : (x : Float) → T (positive x) → sqrt_of x ≡ root_rounded (radicand x)
unfolding sqrt_of
sqrt_of-is nan p = absurd p
sqrt_of-is (inf s) p = absurd p
sqrt_of-is (fin true m e) p = absurd p
sqrt_of-is (fin false m e) p = refl

-- what holds of r, the root of a finite x above zero
pub record NearestRoot (x r : Float) : Type 0 where
  pub held : T (fits binary32 r)
  pub above : T (positive r)
  pub live : 0 < magnitude r
  pub beside : (y : Float) → T (fits binary32 y) → T (finite y) → Beside (radicand x) (magnitude r) (magnitude y)

pub sqrt-nearest : (x : Float) → T (fits binary32 x) → T (positive x) → NearestRoot x (sqrt_of x)
sqrt-nearest x f p =
    let N = magnitude x * 2 ^ 149 in
    let d = digits x f (positive-finite x p) in
    let n_pos : 0 < magnitude x = lt_of_lt_of_le (mul-pos (d.live p) (pow_pos d.j)) (le_of_eq (sym (units_of x d))) in
    let big : 2 ^ 46 ≤ N = le_trans (lit≤ tt) (mul-le-mul_right (2 ^ 149) n_pos) in
    let top : N < 2 ^ 426 = mul-lt-mul_of_pos_right d.far (pow_pos 149) in
    let r = units binary32 false (rounded N big) (k N big) in
    let is : sqrt_of x ≡ r = sqrt_of-is x p ∙ rounded-is N big in
    let v : HasValue r false (rounded N big * 2 ^ k N big) (2 ^ 149) = units_val binary32 false (rounded N big) (k N big) (room N big top) in
    subst (NearestRoot x) (sym is)
    (record {
      held = units-fits binary32 false (rounded N big) (k N big) (rounded-small N big) (room N big top);
      above = positive_of_value r (rounded N big * 2 ^ k N big) (2 ^ 149) v (mul-pos (lt_of_lt_of_le (lit< tt) (rounded-big N big)) (pow_pos (k N big)));
      live = lt_of_lt_of_le (mul-pos (lt_of_lt_of_le (lit< tt) (rounded-big N big)) (pow_pos (k N big))) (le_of_eq (sym (value-magnitude r false (rounded N big * 2 ^ k N big) v)));
      beside = λ y g h. let c = digits y g h in
          subst (λ (z : ℕ). Beside N z (magnitude y)) (sym (value-magnitude r false (rounded N big * 2 ^ k N big) v))
          (near N big (magnitude y) c.m c.j (d.j + 149) d.m (units_of y c) c.short (ap (λ (z : ℕ). z * 2 ^ 149) (units_of x d) ∙ mul_assoc d.m (2 ^ d.j) (2 ^ 149) ∙ ap (λ (z : ℕ). d.m * z) (sym (pow-add 2 d.j 149))) (d.odd (d.live p)) d.short);
    })
