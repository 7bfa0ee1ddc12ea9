-- The values of binary32 as a grid: each is an m of 24 digits times a power of two; between two neighbours of 24 digits there is none, and their middle is no square root of a value.
-- Assumes nothing.
use mathlib.Core.Path.{◌≡◌, refl, sym, ap, ◌∙◌, subst}
use mathlib.Core.Logic.{◌⊎◌, inl, inr}
use Prim.Native.Nat.{ℕ, zero, suc, ◌+◌, ◌-◌, ◌*◌, ◌/◌, ◌%◌, ◌^◌, ◌≤◌, ◌<◌}
use native.Mathlib.Nat.{le_trans, le_of_eq, le_of_lt, lt_of_lt_of_le, lt_of_not-le, lt_irrefl, zero-lt-suc, mul-le-mul, mul-lt-mul_of_pos_right, mul-le-mul_right, mul-mul-mul_comm, mul_assoc, mul_comm, mul_left_comm, mul-one, le_of_suc-le-suc, pow-suc, pow-succ', eq_of_mul-eq-mul_right, div-lt_iff_lt-mul, mul_right_comm, zero-mul}
use native.Mathlib.Omega.{arith}
use mathlib.Core.Bool.{Bool, true, false, not, ◌&&◌}
use lib.IntN.{ℤ, pos, negsuc}
use lib.Dec.{T, leb, ltb, eqb, lit<, leb→le, nleb→lt, ltb→lt, eqb→eq}
use lib.Pow.{pow_pos, pow-add, pow_mono, pow-lt}
use lib.Ieee.{Float, nan, inf, fin, binary32, up, down, fits}
use lib.Ieee.Digits.{back}
use lib.Ieee.Exact.{HasValue}
use lib.Ieee.Fits.{down_pos, and_l, and_r}
use lib.Ieee.Positive.{positive}
use lib.Ieee.Scale.{finite}
use Rattle.ieee.specs.Sqrt.{magnitude}
use Rattle.ieee.proofs.Values.{magnitude-of}

-- ---- a value of binary32 is m * 2 ^ j units with its sign, m odd or 0, and below 2 ^ 24
pow_le_back : (a l : ℕ) → 2 ^ a ≤ 2 ^ l → a ≤ l
pow_le_back a l h = le_of_suc-le-suc (lt_of_not-le (λ (g : suc l ≤ a). lt_irrefl (2 ^ l) (lt_of_lt_of_le (pow-lt g) h)))

in-units : (s : Bool) (m : ℕ) (e : ℤ) → down e ≤ 2 ^ 149 → (j : ℕ) × HasValue (fin s m e) s (m * 2 ^ j) (2 ^ 149)
in-units s m (pos a) h = (a + 149, (refl, mul_assoc m (2 ^ a) (2 ^ 149) ∙ ap (λ (z : ℕ). m * z) (sym (pow-add 2 a 149)) ∙ sym (mul-one (m * 2 ^ (a + 149)))))
in-units s m (negsuc a) h = (
  149 - suc a,
  (
    refl,
    ap (λ (z : ℕ). z * 2 ^ 149) (mul-one m)
        ∙ ap (λ (z : ℕ). m * z) (ap (λ (z : ℕ). 2 ^ z) (sym (back 149 (suc a) (pow_le_back (suc a) 149 h))) ∙ pow-add 2 (149 - suc a) (suc a))
        ∙ sym (mul_assoc m (2 ^ (149 - suc a)) (2 ^ suc a)),
  ),
)

pub zero-units : (s : Bool) (e : ℤ) → HasValue (fin s 0 e) s 0 (2 ^ 149)
zero-units s e = (refl, ap (λ (z : ℕ). z * 2 ^ 149) (zero-mul (up e)) ∙ zero-mul (2 ^ 149) ∙ sym (zero-mul (down e)))

pub magnitude-zero : (e : ℤ) → 0 * up e * 2 ^ 149 / down e ≡ 0
magnitude-zero e = magnitude-of (fin false 0 e) false 0 (zero-units false e)

pub record Digits (y : Float) : Type 0 where
  pub sign : Bool
  pub m : ℕ
  pub j : ℕ
  pub short : m < 2 ^ 24
  pub odd : 0 < m → m % 2 ≡ 1
  pub value : HasValue y sign (m * 2 ^ j) (2 ^ 149)
  pub far : magnitude y < 2 ^ 277
  pub live : T (positive y) → 0 < m

pub digits : (y : Float) → T (fits binary32 y) → T (finite y) → Digits y
unfolding fits
digits nan p q = absurd q
digits (inf s) p q = absurd q
digits (fin s zero e) p q =
    record { sign = s; m = 0; j = 0; short = lit< tt; odd = λ h. absurd (lt_irrefl 0 h); value = zero-units s e; far = subst (λ (z : ℕ). z < 2 ^ 277) (sym (magnitude-zero e)) (lit< tt); live = no s }
  where
    no : (s : Bool) → T (positive (fin s 0 e)) → 0 < 0
    no true h = absurd h
    no false h = absurd h
digits (fin s (suc m) e) p q =
    let A = eqb (suc m % 2) 1 in
    let B = ltb (suc m) (2 ^ 24) in
    let C = leb (down e) (2 ^ 149) in
    let D = ltb (suc m * up e) (2 ^ 128 * down e) in
    let u = in-units s (suc m) e (leb→le (down e) (2 ^ 149) (and_r (A && B) C (and_l (A && B && C) D p))) in
    record {
      sign = s;
      m = suc m;
      j = u.0;
      short = ltb→lt (suc m) (2 ^ 24) (and_r A B (and_l (A && B) C (and_l (A && B && C) D p)));
      odd = λ h. eqb→eq (suc m % 2) 1 (and_l A B (and_l (A && B) C (and_l (A && B && C) D p)));
      value = u.1;
      far = reach (suc m) e (ltb→lt (suc m * up e) (2 ^ 128 * down e) (and_r (A && B && C) D p));
      live = λ h. zero-lt-suc m;
    }
  where
    reach : (m : ℕ) (e : ℤ) → m * up e < 2 ^ 128 * down e → m * up e * 2 ^ 149 / down e < 2 ^ 277
    reach m e h = (div-lt_iff_lt-mul (down_pos e)).1 (lt_of_lt_of_le (mul-lt-mul_of_pos_right h (pow_pos 149)) (le_of_eq (mul_right_comm (2 ^ 128) (down e) (2 ^ 149))))

pub units_of : (y : Float) (d : Digits y) → magnitude y ≡ d.m * 2 ^ d.j
units_of y d = magnitude-of y d.sign (d.m * 2 ^ d.j) d.value

-- ---- between two neighbours of 24 digits there is no value
pub grid : (m j q k : ℕ) → m < 2 ^ 24 → 2 ^ 23 ≤ q → (m * 2 ^ j ≤ q * 2 ^ k) ⊎ ((q + 1) * 2 ^ k ≤ m * 2 ^ j)
grid m j q k s h = go (leb k j) (leb→le k j) (nleb→lt k j)
  where
    near : (a q : ℕ) → q < a → q + 1 ≤ a
    near a q l = omega arith

    fine : k ≤ j → m * 2 ^ j ≡ m * 2 ^ (j - k) * 2 ^ k
    fine l = ap (λ (z : ℕ). m * 2 ^ z) (sym (back j k l)) ∙ ap (λ (z : ℕ). m * z) (pow-add 2 (j - k) k) ∙ sym (mul_assoc m (2 ^ (j - k)) (2 ^ k))

    side : k ≤ j → (b : Bool) → (T b → m * 2 ^ (j - k) ≤ q) → (T (not b) → q < m * 2 ^ (j - k)) → (m * 2 ^ j ≤ q * 2 ^ k) ⊎ ((q + 1) * 2 ^ k ≤ m * 2 ^ j)
    side l true x y = inl (le_trans (le_of_eq (fine l)) (mul-le-mul_right (2 ^ k) (x tt)))
    side l false x y = inr (le_trans (mul-le-mul_right (2 ^ k) (near (m * 2 ^ (j - k)) q (y tt))) (le_of_eq (sym (fine l))))

    twice : 2 ^ 24 * 2 ^ j ≡ 2 ^ 23 * 2 ^ suc j
    twice = mul_assoc (2 ^ 23) 2 (2 ^ j) ∙ ap (λ (z : ℕ). 2 ^ 23 * z) (sym (pow-succ' 2 j))

    go : (b : Bool) → (T b → k ≤ j) → (T (not b) → j < k) → (m * 2 ^ j ≤ q * 2 ^ k) ⊎ ((q + 1) * 2 ^ k ≤ m * 2 ^ j)
    go true x y = side (x tt) (leb (m * 2 ^ (j - k)) q) (leb→le (m * 2 ^ (j - k)) q) (nleb→lt (m * 2 ^ (j - k)) q)
    go false x y = inl (le_trans (mul-le-mul_right (2 ^ j) (le_of_lt s)) (le_trans (le_of_eq twice) (mul-le-mul h (pow_mono (y tt)))))

-- ---- the middle of two neighbours is no root, of an N that is m * 2 ^ p with an odd m below 2 ^ 24
even_odd : (m t : ℕ) → m % 2 ≡ 1 → m ≡ 2 * t → ⊥
even_odd m t o h = omega arith

odd_pow : (m n a b : ℕ) → m % 2 ≡ 1 → n % 2 ≡ 1 → m * 2 ^ a ≡ n * 2 ^ b → m ≡ n
odd_pow m n zero zero o p h = sym (mul-one m) ∙ h ∙ mul-one n
odd_pow m n zero (suc b) o p h = absurd (even_odd m (n * 2 ^ b) o (sym (mul-one m) ∙ h ∙ ap (λ (x : ℕ). n * x) (pow-succ' 2 b) ∙ mul_left_comm n 2 (2 ^ b)))
odd_pow m n (suc a) zero o p h = absurd (even_odd n (m * 2 ^ a) p (sym (mul-one n) ∙ sym h ∙ ap (λ (x : ℕ). m * x) (pow-succ' 2 a) ∙ mul_left_comm m 2 (2 ^ a)))
odd_pow m n (suc a) (suc b) o p h =
    odd_pow m n a b o p (eq_of_mul-eq-mul_right 2 (zero-lt-suc 1) (m * 2 ^ a) (n * 2 ^ b)
    (mul_assoc m (2 ^ a) 2 ∙ ap (λ (x : ℕ). m * x) (sym (pow-suc 2 a)) ∙ h ∙ ap (λ (x : ℕ). n * x) (pow-suc 2 b) ∙ sym (mul_assoc n (2 ^ b) 2)))

pub no_tie : (m p q k : ℕ) → m % 2 ≡ 1 → m < 2 ^ 24 → 2 ^ 23 ≤ q → 4 * (m * 2 ^ p) ≡ (2 * q + 1) * 2 ^ k * ((2 * q + 1) * 2 ^ k) → ⊥
no_tie m p q k o s h e =
    let n = (2 * q + 1) * (2 * q + 1) in
    let l : 4 * (m * 2 ^ p) ≡ m * 2 ^ (p + 2) = mul_left_comm 4 m (2 ^ p) ∙ ap (λ (z : ℕ). m * z) (mul_comm 4 (2 ^ p) ∙ sym (pow-add 2 p 2)) in
    let r : (2 * q + 1) * 2 ^ k * ((2 * q + 1) * 2 ^ k) ≡ n * 2 ^ (k + k) = mul-mul-mul_comm (2 * q + 1) (2 ^ k) (2 * q + 1) (2 ^ k) ∙ ap (λ (z : ℕ). n * z) (sym (pow-add 2 k k)) in
    big (odd_pow m n (p + 2) (k + k) o (odd-square q) (sym l ∙ e ∙ r))
  where
    odd-square : (q : ℕ) → (2 * q + 1) * (2 * q + 1) % 2 ≡ 1
    odd-square q = omega arith

    big : m ≡ (2 * q + 1) * (2 * q + 1) → ⊥
    big e = omega arith
