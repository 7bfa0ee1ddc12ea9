-- Whole square roots: what `root` gives is the root, there is one root, a root scaled by a power of four, and when a whole number is the nearest. Assumes nothing.
use mathlib.Core.Path.{◌≡◌, sym, ap, ◌∙◌, subst}
use mathlib.Core.Logic.{inl, inr}
use Prim.Native.Nat.compare
use Prim.Native.Nat.{Ordering}
use Prim.Native.Nat.{ℕ, zero, suc, ◌+◌, ◌*◌, ◌/◌, ◌%◌, ◌^◌, ◌≤◌, ◌<◌, zero-le, compare}
use native.Mathlib.Nat.{le_refl, le_trans, le_of_eq, le_of_lt, le_antisymm, le_of_suc-le-suc, lt_of_lt_of_le, lt_of_le_of_lt, lt_of_not-le, not-le_of_lt, lt_irrefl, eq-or-lt_of_le, mul-le-mul, mul-pos, mul-lt-mul_of_pos_right, mul-le-mul_right, mul-mul-mul_comm, div-eq_of_lt-le, div-add-mod', mod-lt, pow-suc}
use native.Mathlib.Omega.{arith}
use native.Mathlib.Numerals.{add-one}
use mathlib.Core.Bool.{Bool, true, false, not, cond}
use lib.Dec.{T, leb, leb→le, nleb→lt, lit<, lit≤}
use lib.Pow.{pow_pos}
use lib.Ieee.{size}
use lib.Ieee.Digits.{size-lt}
use lib.Ieee.{nearest}
use Rattle.roots.specs.Roots.{IsRoot, with_digit, root_in, root, nearest_root}

-- ---- squares keep the order
pub sq-le : {a b : ℕ} → a ≤ b → a * a ≤ b * b
sq-le h = mul-le-mul h h

pub sq-lt-back : {a b : ℕ} → a * a < b * b → a < b
sq-lt-back {a} {b} h = lt_of_not-le (λ g. not-le_of_lt h (sq-le g))

pub sq-lt : {a b : ℕ} → a < b → a * a < b * b
sq-lt {a} {b} h = lt_of_le_of_lt (mul-le-mul (le_refl a) (le_of_lt h)) (mul-lt-mul_of_pos_right h (lt_of_le_of_lt zero-le h))

pub square-fits : (x : ℕ) → x < 2 ^ 26 → x * x < 2 ^ 64
square-fits x h = lt_of_le_of_lt (sq-le (le_of_lt h)) (lit< tt)

-- ---- `compare`
pub cmp-lt : (a b : ℕ) → a < b → compare a b ≡ Ordering.lt
cmp-lt zero zero h = absurd (lt_irrefl 0 h)
cmp-lt zero (suc b) h = compare.zero-suc b
cmp-lt (suc a) zero h = absurd (not-le_of_lt h zero-le)
cmp-lt (suc a) (suc b) h = compare.suc-suc a b ∙ cmp-lt a b (le_of_suc-le-suc h)

pub cmp-gt : (a b : ℕ) → b < a → compare a b ≡ Ordering.gt
cmp-gt zero zero h = absurd (lt_irrefl 0 h)
cmp-gt zero (suc b) h = absurd (not-le_of_lt h zero-le)
cmp-gt (suc a) zero h = compare.suc-zero a
cmp-gt (suc a) (suc b) h = compare.suc-suc a b ∙ cmp-gt a b (le_of_suc-le-suc h)

pub cmp-eq : (a : ℕ) → compare a a ≡ Ordering.eq
cmp-eq zero = compare.zero-zero
cmp-eq (suc a) = compare.suc-suc a a ∙ cmp-eq a

pub cmp-scale : (a b c : ℕ) → 0 < c → compare (a * c) (b * c) ≡ compare a b
cmp-scale a b c p = go (leb a b) (leb→le a b) (nleb→lt a b)
  where
    go : (t : Bool) → (T t → a ≤ b) → (T (not t) → b < a) → compare (a * c) (b * c) ≡ compare a b
    go true h k = elim (eq-or-lt_of_le (h tt)) [
      | inl e ↦ subst (λ (x : ℕ). compare (a * c) (x * c) ≡ compare a x) e (cmp-eq (a * c) ∙ sym (cmp-eq a))
      | inr l ↦ cmp-lt (a * c) (b * c) (mul-lt-mul_of_pos_right l p) ∙ sym (cmp-lt a b l)
    ]
    go false h k = cmp-gt (a * c) (b * c) (mul-lt-mul_of_pos_right (k tt) p) ∙ sym (cmp-gt a b (k tt))

-- ---- `root` is the root
digit-root : (n r : ℕ) → IsRoot (n / 4) r → IsRoot n (with_digit n r)
digit-root n r h = go (leb ((2 * r + 1) * (2 * r + 1)) n) (leb→le ((2 * r + 1) * (2 * r + 1)) n) (nleb→lt ((2 * r + 1) * (2 * r + 1)) n)
  where
    up : (x q m : ℕ) → x * 4 + m ≡ n → m < 4 → x < (r + 1) * (r + 1) → n < (2 * r + 1 + 1) * (2 * r + 1 + 1)
    up x q m e l k = omega arith

    down : (x m : ℕ) → x * 4 + m ≡ n → r * r ≤ x → 2 * r * (2 * r) ≤ n
    down x m e k = omega arith

    go : (b : Bool) → (T b → (2 * r + 1) * (2 * r + 1) ≤ n) → (T (not b) → n < (2 * r + 1) * (2 * r + 1)) → IsRoot n (cond b (2 * r + 1) (2 * r))
    go true y z = record { low = y tt; high = up (n / 4) r (n % 4) (div-add-mod' n 4) (mod-lt n (lit< tt)) h.high }
    go false y z = record { low = down (n / 4) (n % 4) (div-add-mod' n 4) h.low; high = z tt }

root_in-is : (k n : ℕ) → n < 4 ^ k → IsRoot n (root_in k n)
unfolding root_in
root_in-is zero n h = record { low = zero-le; high = h }
root_in-is (suc k) n h = digit-root n (root_in k (n / 4)) (root_in-is k (n / 4) (quarter (n / 4) (n % 4) (4 ^ k) (4 ^ suc k) (div-add-mod' n 4) (pow-suc 4 k) h))
  where
    quarter : (x m b c : ℕ) → x * 4 + m ≡ n → c ≡ b * 4 → n < c → x < b
    quarter x m b c e d l = omega arith

pow-two-four : (k : ℕ) → 2 ^ k ≤ 4 ^ k
pow-two-four zero = le_refl 1
pow-two-four (suc k) = le_trans (le_of_eq (pow-suc 2 k)) (le_trans (mul-le-mul (pow-two-four k) (lit≤ tt)) (le_of_eq (sym (pow-suc 4 k))))

pub root_is : (n : ℕ) → IsRoot n (root n)
unfolding root
root_is n = root_in-is (size n) n (lt_of_lt_of_le (size-lt n) (pow-two-four (size n)))

pub root-one : (n q r : ℕ) → IsRoot n q → IsRoot n r → q ≡ r
root-one n q r a b = le_antisymm (under q r (sq-lt-back (lt_of_le_of_lt a.low b.high))) (under r q (sq-lt-back (lt_of_le_of_lt b.low a.high)))
  where
    under : (x y : ℕ) → x < y + 1 → x ≤ y
    under x y h = omega arith

-- ---- the root of n * 4 ^ k keeps the root of n as its leading digits
pub root-scaled : (n q w k : ℕ) → IsRoot n q → IsRoot (n * (2 ^ k * 2 ^ k)) w → w / 2 ^ k ≡ q
root-scaled n q w k a b =
    let u = 2 ^ k in
    let lo : q * u < w + 1 = sq-lt-back (lt_of_le_of_lt (le_trans (le_of_eq (mul-mul-mul_comm q u q u)) (mul-le-mul_right (u * u) a.low)) b.high) in
    let hi : w < (q + 1) * u = sq-lt-back (lt_of_le_of_lt b.low (lt_of_lt_of_le (mul-lt-mul_of_pos_right a.high (mul-pos (pow_pos k) (pow_pos k))) (le_of_eq (sym (mul-mul-mul_comm (q + 1) u (q + 1) u))))) in
    div-eq_of_lt-le u (omega arith) hi

-- ---- rounded to a whole number
pub nearest_root-is : (n q : ℕ) → IsRoot n q → nearest_root n ≡ nearest q (compare (4 * n) ((2 * q + 1) * (2 * q + 1)))
unfolding nearest_root
nearest_root-is n q h = rw (root-one n (root n) q (root_is n) h)

pub root-small : {n q : ℕ} → IsRoot n q → n < 2 ^ 48 → q < 2 ^ 24
root-small h l = sq-lt-back (lt_of_le_of_lt h.low l)

-- a whole number is the nearest if the root lies between the halfway points beside it
above : (a h : ℕ) → (2 * h + 1) * (2 * h + 1) < 4 * a → 4 * a < (2 * h + 3) * (2 * h + 3) → h + 1 ≡ nearest_root a
above a h lo hi = go (leb ((h + 1) * (h + 1)) a) (leb→le ((h + 1) * (h + 1)) a) (nleb→lt ((h + 1) * (h + 1)) a)
  where
    go : (b : Bool) → (T b → (h + 1) * (h + 1) ≤ a) → (T (not b) → a < (h + 1) * (h + 1)) → h + 1 ≡ nearest_root a
    go true p q = sym (nearest_root-is a (h + 1) (record { low = p tt; high = omega arith }) ∙ ap (nearest (h + 1)) (cmp-lt (4 * a) ((2 * (h + 1) + 1) * (2 * (h + 1) + 1)) (omega arith)))
    go false p q = sym (nearest_root-is a h (record { low = omega arith; high = q tt }) ∙ (ap (nearest h) (cmp-gt (4 * a) ((2 * h + 1) * (2 * h + 1)) lo) ∙ sym (add-one h)))

-- Four times the squares of the halfway points are 4 * (e * e - e) + 1 and 4 * (e * e + e) + 1.
beside : (a h : ℕ) → (h + 1) * (h + 1) < a + (h + 1) → a ≤ (h + 1) * (h + 1) + (h + 1) → h + 1 ≡ nearest_root a
beside a h lo hi = above a h (omega arith) (omega arith)

pub nearest-beside : (a e : ℕ) → e * e < a + e → a ≤ e * e + e → e ≡ nearest_root a
nearest-beside a zero lo hi = absurd (no a lo hi)
  where
    no : (a : ℕ) → 0 < a + 0 → a ≤ 0 → ⊥
    no a lo hi = omega arith
nearest-beside a (suc h) lo hi =
    let e = sym (add-one h) in
    subst (λ (z : ℕ). z ≡ nearest_root a) (add-one h) (beside a h (subst (λ (z : ℕ). z * z < a + z) e lo) (subst (λ (z : ℕ). a ≤ z * z + z) e hi))

pub next-beside : (a e : ℕ) → e * e + e < a → a ≤ e * e + 3 * e + 2 → e + 1 ≡ nearest_root a
next-beside a e lo hi = beside a e (omega arith) (omega arith)
