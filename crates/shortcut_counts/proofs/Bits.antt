-- Binary digits: of a number put together of two, of one to which a power of two is added; that n digits tell a number below 2 ^ n, and which they are.
-- Assumes nothing.
use mathlib.Core.Path.{◌≡◌, refl, sym, ap, ◌∙◌, subst}
use mathlib.Core.Bool.{Bool, true, false}
use mathlib.Core.Logic.{◌⊎◌, inl, inr}
use Prim.Native.Nat.{ℕ, zero, suc, ◌+◌, ◌-◌, ◌*◌, ◌/◌, ◌%◌, ◌^◌, ◌<◌}
use native.Mathlib.Nat.{zero-add, one-mul, div-eq_of_lt, mul-add-div_right, mul-add-mod_self_right, mul_assoc, pow-suc, not-suc-le-zero, le_of_suc-le-suc, eq-or-lt_of_le}
use native.Mathlib.Omega.{arith}
use lib.Dec.{eqb}
use lib.Pow.{pow_pos, pow-add, shr-shr, high}
use borrow.Author.Tests.{eq-eqb, ne_eqb, eqb-true, eqb-false}
use Rattle.lists.specs.Lists.{pick}
use Rattle.shortcut_counts.specs.Counted.{bit_at, has_bit}

pub bit-small : (b k : ℕ) → bit_at b k < 2
bit-small b k = omega arith

-- a digit as what it counts for
pub pick-bit : (b k : ℕ) → pick (has_bit b k) 1 0 ≡ bit_at b k
pick-bit b k = go (bit_at b k) (bit-small b k)
  where
    go : (d : ℕ) → d < 2 → pick (eqb d 1) 1 0 ≡ d
    go zero h = refl
    go (suc zero) h = refl
    go (suc (suc d)) h = absurd (no d h)
      where
        no : (d : ℕ) → suc (suc d) < 2 → ⊥
        no d h = omega arith

-- ---- q in front, w in the last c places

pub bit_high : (q w c k : ℕ) → w < 2 ^ c → bit_at (q * 2 ^ c + w) (c + k) ≡ bit_at q k
bit_high q w c k h = ap (λ (z : ℕ). z % 2) (sym (shr-shr (q * 2 ^ c + w) c k) ∙ ap (λ (z : ℕ). z / 2 ^ k) (high q c h))

low_of : (q w d k : ℕ) → bit_at (q * 2 ^ (suc d + k) + w) k ≡ bit_at w k
low_of q w d k =
    let e : q * 2 ^ (suc d + k) ≡ q * 2 ^ suc d * 2 ^ k = ap (λ (z : ℕ). q * z) (pow-add 2 (suc d) k) ∙ sym (mul_assoc q (2 ^ suc d) (2 ^ k)) in
    let f : q * 2 ^ suc d ≡ q * 2 ^ d * 2 = ap (λ (z : ℕ). q * z) (pow-suc 2 d) ∙ sym (mul_assoc q (2 ^ d) 2) in
    ap (λ (z : ℕ). (z + w) / 2 ^ k % 2) e
    ∙ ap (λ (z : ℕ). z % 2) (mul-add-div_right (pow_pos k) (q * 2 ^ suc d) w)
    ∙ ap (λ (z : ℕ). (z + w / 2 ^ k) % 2) f
    ∙ mul-add-mod_self_right (q * 2 ^ d) 2 (w / 2 ^ k)

pub bit-low : (q w c k : ℕ) → k < c → bit_at (q * 2 ^ c + w) k ≡ bit_at w k
bit-low q w c k h = let d = c - suc k in let e : suc d + k ≡ c = omega arith in subst (λ (z : ℕ). bit_at (q * 2 ^ z + w) k ≡ bit_at w k) e (low_of q w d k)

pub bit-above : (v c : ℕ) → v < 2 ^ c → bit_at v c ≡ 0
bit-above v c h = ap (λ (z : ℕ). z % 2) (div-eq_of_lt h)

pub bit-zero : (k : ℕ) → bit_at 0 k ≡ 0
bit-zero k = bit-above 0 k (pow_pos k)

-- ---- one digit in front

once : (c v : ℕ) → 2 ^ c + v ≡ 1 * 2 ^ c + v
once c v = ap (λ (z : ℕ). z + v) (sym (one-mul (2 ^ c)))

pub top-low : (c v k : ℕ) → k < c → bit_at (2 ^ c + v) k ≡ bit_at v k
top-low c v k h = ap (λ (z : ℕ). bit_at z k) (once c v) ∙ bit-low 1 v c k h

pub top-top : (c v : ℕ) → v < 2 ^ c → bit_at (2 ^ c + v) c ≡ 1
top-top c v h = ap (λ (z : ℕ). bit_at z c) (once c v) ∙ ap (λ (z : ℕ). z % 2) (high 1 c h)

-- ---- the last digit, and the others

bit-first : (b : ℕ) → bit_at b 0 ≡ b % 2
bit-first b = omega arith

bit-suc : (b k : ℕ) → bit_at b (suc k) ≡ bit_at (b / 2) k
bit-suc b k = ap (λ (z : ℕ). b / 2 ^ z % 2) (one k) ∙ ap (λ (z : ℕ). z % 2) (sym (shr-shr b 1 k))
  where
    one : (k : ℕ) → suc k ≡ 1 + k
    one k = omega arith

-- ---- a power of two is added

-- 1 at place j, 0 elsewhere
abbrev pub only_at : ℕ → ℕ → ℕ
only_at j k = pick (eqb k j) 1 0

only-suc : (j k : ℕ) → only_at (suc j) (suc k) ≡ only_at j k
only-suc j k = ap (λ (t : Bool). pick t 1 0) (same (eqb k j) refl)
  where
    same : (t : Bool) → eqb k j ≡ t → eqb (suc k) (suc j) ≡ t
    same true e = eq-eqb (suc k) (suc j) (ap suc (eqb-true k j e))
    same false e = ne_eqb (suc k) (suc j) (λ f. eqb-false k j e (omega (arith, f)))

plus_none : (a b : ℕ) → b ≡ 0 → a ≡ a + b
plus_none a b h = omega arith

-- a digit that was 0 becomes 1, the others stay
pub bit-add : (j k m : ℕ) → bit_at m j ≡ 0 → bit_at (m + 2 ^ j) k ≡ bit_at m k + only_at j k
bit-add zero zero m h = omega arith
bit-add zero (suc k) m h =
    let e : (m + 2 ^ 0) / 2 ≡ m / 2 = omega (arith, bit-first m) in
    let u : only_at zero (suc k) ≡ 0 = ap (λ (t : Bool). pick t 1 0) (ne_eqb (suc k) 0 (λ f. omega (arith, f))) in
    bit-suc (m + 2 ^ 0) k ∙ ap (λ (z : ℕ). bit_at z k) e ∙ sym (bit-suc m k) ∙ plus_none (bit_at m (suc k)) (only_at zero (suc k)) u
bit-add (suc j) zero m h =
    let e : (m + 2 ^ suc j) % 2 ≡ m % 2 = omega (arith, pow-suc 2 j) in
    let u : only_at (suc j) zero ≡ 0 = ap (λ (t : Bool). pick t 1 0) (ne_eqb 0 (suc j) (λ f. omega (arith, f))) in
    bit-first (m + 2 ^ suc j) ∙ e ∙ sym (bit-first m) ∙ plus_none (bit_at m 0) (only_at (suc j) zero) u
bit-add (suc j) (suc k) m h =
    let e : (m + 2 ^ suc j) / 2 ≡ m / 2 + 2 ^ j = omega (arith, pow-suc 2 j) in
    bit-suc (m + 2 ^ suc j) k
    ∙ ap (λ (z : ℕ). bit_at z k) e
    ∙ bit-add j k (m / 2) (sym (bit-suc m j) ∙ h)
    ∙ ap (λ (z : ℕ). z + only_at j k) (sym (bit-suc m k))
    ∙ ap (λ (z : ℕ). bit_at m (suc k) + z) (sym (only-suc j k))

pub bit-power : (j k : ℕ) → bit_at (2 ^ j) k ≡ only_at j k
bit-power j k =
    ap (λ (z : ℕ). bit_at z k) (sym (zero-add (2 ^ j)))
    ∙ bit-add j k 0 (bit-zero j)
    ∙ ap (λ (z : ℕ). z + only_at j k) (bit-zero k)
    ∙ zero-add (only_at j k)

-- ---- n digits and the number below 2 ^ n

module _ (f : ℕ → Bool) where
  -- the number whose digit at place k is f's
  abbrev pub number_with : ℕ → ℕ
  number_with zero = 0
  number_with (suc n) = pick (f n) (2 ^ n) 0 + number_with n

  pub with-small : (n : ℕ) → number_with n < 2 ^ n
  with-small zero = omega arith
  with-small (suc n) = go (f n) (with-small n)
    where
      go : (t : Bool) → number_with n < 2 ^ n → pick t (2 ^ n) 0 + number_with n < 2 ^ suc n
      go true ih = omega (arith, ih, pow-suc 2 n)
      go false ih = omega (arith, ih, pow-suc 2 n)

  pub with-bit : (n k : ℕ) → k < n → has_bit (number_with n) k ≡ f k
  with-bit zero k h = absurd (not-suc-le-zero h)
  with-bit (suc n) k h = go (f n) refl (eq-or-lt_of_le (le_of_suc-le-suc h)) (with-bit n k)
    where
      go : (t : Bool) → f n ≡ t → (k ≡ n) ⊎ (k < n) → (k < n → has_bit (number_with n) k ≡ f k) → has_bit (pick t (2 ^ n) 0 + number_with n) k ≡ f k
      go true e (inl q) ih = rw q (ap (λ (z : ℕ). eqb z 1) (top-top n (number_with n) (with-small n)) ∙ sym e)
      go true e (inr l) ih = ap (λ (z : ℕ). eqb z 1) (top-low n (number_with n) k l) ∙ ih l
      go false e (inl q) ih = rw q (ap (λ (z : ℕ). has_bit z n) (zero-add (number_with n)) ∙ ap (λ (z : ℕ). eqb z 1) (bit-above (number_with n) n (with-small n)) ∙ sym e)
      go false e (inr l) ih = ap (λ (z : ℕ). has_bit z k) (zero-add (number_with n)) ∙ ih l

pub digits-tell : (n a b : ℕ) → a < 2 ^ n → b < 2 ^ n → ((k : ℕ) → k < n → bit_at a k ≡ bit_at b k) → a ≡ b
digits-tell zero a b h g s = omega arith
digits-tell (suc n) a b h g s =
    let e : a / 2 ≡ b / 2 = digits-tell n (a / 2) (b / 2) (omega (arith, h, pow-suc 2 n)) (omega (arith, g, pow-suc 2 n)) (λ k l. sym (bit-suc a k) ∙ s (suc k) (omega (arith, l)) ∙ bit-suc b k) in
    omega (arith, e, sym (bit-first a) ∙ s 0 (omega arith) ∙ bit-first b)
