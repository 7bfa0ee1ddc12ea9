-- `ieee::normalised` meets its contract. The invariant: m * 2 ^ p stays t * 2 ^ 149. The measure is what m lacks to 2 ^ 23.
use mathlib.Core.Path.{◌≡◌, refl, sym, ap, ◌∙◌}
use Prim.Native.Nat.{ℕ, zero, suc, ◌-◌, ◌*◌, ◌^◌, ◌≤◌, ◌<◌}
use native.Mathlib.Nat.{mul-le-mul, lt_of_le_of_lt, le_of_lt, pow-succ', mul_left_comm, mul-one, mul_assoc, mul-le-mul_right, zero-lt-suc, lt_of_not-le, not-le_of_lt, le_trans, le_of_eq}
use lib.Pow.{pow_mono}
use native.Mathlib.Omega.{arith}
use lib.Dec.{lit<, lit≤}
use Rattle.ieee.proofs.normalised.Goals as goal
use Rattle.ieee.proofs.normalised.Goals.{In-loop-m}

-- An m below 2 ^ 24 has some of the doublings left. (T is 2 ^ 149: `omega` reads no numeral of more than 38 digits.)
short : (t m T : ℕ) → m ≡ t * T → 1 * T ≤ t * T → 2 ^ 24 ≤ T → m < 2 ^ 24 → ⊥
short t m T e h k l = omega arith

left : (t m p : ℕ) → m * 2 ^ p ≡ t * 2 ^ 149 → m < 2 ^ 24 → 0 < t → 0 < p
left t m zero e l h = absurd (short t m (2 ^ 149) (sym (mul-one m) ∙ e) (mul-le-mul_right (2 ^ 149) h) (lit≤ tt) l)
left t m (suc p) e l h = zero-lt-suc p

-- more than 23 of them
most : (t m p : ℕ) → m * 2 ^ p ≡ t * 2 ^ 149 → m < 2 ^ 24 → 0 < t → 24 ≤ p
most t m p e l h = lt_of_not-le (λ (g : p ≤ 23). not-le_of_lt (lt_of_le_of_lt (mul-le-mul (le_of_lt l) (pow_mono g)) (lit< tt)) (le_trans (mul-le-mul_right (2 ^ 149) h) (le_of_eq (sym e))))

doubled : (t m p : ℕ) → m * 2 ^ p ≡ t * 2 ^ 149 → 0 < p → 2 * m * 2 ^ (p - 1) ≡ t * 2 ^ 149
doubled t m zero e h = absurd (no h)
  where
    no : 0 < 0 → ⊥
    no h = omega arith
doubled t m (suc p) e h = ap (λ (z : ℕ). 2 * m * 2 ^ z) pred ∙ mul-comm-two ∙ e
  where
    pred : suc p - 1 ≡ p
    pred = omega arith

    mul-comm-two : 2 * m * 2 ^ p ≡ m * 2 ^ suc p
    mul-comm-two = mul_assoc 2 m (2 ^ p) ∙ mul_left_comm 2 m (2 ^ p) ∙ ap (λ (z : ℕ). m * z) (sym (pow-succ' 2 p))

pub loop-m-init : goal.loop-m-init
loop-m-init c = (refl, omega arith, omega arith, omega arith, omega arith)

module _ (c : In-loop-m) where
  more : 0 < c.loop-m.p
  more = let v = c.loop-m.invariant in left _ _ c.loop-m.p v.0 v.2 v.3

pub overflow_sub-p : goal.overflow_sub-p
overflow_sub-p c = more c

pub loop-m-preserved : goal.loop-m-preserved
loop-m-preserved c =
    let v = c.loop-m.invariant in
    (doubled _ _ c.loop-m.p v.0 (more c), omega arith, omega arith, v.3, omega arith)

pub returns : goal.returns
returns c =
    let v = c.loop-m.invariant in
    record { value = v.0; leading = omega arith; digits = v.2; least = most _ _ c.loop-m.p v.0 v.2 v.3; most = omega arith }
