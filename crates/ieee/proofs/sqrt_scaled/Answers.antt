-- `ieee::sqrt_scaled` meets its contract.
use Prim.Native.Nat.{ℕ, zero, suc, ◌+◌, ◌-◌, ◌*◌, ◌/◌, ◌%◌, ◌^◌, ◌≤◌, ◌<◌}
use mathlib.Core.Path.{◌≡◌, refl, sym, ap, subst, ◌∙◌}
use native.Mathlib.Nat.{mul-le-mul_left}
use native.Mathlib.Omega.{arith}
use lib.Ieee.{binary32, of_bits}
use Rattle.roots.specs.Roots.{nearest_root}
use Rattle.ieee.specs.Patterns.{Normalised}
use Rattle.ieee.specs.Sqrt.{root_rounded}
use Rattle.ieee.proofs.RootBits.{rounded-bits, rounded-small, halved}
use Rattle.ieee.proofs.sqrt_scaled.Goals as goal

abbrev Pattern : ℕ → ℕ → ℕ → Type 0
Pattern m p r = (of_bits binary32 r ≡ root_rounded (m * 2 ^ p)) × (r < 0x7f80_0000)

-- r is the rounded root of n, which is m * 2 ^ j; the other p - j digits are even in number, k + k
at : (m p j k n r : ℕ) → n ≡ m * 2 ^ j → 2 ^ 46 ≤ n → n + 2 ^ 24 ≤ 2 ^ 48 → k ≤ 190 → p ≡ j + (k + k) → r ≡ nearest_root n → Pattern m p (k * 2 ^ 23 + r)
at m p j k n r e lo hi l s q =
    subst (λ (z : ℕ). Pattern m p (k * 2 ^ 23 + z)) (sym q) (rounded-bits n k (m * 2 ^ p) lo hi l (halved m p j k s ∙ ap (λ (z : ℕ). z * (2 ^ k * 2 ^ k)) (sym e)))

-- by p % 2
parity : (m p o r : ℕ) → Normalised (m * 2 ^ p) m p → p % 2 ≡ o → r ≡ nearest_root (m * 2 ^ 23 * (2 - o)) → Pattern m p ((p - 24 + o) / 2 * 2 ^ 23 + r)
parity m p zero r h o q = at m p 24 ((p - 24 + 0) / 2) (m * 2 ^ 23 * 2) r (omega arith) (omega arith) (omega arith) (omega arith) (omega arith) q
parity m p (suc zero) r h o q = at m p 23 ((p - 24 + 1) / 2) (m * 2 ^ 23 * 1) r (omega arith) (omega arith) (omega arith) (omega arith) (omega arith) q
parity m p (suc (suc z)) r h o q = absurd (no p z o)
  where
    no : (p z : ℕ) → p % 2 ≡ suc (suc z) → ⊥
    no p z o = omega arith

-- m * 2 ^ 23 or twice that
room : (m o : ℕ) → m < 2 ^ 24 → m * 2 ^ 23 * (2 - o) + 2 ^ 24 ≤ 2 ^ 48
room m o h = omega (arith, mul-le-mul_left (m * 2 ^ 23) (less o))
  where
    less : (o : ℕ) → 2 - o ≤ 2
    less o = omega arith

under : (n : ℕ) → n + 2 ^ 24 ≤ 2 ^ 48 → n < 2 ^ 48
under n h = omega arith

small : (n r : ℕ) → n + 2 ^ 24 ≤ 2 ^ 48 → r ≡ nearest_root n → r < 2 ^ 24
small n r h e = subst (λ (z : ℕ). z < 2 ^ 24) (sym e) (rounded-small n h)

pub overflow_mul-m-2 : goal.overflow_mul-m-2
overflow_mul-m-2 c = omega (arith, room c.args.m (c.args.p % 2) c.requires.digits)

pub nearest_root-q-requires : goal.nearest_root-q-requires
nearest_root-q-requires c = (under _ (room c.args.m (c.args.p % 2) c.requires.digits), c.root_estimate.ensures)

pub overflow_add-result-2 : goal.overflow_add-result-2
overflow_add-result-2 c = omega (arith, small _ c.nearest_root-q.result (room c.args.m (c.args.p % 2) c.requires.digits) c.nearest_root-q.ensures)

pub returns : goal.returns
returns c = parity _ _ _ _ c.requires refl c.nearest_root-q.ensures
