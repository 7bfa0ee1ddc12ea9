-- `ieee::split` meets its contract.
use Prim.Native.Nat.{ℕ, zero, suc, ◌+◌, ◌*◌, ◌^◌}
use mathlib.Core.Path.{◌≡◌, refl, sym, ap, ◌∙◌}
use native.Mathlib.Nat.{mul_assoc}
use native.Mathlib.Omega.{arith}
use lib.Pow.{pow-add}
use lib.Ieee.{binary32}
use Rattle.ieee.specs.Patterns.{field_units}
use Rattle.ieee.proofs.split.Goals as goal

low_field : (x t : ℕ) → x ≡ 0 → t ≡ field_units binary32 x t
low_field x t e = rw e

high-field : (x t : ℕ) → (x ≡ 0 → ⊥) → (2 ^ 23 + t) * 2 ^ (x + 148) ≡ field_units binary32 x t * 2 ^ 149
high-field zero t h = absurd (h refl)
high-field (suc x) t h =
    ap (λ (z : ℕ). (2 ^ 23 + t) * 2 ^ z) (moved x) ∙ ap (λ (z : ℕ). (2 ^ 23 + t) * z) (pow-add 2 x 149) ∙ sym (mul_assoc (2 ^ 23 + t) (2 ^ x) (2 ^ 149))
  where
    moved : (x : ℕ) → suc x + 148 ≡ x + 149
    moved x = omega arith

pub returns-then-field-eq0 : goal.returns-then-field-eq0
returns-then-field-eq0 c =
    let v = c.normalised.ensures in
    record { value = v.value ∙ ap (λ (z : ℕ). z * 2 ^ 149) (low_field _ _ c.if-field-eq0.true); leading = v.leading; digits = v.digits; least = v.least; most = v.most }

pub returns : goal.returns
returns c = record { value = high-field _ _ c.if-field-eq0.false; leading = omega arith; digits = omega arith; least = omega arith; most = omega arith }
