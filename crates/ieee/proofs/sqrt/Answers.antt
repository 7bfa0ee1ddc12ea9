-- `ieee::sqrt` meets its contract: each way returns what `sqrt_of` says, which is the square root.
use Prim.Native.Nat.{ℕ, ◌%◌, ◌^◌, ◌≤◌, ◌<◌}
use mathlib.Core.Path.{◌≡◌, refl, sym, ap, subst, ◌∙◌}
use mathlib.Core.Logic.{◌⊎◌, inl, inr}
use native.Mathlib.Nat.{eq-or-lt_of_le}
use native.Mathlib.Omega.{arith}
use lib.Dec.{T}
use lib.Ieee.{Float, binary32, fits, to_bits}
use lib.Ieee.Bits.{of_bits-to_bits, to_bits-lt}
use Rattle.ieee.specs.Sqrt.{sqrt_of, SquareRoot}
use Rattle.ieee.proofs.Nans.{nan_is, no_nan, zero_by_zero, pattern-of-finite, at-most-infinity}
use Rattle.ieee.proofs.RootsOfPatterns.{positive-root, negative-root, own_root, plus-zero, minus-zero, infinite, not-a-number}
use Rattle.ieee.proofs.SquareRoots.{square-root}
use Rattle.ieee.proofs.sqrt.Goals as goal
use Rattle.ieee.proofs.sqrt.Goals.{Joined-b-lt8388608, Start}

held : (c : Start) → T (fits binary32 c.args.x)
held c = subst T (sym c.well_formed.0.1) tt

shown : (c : Start) (r : Float) → r ≡ sqrt_of c.args.x → SquareRoot c.args.x r
shown c r e = square-root c.args.x r (held c) e

pub returns-then-is_nan : goal.returns-then-is_nan
returns-then-is_nan c =
    let s = c.before.before in
    let e = nan_is s.args.x (sym c.is_nan.ensures ∙ c.if-is_nan.true) in
    shown s s.args.x (e ∙ sym not-a-number ∙ ap sqrt_of (sym e))

pub float_to_bits-b : goal.float_to_bits-b
float_to_bits-b c = no_nan c.args.x (sym c.is_nan.ensures ∙ c.if-is_nan.false)

pub overflow_cast-b : goal.overflow_cast-b
overflow_cast-b c = omega (arith, to_bits-lt binary32 c.args.x (held c.before.before))

-- the two patterns of no NaN from infinity to -0
ends : (b : ℕ) → b % 2 ^ 31 ≤ 0x7f80_0000 → 0x7f80_0000 ≤ b → b ≤ 0x8000_0000 → (b ≡ 0x7f80_0000) ⊎ (b ≡ 0x8000_0000)
ends b h lo hi = elim (eq-or-lt_of_le lo) [
  | inl e ↦ inl (sym e)
  | inr l ↦ inr (omega arith)
]

pub returns-then-b-le2147483648 : goal.returns-then-b-le2147483648
returns-then-b-le2147483648 c =
    let s = c.before.before.before.before in
    let x = s.args.x in
    elim (ends (to_bits binary32 x) (at-most-infinity x (held s) (sym c.is_nan.ensures ∙ c.if-is_nan.false)) c.if-b-ge2139095040.true c.if-b-le2147483648.true) [
      | inl e ↦ shown s x (own_root x 0x7f80_0000 (held s) e infinite)
      | inr e ↦ shown s x (own_root x 0x8000_0000 (held s) e minus-zero)
    ]

pub returns-then-b-ge2139095040 : goal.returns-then-b-ge2139095040
returns-then-b-ge2139095040 c =
    let s = c.before.before.before.before in
    let x = s.args.x in
    shown s _ (zero_by_zero binary32 ∙ sym (negative-root (to_bits binary32 x) c.if-b-le2147483648.false (to_bits-lt binary32 x (held s))) ∙ ap sqrt_of (of_bits-to_bits binary32 x (held s)))

pub returns-then-b-eq0 : goal.returns-then-b-eq0
returns-then-b-eq0 c = let s = c.before.before.before.before.before in shown s _ (own_root s.args.x 0 (held s) c.if-b-eq0.true plus-zero)

-- what the tests for a zero leave
above_zero : (c : Joined-b-lt8388608) → 0 < to_bits binary32 c.args.x
above_zero c = elim c.if-b-lt8388608.branch [
  | goal.then-b-lt8388608+else-b-eq0 w ↦ other _ w.if-b-eq0.false
  | goal.else-b-lt8388608 w ↦ large _ w.if-b-lt8388608.false
]
  where
    other : (b : ℕ) → (b ≡ 0 → ⊥) → 0 < b
    other b h = omega arith

    large : (b : ℕ) → 0x80_0000 ≤ b → 0 < b
    large b h = omega arith

pub split-s-requires : goal.split-s-requires
split-s-requires c = (above_zero c, c.if-b-ge2139095040.false)

pub sqrt_scaled-requires : goal.sqrt_scaled-requires
sqrt_scaled-requires c =
    let v = c.split-s.ensures in
    record { value = refl; leading = v.leading; digits = v.digits; least = v.least; most = v.most }

pub float_from_bits-result : goal.float_from_bits-result
float_from_bits-result c = pattern-of-finite c.sqrt_scaled.result c.sqrt_scaled.ensures.1

pub returns : goal.returns
returns c =
    let s = c.before.before.before.before.before.before in
    shown s _ (positive-root s.args.x _ c.sqrt_scaled.result (held s) c.if-b-ge2139095040.false c.split-s.ensures.value c.sqrt_scaled.ensures.0)
