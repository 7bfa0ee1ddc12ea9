-- `widening::widen` meets its contract.
use mathlib.Core.Path.{◌≡◌, sym, ap, ◌∙◌, subst}
use Prim.Native.Nat.{ℕ, ◌^◌, ◌<◌}
use native.Mathlib.Omega.{arith}
use lib.Dec.{T}
use lib.Ieee.{binary32, binary64, fits, is_nan, of_bits}
use lib.Ieee.Bits.{of_bits-to_bits, to_bits-lt}
use Rattle.ieee.proofs.Nans.{nan_is, zero_by_zero}
use Rattle.widening.specs.declared.Class.{Class}
use Rattle.widening.specs.declared.Class.TheVariants.{Zero, Subnormal, Normal, Infinity, NaN}
use Rattle.widening.specs.Classes.{InClass}
use Rattle.widening.proofs.Classes.{class-nan}
use Rattle.widening.proofs.Values.{wide_bits, zero_same, normal-same, two_fields, infinity-same}
use Rattle.widening.proofs.widen.Goals as goal
use Rattle.widening.proofs.widen.Goals.{After-bits_of-b, After-class_of}

-- the bits stand for x
held : (a : After-bits_of-b) → T (fits binary32 a.args.x)
held a = subst T (sym a.well_formed.0.1) tt

in-range : (a : After-bits_of-b) → a.bits_of-b.result < 2 ^ 32
in-range a = subst (λ (b : ℕ). b < 2 ^ 32) (sym a.bits_of-b.ensures) (to_bits-lt binary32 a.args.x (held a))

value : (a : After-bits_of-b) → of_bits binary32 a.bits_of-b.result ≡ a.args.x
value a = ap (of_bits binary32) a.bits_of-b.ensures ∙ of_bits-to_bits binary32 a.args.x (held a)

-- what an arm knows of them
told : (k : Class) (g : After-class_of) → g.class_of.result ≡ k → InClass binary32 k g.bits_of-b.result
told k g e = subst (λ (c : Class). InClass binary32 c g.bits_of-b.result) e g.class_of.ensures.has

pub from_subnormal-requires : goal.from_subnormal-requires
from_subnormal-requires c = let i = told Subnormal c.before c.in-Subnormal.is in (omega arith, omega arith, omega arith)

pub returns-in-Zero : goal.returns-in-Zero
returns-in-Zero c =
    let g = c.before.before in
    let a = g.before.before.before.before in
    c.from_fields.ensures ∙ ap (λ (s : ℕ). of_bits binary64 (wide_bits s 0 0)) c.sign_bit-s.ensures ∙ zero_same c.bits_of-b.result (in-range a) (told Zero g c.in-Zero.is) ∙ value a

pub returns-in-Subnormal : goal.returns-in-Subnormal
returns-in-Subnormal c =
    let g = c.before.before in
    let a = g.before.before.before.before in
    c.from_subnormal.ensures
    ∙ rw (c.sign_bit-s.ensures, c.trailing_significand-t.ensures) (ap (of_bits binary32) (two_fields c.bits_of-b.result (in-range a) (told Subnormal g c.in-Subnormal.is).0))
    ∙ value a

pub returns-in-Normal : goal.returns-in-Normal
returns-in-Normal c =
    let g = c.before.before in
    let a = g.before.before.before.before in
    c.from_fields-in-Normal.ensures ∙ rw (c.sign_bit-s.ensures, c.biased_exponent-e.ensures, c.trailing_significand-t.ensures) (normal-same c.bits_of-b.result (in-range a) (told Normal g c.in-Normal.is)) ∙ value a

pub returns-in-Infinity : goal.returns-in-Infinity
returns-in-Infinity c =
    let g = c.before.before in
    let a = g.before.before.before.before in
    c.from_fields-in-Infinity.ensures ∙ ap (λ (s : ℕ). of_bits binary64 (wide_bits s 2047 0)) c.sign_bit-s.ensures ∙ infinity-same c.bits_of-b.result (in-range a) (told Infinity g c.in-Infinity.is) ∙ value a

pub returns-in-NaN : goal.returns-in-NaN
returns-in-NaN c =
    let g = c.before in
    let a = g.before.before.before.before in
    zero_by_zero binary64 ∙ sym (nan_is c.args.x (ap is_nan (sym (value a)) ∙ class-nan binary32 c.bits_of-b.result (told NaN g c.in-NaN.is)))
