-- A box is the same as itself, so the last box's own entry passes the state rule. Assumes nothing.
use mathlib.Core.Path.{◌≡◌, refl}
use mathlib.Core.Bool.{true}
use borrow.Author.Tests.{eq-eqb}
use Rattle.std.specs.Prelude.{Option, Some, None}
use lib.Ieee.{Float, binary32, to_bits}
use Rattle.kalman_filter.specs.declared.DetectBox.{DetectBox}
use Rattle.strack.specs.Rules.{same_number, same_box, same_entry}

same_self : (a : Float) → same_number a a ≡ true
unfolding same_number
same_self a = eq-eqb (to_bits binary32 a) (to_bits binary32 a) refl

same-box-self : (z : DetectBox) → same_box z z ≡ true
unfolding same_box
same-box-self z = rw (same_self z.x, same_self z.y, same_self z.s, same_self z.r)

pub same-entry-self : (l : Option DetectBox) → same_entry l l ≡ true
same-entry-self None = refl
same-entry-self (Some z) = same-box-self z
