-- `widening::class_of` meets its contract.
use native.Mathlib.Omega.{arith}
use lib.Ieee.{binary32}
use Rattle.widening.specs.declared.Class.TheVariants.{Zero, Subnormal, Normal, Infinity, NaN}
use Rattle.widening.proofs.Classes.{one_class}
use Rattle.widening.proofs.class_of.Goals as goal

pub returns-then-e-lt255 : goal.returns-then-e-lt255
returns-then-e-lt255 c = one_class binary32 _ Normal (omega arith, omega arith)

pub returns-then-t-eq0 : goal.returns-then-t-eq0
returns-then-t-eq0 c = one_class binary32 _ Infinity (omega arith, omega arith)

pub returns-then-e-gt0 : goal.returns-then-e-gt0
returns-then-e-gt0 c = one_class binary32 _ NaN (omega arith, omega arith)

pub returns-then-t-eq0-2 : goal.returns-then-t-eq0-2
returns-then-t-eq0-2 c = one_class binary32 _ Zero (omega arith, omega arith)

pub returns-else-t-eq0-2 : goal.returns-else-t-eq0-2
returns-else-t-eq0-2 c = one_class binary32 _ Subnormal (omega arith, omega arith)
