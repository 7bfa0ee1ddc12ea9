-- `roots::nearest_root` meets its contract.
use native.Mathlib.Omega.{arith}
use Rattle.roots.proofs.Roots.{square-fits, nearest-beside, next-beside}
use Rattle.roots.proofs.nearest_root.Goals as goal

pub overflow_mul-square : goal.overflow_mul-square
overflow_mul-square c = record { fits = square-fits _ (omega arith) }

pub returns-then-a-square : goal.returns-then-a-square
returns-then-a-square c = nearest-beside _ _ c.if-square-a.true c.if-a-square.true

pub returns-then-a-square-2 : goal.returns-then-a-square-2
returns-then-a-square-2 c = next-beside _ _ c.if-a-square.false c.if-a-square-2.true
