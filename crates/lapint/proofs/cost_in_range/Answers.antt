-- `lapint::cost_in_range` meets its contract.
use mir.Syntax.{w64}
use mir.ValLaws.{to_z-of_z}
use Rattle.lapint.proofs.cost_in_range.Goals as goal

pub returns-then-c-ltminus1000000 : goal.returns-then-c-ltminus1000000
returns-then-c-ltminus1000000 c = let z = to_z-of_z w64 c.args.c c.ranges.c in rw (rw z at c.if-c-ltminus1000000.true)

pub returns : goal.returns
returns c = let z = to_z-of_z w64 c.args.c c.ranges.c in rw (z, rw z at c.if-c-ltminus1000000.false)
