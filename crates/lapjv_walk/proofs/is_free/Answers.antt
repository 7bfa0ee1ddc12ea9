-- `lapjv_walk::is_free` meets its contract.
use mir.Syntax.{w64}
use mir.ValLaws.{to_z-of_z}
use Rattle.lapjv_walk.proofs.Cells.{free-test}
use Rattle.lapjv_walk.proofs.is_free.Goals as goal

pub returns : goal.returns
returns c = rw (to_z-of_z w64 c.args.m c.ranges.m) (free-test c.args.m)
