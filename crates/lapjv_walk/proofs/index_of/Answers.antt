-- `lapjv_walk::index_of` meets its contract.
use mir.Syntax.{w64}
use mir.ValLaws.{to_z-of_z}
use Rattle.lapjv_walk.proofs.Cells.{index-asks, index_is}
use Rattle.lapjv_walk.proofs.index_of.Goals as goal

pub overflow_cast-result : goal.overflow_cast-result
overflow_cast-result c = rw (to_z-of_z w64 c.args.m c.ranges.m) (index-asks c.args.m c.ranges.m c.requires)

pub returns : goal.returns
returns c = rw (to_z-of_z w64 c.args.m c.ranges.m) (index_is c.args.m c.requires)
