-- `strack::convert_bbox_to_z` meets its contract.
use borrow.Author.Rules.{rules}
use Rattle.strack.specs.Boxes.{measure_of}
use Rattle.strack.proofs.convert_bbox_to_z.Goals as goal

pub returns : goal.returns
unfolding measure_of
returns c = search rules
