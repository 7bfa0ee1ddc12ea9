-- `strack::convert_x_to_bbox` meets its contract.
use Rattle.strack.specs.Boxes.{box_of}
use Rattle.strack.proofs.convert_x_to_bbox.Goals as goal

pub returns : goal.returns
unfolding box_of
returns c = rw c.sqrt-w.ensures.is
