-- `strack::speed_direction` meets its contract.
use Rattle.strack.specs.Boxes.{direction_of}
use Rattle.strack.proofs.speed_direction.Goals as goal

pub returns : goal.returns
unfolding direction_of
returns c = rw c.sqrt-norm.ensures.is
