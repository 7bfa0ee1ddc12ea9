-- `strack::birth` meets its contract.
use Rattle.strack.specs.Track.{birth_of}
use Rattle.strack.proofs.birth.Goals as goal

pub returns : goal.returns
unfolding birth_of
returns c = cc
