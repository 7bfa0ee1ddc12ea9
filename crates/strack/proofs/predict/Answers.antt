-- `strack::predict` meets its contract.
use Rattle.strack.specs.Track.{track_predict}
use Rattle.strack.proofs.predict.Goals as goal

pub returns : goal.returns
unfolding track_predict
returns c = cc
