-- `one_track::predict_one` meets its contract.
use Rattle.one_track.proofs.predict_one.Goals as goal

pub returns : goal.returns
returns c = rw c.predict.ensures
