-- `one_track::birth` meets its contract.
use Rattle.one_track.proofs.birth.Goals as goal

pub returns : goal.returns
returns c = rw c.birth.ensures
