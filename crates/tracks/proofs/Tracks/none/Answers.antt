-- `tracks::Tracks::none` meets its contract.
use Rattle.tracks.specs.Tracks.{tracks_of}
use Rattle.tracks.proofs.Tracks.none.Goals as goal

pub returns : goal.returns
unfolding tracks_of
returns c = rw c.blank-blank.ensures
