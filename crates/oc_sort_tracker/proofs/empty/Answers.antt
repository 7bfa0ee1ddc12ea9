-- `oc_sort_tracker::empty` meets its contract.
use Rattle.frame.specs.State.{state_of, empty_tracker}
use Rattle.tracks.specs.Tracks.{tracks_of}
use Rattle.oc_sort_tracker.proofs.empty.Goals as goal

pub returns : goal.returns
unfolding empty_tracker state_of tracks_of
returns c = rw c.none-none.ensures
