-- `one_track::blank` meets its contract.
use Rattle.frame.specs.State.{blank}
use Rattle.one_track.proofs.blank.Goals as goal

pub returns : goal.returns
unfolding blank
returns c = rw c.no_filter-none.ensures
