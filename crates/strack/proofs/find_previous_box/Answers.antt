-- `strack::find_previous_box` meets its contract.
use Rattle.strack.specs.Track.{previous_of}
use Rattle.strack.proofs.find_previous_box.Goals as goal

pub returns : goal.returns
unfolding previous_of
returns c = rw (c.or.ensures, c.oldest_box.ensures)
