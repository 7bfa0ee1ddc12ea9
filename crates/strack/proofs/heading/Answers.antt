-- `strack::heading` meets its contract.
use Rattle.strack.specs.Track.{heading_of}
use Rattle.strack.proofs.heading.Goals as goal

pub returns : goal.returns
unfolding heading_of
returns c = rw (c.heading_from.ensures, c.k_previous_obs.ensures)
