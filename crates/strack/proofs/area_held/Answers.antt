-- `strack::area_held` meets its contract.
use Rattle.strack.specs.Track.{area_held}
use Rattle.strack.proofs.area_held.Goals as goal

pub returns-then-x : goal.returns-then-x
unfolding area_held
returns-then-x c = rw c.if-x.true

pub returns : goal.returns
unfolding area_held
returns c = rw c.if-x.false
