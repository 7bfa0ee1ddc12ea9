-- `strack::get_state` meets its contract.
use borrow.Author.Rules.{rules}
use Rattle.strack.specs.Track.{state_box}
use Rattle.strack.proofs.get_state.Goals as goal

pub returns : goal.returns
unfolding state_box
returns c = search rules
