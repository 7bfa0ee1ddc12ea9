-- `one_track::is_unbroken` meets its contract.
use Rattle.one_track.proofs.is_unbroken.Goals as goal

pub returns : goal.returns
returns c = rw (c.has_nan.ensures, c.get_state.ensures)
