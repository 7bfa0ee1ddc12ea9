-- `one_track::has_nan` meets its contract.
use Rattle.frame.specs.Frame.{has_nan}
use Rattle.one_track.proofs.has_nan.Goals as goal

pub returns : goal.returns
unfolding has_nan
returns c = rw (c.is_nan-4.ensures, c.is_nan-3.ensures, c.is_nan-2.ensures, c.is_nan.ensures)
