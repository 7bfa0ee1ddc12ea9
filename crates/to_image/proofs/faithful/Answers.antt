-- `to_image::faithful` meets its contract.
use Rattle.frame.proofs.Known.{tracker-long}
use Rattle.to_image.proofs.Back.{faithful}
use Rattle.to_image.proofs.Known.{all-full, all-shaped}
use Rattle.to_image.proofs.faithful.Goals as goal

pub returns : goal.returns
returns c = let t = c.args.t in faithful t (tracker-long t _ c.well_formed.0) (all-full t _ c.well_formed.0) (all-shaped t _ c.well_formed.0)
