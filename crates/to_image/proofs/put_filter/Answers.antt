-- `to_image::put_filter` meets its contract.
use native.Mathlib.Omega.{arith}
use Rattle.to_image.proofs.Sets.{sets-next}
use Rattle.to_image.proofs.Putting.{x-long}
use Rattle.to_image.proofs.put_filter.Goals as goal

pub returns : goal.returns
returns c = sets-next _ c.put_numbers.new.floats _ _ _ c.args.f.x c.args.f.p c.put_numbers.ensures (omega (arith, x-long c.args.f _ c.well_formed.1.1.0)) c.put_numbers-2.ensures
