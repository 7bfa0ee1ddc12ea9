-- `to_image::put_numbers` meets its contract.
use native.Mathlib.Omega.{arith}
use Rattle.to_image.proofs.Sets.{mid-sets}
use Rattle.to_image.proofs.put_numbers.Goals as goal

pub returns : goal.returns
returns c = rw c.copy_from_slice.ensures.after (mid-sets c.args.floats.now c.args.at _ c.args.numbers.now (omega arith) (omega (arith, c.told-floats)))
