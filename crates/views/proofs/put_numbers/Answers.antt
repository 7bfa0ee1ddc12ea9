-- `views::put_numbers` meets its contract.
use native.Mathlib.Omega.{arith}
use Rattle.views.proofs.Seeing.{mid-sets}
use Rattle.views.proofs.put_numbers.Goals as goal

pub returns : goal.returns
returns c = rw c.copy_from_slice.ensures.after (mid-sets c.args.cells.now c.args.at _ c.args.numbers.now (omega arith) (omega arith))
