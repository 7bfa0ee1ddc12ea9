-- `kalman_filter::update` meets its contract.
use mathlib.Core.Path.{sym}
use Rattle.kalman_filter.specs.Filter.{h_matrix}
use Rattle.kalman_filter.proofs.Steps.{update-is}
use Rattle.kalman_filter.proofs.update.Goals as goal

pub returns : goal.returns
unfolding h_matrix
returns c = rw (c.joseph-p.ensures, c.sum.ensures, c.product-2.ensures, c.gain-k.ensures, c.difference.ensures, c.product.ensures) (sym (update-is c.args.z c.args.f))
