-- `kalman_filter::gain` meets its contract.
use mathlib.Core.Path.{sym}
use Rattle.matrix.specs.Matrix.{transpose}
use Rattle.kalman_filter.specs.Filter.{h_matrix, r_matrix}
use Rattle.kalman_filter.proofs.Steps.{gain-is}
use Rattle.kalman_filter.proofs.gain.Goals as goal

pub returns : goal.returns
unfolding h_matrix r_matrix transpose
returns c = rw (c.product-3.ensures, c.inverse_or_identity-inverse.ensures, c.sum.ensures, c.product-2.ensures, c.product.ensures) (sym (gain-is c.args.f))
