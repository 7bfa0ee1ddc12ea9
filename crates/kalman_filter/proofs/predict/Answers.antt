-- `kalman_filter::predict` meets its contract.
use mathlib.Core.Path.{sym}
use Rattle.matrix.specs.Matrix.{transpose}
use Rattle.kalman_filter.specs.Filter.{f_matrix, q_matrix}
use Rattle.kalman_filter.proofs.Steps.{predict-is}
use Rattle.kalman_filter.proofs.predict.Goals as goal

pub returns : goal.returns
unfolding f_matrix q_matrix transpose
returns c = rw (c.sum.ensures, c.product-3.ensures, c.product-2.ensures, c.product.ensures) (sym (predict-is c.args.f))
