-- `kalman_filter::joseph` meets its contract.
use mathlib.Core.Path.{sym}
use Rattle.inverse.specs.Inverse.{identity}
use Rattle.kalman_filter.specs.Filter.{h_matrix}
use Rattle.kalman_filter.proofs.Steps.{joseph-is}
use Rattle.kalman_filter.proofs.joseph.Goals as goal

pub returns : goal.returns
unfolding h_matrix identity
returns c = rw (c.sum.ensures, c.noise-krk.ensures, c.product-3.ensures, c.transpose.ensures, c.product-2.ensures, c.difference.ensures, c.product.ensures) (sym (joseph-is c.args.k c.args.p))
