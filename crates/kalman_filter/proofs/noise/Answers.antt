-- `kalman_filter::noise` meets its contract.
use Rattle.kalman_filter.specs.Filter.{r_matrix, diagonal}
use lib.Ieee.{of_bits}
use Rattle.kalman_filter.proofs.noise.Goals as goal

pub returns : goal.returns
unfolding r_matrix diagonal of_bits
returns c = cc
