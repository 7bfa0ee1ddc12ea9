-- `kalman_filter::new` meets its contract.
use borrow.Author.Rules.{rules}
use Rattle.kalman_filter.specs.Filter.{start_of, diagonal}
use lib.Ieee.{of_bits}
use Rattle.kalman_filter.proofs.new.Goals as goal

pub returns : goal.returns
unfolding start_of diagonal of_bits
returns c = search rules
