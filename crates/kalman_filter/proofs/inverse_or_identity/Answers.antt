-- `kalman_filter::inverse_or_identity` meets its contract.
use borrow.Author.Rules.{rules}
use Rattle.inverse.specs.Inverse.{identity}
use Rattle.kalman_filter.specs.Filter.{inverse_or_identity}
use Rattle.kalman_filter.proofs.inverse_or_identity.Goals as goal

pub returns : goal.returns
unfolding inverse_or_identity identity
returns c = search rules
