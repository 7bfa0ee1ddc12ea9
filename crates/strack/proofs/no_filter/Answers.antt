-- `strack::no_filter` meets its contract.
use borrow.Author.Rules.{rules}
use Rattle.strack.specs.Track.{no_filter}
use Rattle.strack.proofs.no_filter.Goals as goal

pub returns : goal.returns
unfolding no_filter
returns c = search rules
