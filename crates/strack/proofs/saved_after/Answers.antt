-- `strack::saved_after` meets its contract.
use borrow.Author.Rules.{rules}
use Rattle.strack.specs.Track.{freezes}
use Rattle.strack.proofs.Laws.{frozen-keeps}
use Rattle.strack.proofs.saved_after.Goals as goal

pub returns-then-t : goal.returns-then-t
returns-then-t c = frozen-keeps c.args.t c.if-t.true

pub returns-then-is_some : goal.returns-then-is_some
unfolding freezes
returns-then-is_some c = search rules

pub returns : goal.returns
unfolding freezes
returns c = search rules
