-- `strack::filter_after` meets its contract.
use Rattle.strack.proofs.filter_after.Goals as goal

pub returns-then-t : goal.returns-then-t
returns-then-t c = rw c.if-t.true c.regain.ensures

pub returns : goal.returns
returns c = rw c.if-t.false c.update.ensures
