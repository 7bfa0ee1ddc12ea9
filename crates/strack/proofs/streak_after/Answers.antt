-- `strack::streak_after` meets its contract.
use Rattle.strack.proofs.Laws.{streak-broken, streak-goes-on}
use Rattle.strack.proofs.streak_after.Goals as goal

pub returns-then-since-gt0 : goal.returns-then-since-gt0
returns-then-since-gt0 c = streak-broken _ _ c.if-since-gt0.true

pub returns-else-since-gt0 : goal.returns-else-since-gt0
returns-else-since-gt0 c = streak-goes-on _ _ c.if-since-gt0.false
