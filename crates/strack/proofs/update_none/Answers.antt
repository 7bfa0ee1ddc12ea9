-- `strack::update_none` meets its contract.
use Rattle.strack.proofs.Laws.{miss-is}
use Rattle.strack.proofs.update_none.Goals as goal

pub returns : goal.returns
returns c = miss-is c.args.t _ _ _ c.saved_after.ensures c.is_some.ensures c.shifted.ensures
