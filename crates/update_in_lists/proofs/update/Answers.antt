-- `update_in_lists::update` meets its contract.
use Rattle.update_in_lists.proofs.Hosting.{replied-as}
use Rattle.update_in_lists.proofs.update.Goals as goal

pub returns : goal.returns
returns c = replied-as c.from.ensures c.framed.ensures
