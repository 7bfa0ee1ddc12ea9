-- `widening::widen_by_class` meets its contract.
use Rattle.widening.proofs.Given.{by_class}
use Rattle.widening.proofs.widen_by_class.Goals as goal

pub returns : goal.returns
returns c = by_class c.args.x c.widen.result c.widen.ensures
