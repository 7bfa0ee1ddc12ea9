-- `ieee::is_nan` meets its contract.
use Rattle.ieee.proofs.Nans.{ne-self}
use Rattle.ieee.proofs.is_nan.Goals as goal

pub returns : goal.returns
returns c = ne-self c.args.x
