-- `object::no_refusal_is_zero` meets its contract.
use Rattle.object.proofs.Numbers.{nonzero}
use Rattle.object.proofs.no_refusal_is_zero.Goals as goal

pub returns : goal.returns
returns c = nonzero
