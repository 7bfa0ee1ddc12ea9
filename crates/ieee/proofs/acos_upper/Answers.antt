-- `ieee::acos_upper` meets its contract.
use Rattle.ieee.specs.Acos.{acos_upper}
use Rattle.ieee.proofs.acos_upper.Goals as goal

pub returns : goal.returns
unfolding acos_upper
returns c = rw (c.sqrt.ensures.is, c.acos_polynomial.ensures.value)
