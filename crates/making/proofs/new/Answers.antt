-- `making::new` meets its contract.
use mathlib.Core.Path.{ap}
use Rattle.making.specs.Making.{fresh_of}
use Rattle.making.proofs.Begins.{begins-as}
use Rattle.making.proofs.new.Goals as goal

pub returns : goal.returns
returns c = begins-as _ _ _ _ _ (ap fresh_of c.new-made.ensures.made) c.begin.ensures
