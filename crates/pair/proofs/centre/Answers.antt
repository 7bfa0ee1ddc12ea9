-- `pair::centre` meets its contract.
use mathlib.Core.Path.{refl}
use Rattle.pair.specs.Angle.{centre_of}
use Rattle.pair.proofs.centre.Goals as goal

pub returns : goal.returns
unfolding centre_of
returns c = refl
