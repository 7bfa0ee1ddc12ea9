-- `pair::area` meets its contract.
use mathlib.Core.Path.{refl}
use Rattle.pair.specs.Overlap.{area_of}
use Rattle.pair.proofs.area.Goals as goal

pub returns : goal.returns
unfolding area_of
returns c = refl
