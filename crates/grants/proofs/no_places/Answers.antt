-- `grants::no_places` meets its contract.
use mathlib.Core.Path.{refl}
use Rattle.grants.specs.Grants.{places_of}
use Rattle.grants.proofs.no_places.Goals as goal

pub returns : goal.returns
unfolding places_of
returns c = refl
