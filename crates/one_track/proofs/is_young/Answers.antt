-- `one_track::is_young` meets its contract.
use mathlib.Core.Path.{refl}
use Rattle.one_track.proofs.is_young.Goals as goal

pub returns : goal.returns
returns c = refl
