-- `objects::is_first` meets its contract.
use mathlib.Core.Path.{refl}
use Rattle.frame.specs.Objects.{first_score}
use Rattle.objects.proofs.is_first.Goals as goal

pub returns : goal.returns
unfolding first_score
returns c = refl
