-- `pair::term` meets its contract.
use mathlib.Core.Path.{refl}
use Rattle.pair.specs.Angle.{term_of}
use Rattle.pair.proofs.term.Goals as goal

pub returns : goal.returns
unfolding term_of
returns c = refl
