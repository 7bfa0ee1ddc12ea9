-- `pair::cosine` meets its contract.
use Rattle.pair.specs.Angle.{cosine_of, unit_of}
use Rattle.pair.proofs.cosine.Goals as goal

pub returns : goal.returns
unfolding cosine_of unit_of
returns c = rw c.sqrt-norm.ensures.is
