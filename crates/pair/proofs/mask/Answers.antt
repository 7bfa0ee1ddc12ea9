-- `pair::mask` meets its contract.
use Rattle.pair.specs.Angle.{mask_of}
use Rattle.pair.proofs.mask.Goals as goal

pub returns-then-score : goal.returns-then-score
unfolding mask_of
returns-then-score c = rw c.if-score.true

pub returns : goal.returns
unfolding mask_of
returns c = rw c.if-score.false
