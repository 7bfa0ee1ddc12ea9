-- `inverse::is_unusable` meets its contract.
use Rattle.inverse.specs.Inverse.{unusable}
use Rattle.inverse.proofs.is_unusable.Goals as goal

pub returns-then-p : goal.returns-then-p
unfolding unusable
returns-then-p c = rw c.if-p.true

pub returns-else-p : goal.returns-else-p
unfolding unusable
returns-else-p c = rw c.if-p.false
