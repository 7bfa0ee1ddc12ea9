-- `grants::push_place` meets its contract.
use Rattle.grants.specs.Grants.{pushed_place}
use Rattle.grants.proofs.push_place.Goals as goal

pub returns-then-passes : goal.returns-then-passes
unfolding pushed_place
returns-then-passes c = rw c.if-passes.true

pub returns : goal.returns
returns c = rw c.if-passes.false
