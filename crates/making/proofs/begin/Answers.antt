-- `making::begin` meets its contract.
use Rattle.making.proofs.Begins.{made, kept}
use Rattle.making.proofs.begin.Goals as goal

pub returns-then-number-eq0 : goal.returns-then-number-eq0
returns-then-number-eq0 c = made _ _ c.told-number.ensures _ _ c.if-number-eq0.true c.put.ensures

pub returns-else-number-eq0 : goal.returns-else-number-eq0
returns-else-number-eq0 c = kept _ _ c.told-number.ensures _ c.if-number-eq0.false
