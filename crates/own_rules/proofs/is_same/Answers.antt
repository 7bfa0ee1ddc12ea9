-- `own_rules::is_same` meets its contract.
use Rattle.strack.specs.Rules.{same_number}
use Rattle.own_rules.proofs.is_same.Goals as goal

pub returns : goal.returns
unfolding same_number
returns c = rw (c.bits_of-2.ensures, c.bits_of.ensures)
