-- `own_rules::is_same_box` meets its contract.
use Rattle.strack.specs.Rules.{same_box}
use Rattle.own_rules.proofs.is_same_box.Goals as goal

pub returns : goal.returns
unfolding same_box
returns c = rw (c.is_same-4.ensures, c.is_same-3.ensures, c.is_same-2.ensures, c.is_same.ensures)
