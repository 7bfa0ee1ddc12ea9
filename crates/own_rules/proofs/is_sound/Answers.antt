-- `own_rules::is_sound` meets its contract.
use Rattle.strack.specs.Rules.{own_rules}
use Rattle.own_rules.proofs.is_sound.Goals as goal

pub returns : goal.returns
unfolding own_rules
returns c = rw (c.is_entry.ensures, c.is_some.ensures, c.is_some-seen.ensures)
