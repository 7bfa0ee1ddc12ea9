-- `shortcut_counts::each_pattern_once` meets its contract.
use Rattle.shortcut_counts.proofs.Numbered.{each-once}
use Rattle.shortcut_counts.proofs.each_pattern_once.Goals as goal

pub returns : goal.returns
returns c = each-once
