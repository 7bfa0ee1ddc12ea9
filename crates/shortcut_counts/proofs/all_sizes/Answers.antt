-- `shortcut_counts::all_sizes` meets its contract.
use Rattle.shortcut_counts.proofs.Shares.{all-sizes}
use Rattle.shortcut_counts.proofs.all_sizes.Goals as goal

pub returns : goal.returns
returns c = all-sizes
