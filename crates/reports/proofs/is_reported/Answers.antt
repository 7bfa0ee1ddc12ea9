-- `reports::is_reported` meets its contract.
use mathlib.Core.Path.{refl}
use Rattle.frame.specs.Frame.{is_reported}
use Rattle.reports.proofs.is_reported.Goals as goal

pub returns : goal.returns
unfolding is_reported
returns c = refl
