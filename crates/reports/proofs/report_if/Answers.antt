-- `reports::report_if` meets its contract.
use mathlib.Core.Path.{refl}
use Rattle.reports.proofs.report_if.Goals as goal

pub returns-then-reported : goal.returns-then-reported
returns-then-reported c = rw c.if-reported.true (refl, c.report.ensures)

pub returns : goal.returns
returns c = rw c.if-reported.false (refl, (refl, refl))
