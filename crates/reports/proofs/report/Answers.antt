-- `reports::report` meets its contract.
use borrow.Author.Rules.{rules}
use native.Mathlib.Omega.{arith}
use lib.ListN.{length-set}
use Rattle.reports.specs.Written.{rect_at}
use Rattle.reports.proofs.Writing.{id-fits, report-is}
use Rattle.reports.proofs.report.Goals as goal

pub bounds-boxes-at-2 : goal.bounds-boxes-at-2
bounds-boxes-at-2 c = simp length-set (omega arith)

pub bounds-boxes-at-3 : goal.bounds-boxes-at-3
bounds-boxes-at-3 c = simp length-set (omega arith)

pub bounds-boxes-at-4 : goal.bounds-boxes-at-4
bounds-boxes-at-4 c = simp length-set (omega arith)

pub overflow_add-ids : goal.overflow_add-ids
overflow_add-ids c = let h = id-fits c.args.e c.requires.1.1 in search rules

pub returns : goal.returns
unfolding rect_at
returns c = report-is c.args.e _ c.args.n c.args.boxes.now c.args.ids.now c.rect_of-r.ensures
