-- `matching::marks_by` meets its contract.
use Rattle.std.proofs.Common.{◌++◌, List, ℤ, ap, ◌∙◌, drop}
use Rattle.lists.specs.Lists.{tab}
use Rattle.lapjv_walk.specs.Marks.{free}
use Rattle.matching.proofs.Loops.{drop-replicate}
use Rattle.matching.proofs.marks_by.Goals as goal

pub returns : goal.returns
returns g c = λ f h. c.fill.ensures f h ∙ ap (λ (l : List ℤ). tab f c.args.n ++ l) (ap (drop c.args.n) c.unmarked-marks.ensures ∙ drop-replicate free 64 c.args.n)
