-- `from_image::thaw` meets its contract.
use mathlib.Core.Path.{◌≡◌}
use mathlib.Core.List.{◌++◌}
use lib.ListN.{drop}
use Rattle.lists.specs.Lists.{tab}
use Rattle.image.specs.Image.{thaw_track, cell_at}
use Rattle.from_image.proofs.thaw.Given as goal

abbrev pub invariant-loop-k : goal.invariant-loop-k
invariant-loop-k l = (l.table ≡ tab (λ j. thaw_track (cell_at l.i j)) l.k ++ drop l.k l.initial.table)
