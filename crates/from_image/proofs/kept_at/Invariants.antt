-- `from_image::kept_at` meets its contract.
use mathlib.Core.Path.{◌≡◌}
use mathlib.Core.List.{◌++◌}
use Prim.Native.Nat.{◌+◌, ◌*◌}
use lib.ListN.{drop, get_or}
use Rattle.lists.specs.Lists.{tab}
use Rattle.image.specs.Image.{box_at}
use Rattle.from_image.proofs.kept_at.Given as goal

abbrev pub invariant-loop-j : goal.invariant-loop-j
invariant-loop-j l = (l.out ≡ tab (λ i. box_at (get_or l.words (l.w + i) 0) l.floats (l.f + 5 * i)) l.j ++ drop l.j l.initial.out)
