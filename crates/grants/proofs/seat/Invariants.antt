-- `grants::seat` meets its contract.
use mathlib.Core.Path.{◌≡◌}
use mathlib.Core.List.{map}
use lib.ListN.{take}
use Rattle.lists.specs.Lists.{tab}
use Rattle.matching.specs.Associate.{det_at}
use Rattle.frame.specs.Rounds.{place_of}
use Rattle.grants.specs.Grants.{seated}
use Rattle.grants.proofs.seat.Given as goal

abbrev pub invariant-loop-i : goal.invariant-loop-i
invariant-loop-i l = l.out ≡ seated (take l.i (map (place_of l.places.at) l.marks)) (tab (det_at l.dets.cells) l.i) l.initial.out
