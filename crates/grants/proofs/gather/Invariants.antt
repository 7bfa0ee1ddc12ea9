-- `grants::gather` meets its contract.
use mathlib.Core.Path.{◌≡◌}
use mathlib.Core.List.{map}
use lib.ListN.{take}
use Rattle.matching.specs.Associate.{corners_at}
use Rattle.grants.specs.Grants.{boxes_of}
use Rattle.grants.proofs.gather.Given as goal

abbrev pub invariant-loop-i : goal.invariant-loop-i
invariant-loop-i l = l.out ≡ boxes_of (map (corners_at l.boxes) (take l.i l.places.at))
