-- `image::is_meant` meets its contract.
use mathlib.Core.Path.{◌≡◌}
use mathlib.Core.Bool.{◌&&◌}
use Prim.Native.Nat.{◌≤◌}
use lib.ListN.{get_or}
use Rattle.lists.specs.Lists.{every, tab}
use Rattle.image.specs.Image.{tagged, meant_track, cell_at}
use Rattle.image.proofs.is_meant.Given as goal

abbrev pub invariant-loop-k : goal.invariant-loop-k
invariant-loop-k l = (l.k ≤ l.count) × (l.ok ≡ (tagged (get_or l.i.words 3 0) && every meant_track (tab (cell_at l.i) l.k)))
