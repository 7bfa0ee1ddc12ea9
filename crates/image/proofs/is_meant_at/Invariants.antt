-- `image::is_meant_at` meets its contract.
use mathlib.Core.Path.{◌≡◌}
use mathlib.Core.Bool.{◌&&◌}
use Prim.Native.Nat.{◌+◌, ◌-◌}
use lib.ListN.{get_or}
use Rattle.lists.specs.Lists.{every, tab}
use Rattle.image.specs.Image.{tagged}
use Rattle.image.proofs.is_meant_at.Given as goal

abbrev pub invariant-loop-j : goal.invariant-loop-j
invariant-loop-j l = l.ok ≡ (tagged (get_or l.words l.w 0) && every tagged (tab (λ i. get_or l.words (l.w + 4 + i) 0) (l.j - 4)))
