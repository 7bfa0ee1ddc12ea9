-- `lapjv_ca::augment` meets its contract.
use mathlib.Core.Path.{◌≡◌}
use Prim.Native.Nat.{◌<◌}
use lib.ListN.{length}
use Rattle.lapjv_walk.specs.Lapjv.{augment, hop, hop_more}
use Rattle.lapjv_walk.specs.Holds.{Ranged}
use Rattle.lapjv_ca.proofs.Budget.{Leads, turns_left}
use Rattle.lapjv_ca.proofs.augment.Given as goal

abbrev pub invariant-loop-i : goal.invariant-loop-i
invariant-loop-i l = (l.j < l.n) × Ranged l.n l.x × (length l.y ≡ l.n) × Leads (hop_more l.start) (hop l.pred) l.n (augment l.n l.pred l.start l.last l.initial.x l.initial.y) (record { row = l.i; j = l.j; x = l.x; y = l.y })

abbrev pub decreases-loop-i : goal.decreases-loop-i
decreases-loop-i l = turns_left (hop_more l.start) (hop l.pred) l.n (record { row = l.i; j = l.j; x = l.x; y = l.y })
