-- `objects::passing` meets its contract.
use mathlib.Core.Path.{◌≡◌}
use mathlib.Core.Bool.{Bool}
use Prim.Native.Nat.{◌≤◌}
use lib.Ieee.{Float}
use Rattle.lists.specs.Lists.{keep, tab}
use Rattle.frame.specs.Objects.{Obj, object_at}
use Rattle.objects.specs.Dets.{dets_of}
use Rattle.objects.proofs.passing.Given as goal

abbrev pub invariant-loop-p : goal.invariant-loop-p
invariant-loop-p g l =
    goal.F-IsAlwaysCallable g l.passes
    × (l.out.n ≤ l.p)
    × ((t : Float → Bool) → ((x : Float) (b : Bool) → goal.F-post g l.passes x b → b ≡ t x) → l.out ≡ dets_of (keep (λ (o : Obj). t o.det.score) (tab (object_at l.input) l.p)))
