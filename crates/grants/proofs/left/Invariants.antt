-- `grants::left` meets its contract.
use mathlib.Core.Path.{◌≡◌}
use mathlib.Core.List.{List}
use Prim.Native.Nat.{◌≤◌}
use lib.ListN.{length}
use Rattle.frame.specs.Objects.{Obj}
use Rattle.objects.specs.Dets.{dets_of}
use Rattle.grants.proofs.Leaving.{left_to}
use Rattle.grants.proofs.left.Given as goal

abbrev pub invariant-loop-i : goal.invariant-loop-i
invariant-loop-i l = (l.out.n ≤ l.i) × ((os : List Obj) → l.dets.n ≡ length os → l.dets.cells ≡ (dets_of os).cells → l.out ≡ dets_of (left_to l.marks os l.i))
