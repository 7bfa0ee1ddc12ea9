-- `roots::whole_root` meets its contract. The invariant: lo's square is within a and hi's is above it; the measure is hi - lo.
use Prim.Native.Nat.{◌-◌, ◌*◌, ◌^◌, ◌≤◌, ◌<◌}
use Rattle.roots.proofs.whole_root.Given as goal

abbrev pub invariant-loop-hi : goal.invariant-loop-hi
invariant-loop-hi l = (l.lo < l.hi) × (l.hi ≤ 2 ^ 24) × (l.lo * l.lo ≤ l.a) × (l.a < l.hi * l.hi)

abbrev pub decreases-loop-hi : goal.decreases-loop-hi
decreases-loop-hi l = l.hi - l.lo
