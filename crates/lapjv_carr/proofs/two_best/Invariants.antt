-- `lapjv_carr::two_best` meets its contract.
use mathlib.Core.Path.{◌≡◌}
use Prim.Native.Nat.{◌<◌}
use Rattle.lapjv_walk.specs.Carr.{two_step}
use Rattle.lapjv_walk.specs.Loops.{walk}
use Rattle.lapjv_walk.specs.Marks.{mark_of}
use Rattle.costs.specs.OpsOn.{ops}
use Rattle.lapjv_carr.proofs.two_best.Given as goal

abbrev pub invariant-loop-j : goal.invariant-loop-j
invariant-loop-j g l = (l.j1 < l.n) × (record { j1 = l.j1; j2 = mark_of l.j2; v1 = l.v1; v2 = l.v2 } ≡ walk (two_step (ops g.C.Cost.on) l.n l.cost l.i l.v) 1 l.j (record { j1 = l.initial.j1; j2 = mark_of l.initial.j2; v1 = l.initial.v1; v2 = l.initial.v2 }))
