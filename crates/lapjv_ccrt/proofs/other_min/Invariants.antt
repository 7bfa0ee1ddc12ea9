-- `lapjv_ccrt::other_min` meets its contract.
use mathlib.Core.Path.{◌≡◌}
use Rattle.lapjv_walk.specs.Ccrt.{other_step}
use Rattle.lapjv_walk.specs.Loops.{walk}
use Rattle.costs.specs.OpsOn.{ops}
use Rattle.lapjv_ccrt.proofs.other_min.Given as goal

abbrev pub invariant-loop-k : goal.invariant-loop-k
invariant-loop-k g l = l.min ≡ walk (other_step (ops g.C.Cost.on) l.n l.cost l.i l.j l.v) 0 l.k g.C.Cost.on.large
