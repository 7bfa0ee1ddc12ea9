-- `lapjv_path::raise_prices` meets its contract.
use mathlib.Core.Path.{◌≡◌}
use Rattle.lapjv_walk.specs.Loops.{walk}
use Rattle.lapjv_walk.specs.Path.{raise_step}
use Rattle.costs.specs.OpsOn.{ops}
use Rattle.lapjv_path.proofs.raise_prices.Given as goal

abbrev pub invariant-loop-k : goal.invariant-loop-k
invariant-loop-k g l = l.v ≡ walk (raise_step (ops g.C.Cost.on) l.mind l.d l.cols) 0 l.k l.initial.v
