-- `strack::oldest_box` meets its contract.
use mathlib.Core.Path.{◌≡◌}
use Rattle.strack.specs.Track.{oldest_of}
use Rattle.strack.proofs.oldest_box.Given as goal

abbrev pub invariant-loop-dt : goal.invariant-loop-dt
invariant-loop-dt l = oldest_of l.delta_t l.kept ≡ oldest_of l.dt l.kept
