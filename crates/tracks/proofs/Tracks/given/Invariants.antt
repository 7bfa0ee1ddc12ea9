-- `tracks::Tracks::given` meets its contract.
use mathlib.Core.Path.{◌≡◌}
use lib.ListN.{take}
use Rattle.tracks.specs.Tracks.{tracks_of, given_all}
use Rattle.tracks.proofs.Tracks.given.Given as goal

abbrev pub invariant-loop-i : goal.invariant-loop-i
invariant-loop-i l = l.out ≡ tracks_of (given_all l.delta_t (take l.i l.self.table) l.grants)
