-- `tracks::Tracks::predicted` meets its contract.
use mathlib.Core.Path.{◌≡◌}
use mathlib.Core.List.{map}
use lib.ListN.{take}
use Rattle.lists.specs.Lists.{keep}
use Rattle.frame.specs.Frame.{unbroken, predict_tracked}
use Rattle.tracks.specs.Tracks.{tracks_of}
use Rattle.tracks.proofs.Tracks.predicted.Given as goal

abbrev pub invariant-loop-e : goal.invariant-loop-e
invariant-loop-e l = l.out ≡ tracks_of (keep unbroken (map predict_tracked (take l.e-index l.e-items)))
