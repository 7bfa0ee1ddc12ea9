-- `tracks::Tracks::aged` meets its contract.
use mathlib.Core.Path.{◌≡◌}
use mathlib.Core.List.{map}
use lib.ListN.{take}
use Rattle.lists.specs.Lists.{keep}
use Rattle.frame.specs.Frame.{is_young}
use Rattle.tracks.specs.Tracks.{tracks_of}
use Rattle.tracks.proofs.Tracks.aged.Given as goal

abbrev pub invariant-loop-e : goal.invariant-loop-e
invariant-loop-e l = l.out ≡ tracks_of (keep (is_young l.s) (map (λ e. e) (take l.e-index l.e-items)))
