-- `tracks::Tracks::born` meets its contract.
use mathlib.Core.Path.{◌≡◌}
use mathlib.Core.List.{◌++◌}
use Rattle.lists.specs.Lists.{tab}
use Rattle.matching.specs.Associate.{det_at}
use Rattle.tracks.specs.Tracks.{tracks_of, tracks_in, born_of}
use Rattle.tracks.proofs.Tracks.born.Given as goal

abbrev pub invariant-loop-i : goal.invariant-loop-i
invariant-loop-i l = l.self ≡ tracks_of (tracks_in l.initial.self ++ born_of l.issued (tab (det_at l.cells) l.i))
