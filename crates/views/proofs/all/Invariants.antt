-- `views::all` meets its contract.
use mathlib.Core.Path.{◌≡◌}
use Rattle.frame.specs.Rounds.{View}
use Rattle.frame.specs.Frame.{tracked_view}
use Rattle.lists.specs.Lists.{flat}
use Rattle.objects.specs.Cells.{padded}
use Rattle.objects.specs.Dets.{five_of}
use Rattle.matching.specs.Associate.{four_of}
use Rattle.views.specs.Views.{two_of}
use Rattle.views.proofs.Seeing.{seen}
use Rattle.views.proofs.all.Given as goal

abbrev pub invariant-loop-j : goal.invariant-loop-j
invariant-loop-j l =
    (l.boxes ≡ padded 256 (flat (λ (v : View). four_of v.box) (seen (tracked_view l.s) l.table l.j)))
    × (l.directions ≡ padded 128 (flat (λ (v : View). two_of v.direction) (seen (tracked_view l.s) l.table l.j)))
    × (l.lasts ≡ padded 256 (flat (λ (v : View). four_of v.last) (seen (tracked_view l.s) l.table l.j)))
    × (l.previous ≡ padded 320 (flat (λ (v : View). five_of v.previous) (seen (tracked_view l.s) l.table l.j)))
