-- What the rounds see of the tracks, as the code keeps it: each kind of number one after another, and NaN past them. Definitions only.
use Rattle.std.specs.Prelude.{List, [], ◌∷◌, Float, length}
use Rattle.matching.specs.Associate.{four_of}
use Rattle.pair.specs.Angle.{Step}
use Rattle.frame.specs.Rounds.{View}
use Rattle.lists.specs.Lists.{flat}
use Rattle.objects.specs.Cells.{padded}
use Rattle.objects.specs.Dets.{five_of}
use Rattle.views.specs.declared.Views.{Views}

abbrev pub two_of : Step → List Float
two_of v = v.dy ∷ v.dx ∷ []

unfoldable pub views_of : List View → Views
views_of vs = record {
  n = length vs;
  boxes = padded 256 (flat (λ (v : View). four_of v.box) vs);
  directions = padded 128 (flat (λ (v : View). two_of v.direction) vs);
  lasts = padded 256 (flat (λ (v : View). four_of v.last) vs);
  previous = padded 320 (flat (λ (v : View). five_of v.previous) vs);
}
