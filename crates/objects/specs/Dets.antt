-- A list of objects as the code keeps it: the corners and scores, one after another, and NaN past them. Definitions only.
use Rattle.std.specs.Prelude.{◌≡◌, Bool, List, [], ◌∷◌, ◌+◌, ◌*◌, Float, length}
use Rattle.std.proofs.lemmas.List.Edits.{sets}
use Rattle.lists.specs.Lists.{tab, keep, flat}
use Rattle.object.specs.declared.Detection.{Detection}
use Rattle.matching.specs.Associate.{det_at}
use Rattle.frame.specs.Objects.{Obj, objects_of}
use Rattle.objects.specs.declared.Dets.{Dets}
use Rattle.objects.specs.Cells.{padded}

abbrev pub five_of : Detection → List Float
five_of d = d.x1 ∷ d.y1 ∷ d.x2 ∷ d.y2 ∷ d.score ∷ []

abbrev pub cells_of : List Obj → List Float
cells_of os = flat (λ (o : Obj). five_of o.det) os

unfoldable pub dets_of : List Obj → Dets
dets_of os = record { n = length os; cells = padded 320 (cells_of os) }

-- the objects whose score passes a test, as its calls answer
abbrev pub Passing : (Float → Bool → Type 0) → List Float → Dets → Type 0
Passing answers input r = (t : Float → Bool) → ((x : Float) (b : Bool) → answers x b → b ≡ t x) → r ≡ dets_of (keep (λ (o : Obj). t o.det.score) (objects_of input))

-- five cells from the first free one on
unfoldable pub pushed : Dets → Detection → Dets
pushed d o = record { n = d.n + 1; cells = sets d.cells (5 * d.n) (five_of o) }

-- the detections, in their order
abbrev pub dets_in : Dets → List Detection
dets_in d = tab (det_at d.cells) d.n
