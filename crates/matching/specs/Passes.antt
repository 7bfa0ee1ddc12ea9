-- The angle term as the code works it out, pass after pass over the tracks: centres, steps, then `angle_term`'s own parts. Definitions only.
use Rattle.std.specs.Prelude.{◌≡◌, List, ℕ, ◌<◌, Float, get_or}
use Rattle.std.specs.Float.{nan}
use Rattle.object.specs.declared.Detection.{Detection}
use Rattle.pair.specs.Angle.{centre_of}

abbrev pub centre_x : Detection → Float
centre_x d = centre_of d.x1 d.x2

abbrev pub centre_y : Detection → Float
centre_y d = centre_of d.y1 d.y2

-- the first n of two lists are the centres of boxes
abbrev pub Centred : ℕ → (ℕ → Detection) → List Float → List Float → Type 0
Centred n det xs ys = (j : ℕ) → j < n → (get_or xs j nan ≡ centre_x (det j)) × (get_or ys j nan ≡ centre_y (det j))
