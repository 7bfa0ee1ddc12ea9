-- Document 01, item 1: a rectangle and its corners. Definitions only.
use Rattle.std.specs.Prelude.{List, [], ◌∷◌, Float}
use Rattle.std.specs.Float.{binary32}
use Rattle.std.specs.Float.Ieee.{add, sub}
use Rattle.object.specs.declared.Rect.{Rect}
use Rattle.object.specs.declared.Corners.{Corners}
use Rattle.object.specs.declared.Detection.{Detection}

-- x1, y1, x2, y2 of a rectangle: its left upper corner, and that plus width and height
unfoldable pub xyxy_of : Rect → List Float
unfolding add
xyxy_of r = r.x ∷ r.y ∷ add binary32 r.x r.width ∷ add binary32 r.y r.height ∷ []

-- the rectangle of four corners: width and height are differences
unfoldable pub rect_of : Float → Float → Float → Float → Rect
unfolding sub
rect_of x1 y1 x2 y2 = record { x = x1; y = y1; width = sub binary32 x2 x1; height = sub binary32 y2 y1 }

abbrev pub corners_of : Detection → Corners
corners_of d = record { x1 = d.x1; y1 = d.y1; x2 = d.x2; y2 = d.y2 }
