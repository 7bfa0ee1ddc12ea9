-- Document 01, item 5: a box measured and converted back, and the direction from one box to another. Definitions only.
use Rattle.std.specs.Prelude.{Float}
use Rattle.std.specs.Float.{binary32}
use Rattle.std.specs.Float.Ieee.{add, sub, mul, div, of_bits}
use Rattle.ieee.specs.Ops.{f32}
use Rattle.ieee.specs.Sqrt.{sqrt_of}
use Rattle.kalman_filter.specs.declared.DetectBox.{DetectBox}
use Rattle.object.specs.declared.Corners.{Corners}
use Rattle.strack.specs.declared.Direction.{Direction}

-- 2 and 1e-6
abbrev two : Float
two = f32 0x4000_0000

abbrev millionth : Float
millionth = f32 0x3586_37bd

-- convert_bbox_to_z: centre, area, and width over height plus 1e-6
unfoldable pub measure_of : Corners → DetectBox
unfolding add sub mul div of_bits
measure_of b =
    let w = sub binary32 b.x2 b.x1 in
    let h = sub binary32 b.y2 b.y1 in
    record {
      x = add binary32 b.x1 (div binary32 w two);
      y = add binary32 b.y1 (div binary32 h two);
      s = mul binary32 w h;
      r = div binary32 w (add binary32 h millionth);
    }

-- convert_x_to_bbox: the width is the root of s times r, the height s over the width
unfoldable pub box_of : Float → Float → Float → Float → Corners
unfolding add sub mul div of_bits sqrt_of
box_of x y s r =
    let w = sqrt_of (mul binary32 s r) in
    let h = div binary32 s w in
    record {
      x1 = sub binary32 x (div binary32 w two);
      y1 = sub binary32 y (div binary32 h two);
      x2 = add binary32 x (div binary32 w two);
      y2 = add binary32 y (div binary32 h two);
    }

-- the middle between two corners
unfoldable pub middle : Float → Float → Float
unfolding add div of_bits
middle a b = div binary32 (add binary32 a b) two

-- speed_direction: the step from centre to centre, each part over the step's length plus 1e-6
unfoldable pub direction_of : Corners → Corners → Direction
unfolding add sub mul div of_bits sqrt_of middle
direction_of a b =
    let dy = sub binary32 (middle b.y1 b.y2) (middle a.y1 a.y2) in
    let dx = sub binary32 (middle b.x1 b.x2) (middle a.x1 a.x2) in
    let norm = add binary32 (sqrt_of (add binary32 (mul binary32 dy dy) (mul binary32 dx dx))) millionth in
    record { dy = div binary32 dy norm; dx = div binary32 dx norm }
