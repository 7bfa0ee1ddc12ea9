-- The line of virtual boxes as the code keeps it: its start, and its change a frame.
use Rattle.std.specs.Prelude.{ℕ, pos, Float}
use Rattle.std.specs.Float.{binary32}
use Rattle.std.specs.Float.Ieee.{add, sub, mul, div, of_int}
use Rattle.gap.specs.Gap.{width_of, height_of}
use Rattle.kalman_filter.specs.declared.DetectBox.{DetectBox}
use Rattle.gap.specs.declared.Line.{Line}

-- from a to b in gap frames
abbrev pub change : ℕ → Float → Float → Float
change gap a b = div binary32 (sub binary32 b a) (of_int binary32 (pos gap))

unfoldable pub line_of : ℕ → DetectBox → DetectBox → Line
line_of gap a b = record {
  x = a.x;
  y = a.y;
  w = width_of a;
  h = height_of a;
  dx = change gap a.x b.x;
  dy = change gap a.y b.y;
  dw = change gap (width_of a) (width_of b);
  dh = change gap (height_of a) (height_of b);
}

abbrev pub onward : ℕ → Float → Float → Float
onward t a d = add binary32 a (mul binary32 (of_int binary32 (pos t)) d)

unfoldable pub box_at : Line → ℕ → DetectBox
box_at l t = let w = onward t l.w l.dw in let h = onward t l.h l.dh in
    record { x = onward t l.x l.dx; y = onward t l.y l.dy; s = mul binary32 w h; r = div binary32 w h }
