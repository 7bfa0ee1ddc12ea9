-- Document 01, item 3: the angle term of an object and a track. Definitions only.
use Rattle.std.specs.Prelude.{cond, Float}
use Rattle.std.specs.Float.{binary32}
use Rattle.std.specs.Float.Ieee.{add, sub, mul, div, lt}
use Rattle.ieee.specs.Ops.{f32, π, half_π, clamp_of, abs_of}
use Rattle.ieee.specs.Sqrt.{sqrt_of}
use Rattle.ieee.specs.Acos.{acos_of}
use Rattle.object.specs.declared.Corners.{Corners}

-- dy and dx
pub record Step : Type 0 where
  pub dy : Float
  pub dx : Float

-- the middle between two corners
unfoldable pub centre_of : Float → Float → Float
unfolding add div
centre_of a b = div binary32 (add binary32 a b) (f32 0x4000_0000)

-- a step over its length plus 1e-6
unfoldable pub unit_of : Float → Float → Step
unfolding add mul div sqrt_of
unit_of dx dy =
    let norm = add binary32 (sqrt_of (add binary32 (mul binary32 dx dx) (mul binary32 dy dy))) (f32 0x3586_37bd) in
    record { dy = div binary32 dy norm; dx = div binary32 dx norm }

-- speed_direction_batch: from the track's previous box to the object
unfoldable pub step_to : Corners → Corners → Step
unfolding sub centre_of unit_of
step_to d t = unit_of (sub binary32 (centre_of d.x1 d.x2) (centre_of t.x1 t.x2)) (sub binary32 (centre_of d.y1 d.y2) (centre_of t.y1 t.y2))

-- half pi less the angle of a cosine, as a part of pi; the cosine is first brought to -1 .. 1
unfoldable pub angle_of : Float → Float
unfolding sub div clamp_of acos_of abs_of
angle_of c = div binary32 (sub binary32 half_π (abs_of (acos_of (clamp_of c (f32 0xbf80_0000) (f32 0x3f80_0000))))) π

-- the cosine between a track's direction and the step to the object
unfoldable pub cosine_of : Step → Step → Float
unfolding add mul
cosine_of v s = add binary32 (mul binary32 v.dx s.dx) (mul binary32 v.dy s.dy)

-- a previous score below 0 masks the angle
unfoldable pub mask_of : Float → Float
unfolding lt
mask_of score = cond (lt score (f32 0)) (f32 0) (f32 0x3f80_0000)

-- mask, angle, inertia, score, multiplied left to right
unfoldable pub term_of : Float → Float → Float → Float → Float
unfolding mul
term_of mask angle inertia score = mul binary32 (mul binary32 (mul binary32 mask angle) inertia) score
