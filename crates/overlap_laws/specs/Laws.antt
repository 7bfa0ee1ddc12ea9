-- Document 02, 2.9: the laws of the overlap, of the program's floats. Definitions only.
use Rattle.std.specs.Prelude.{◌≡◌, false, ℕ, T, Float}
use Rattle.std.specs.Float.{binary32}
use Rattle.std.specs.Float.Ieee.{fits, is_nan, le, lt, eq, sub}
use Rattle.ieee.specs.Ops.{f32}
use Rattle.object.specs.declared.Corners.{Corners}
use Rattle.pair.specs.Overlap.{area_of, overlap_of}

-- A box of f32: whatever patterns its corners have, NaNs and infinities too. (`Float` has other numbers besides.)
pub record OfF32 (b : Corners) : Type 0 where
  pub x1 : T (fits binary32 b.x1)
  pub y1 : T (fits binary32 b.y1)
  pub x2 : T (fits binary32 b.x2)
  pub y2 : T (fits binary32 b.y2)

-- a box's two sides, rounded
abbrev pub x_side : Corners → Float
x_side b = sub binary32 b.x2 b.x1

abbrev pub y_side : Corners → Float
y_side b = sub binary32 b.y2 b.y1

-- ---- boxes that show what the laws leave open

-- a box by its corners' patterns
abbrev box32 : ℕ → ℕ → ℕ → ℕ → Corners
box32 x1 y1 x2 y2 = record { x1 = f32 x1; y1 = f32 y1; x2 = f32 x2; y2 = f32 y2 }

-- a box's sides, its area, and its overlap with itself
abbrev Figures : Corners → ℕ → ℕ → ℕ → ℕ → Type 0
Figures b x y area overlap = (x_side b ≡ f32 x) × (y_side b ≡ f32 y) × (area_of b ≡ f32 area) × (overlap_of b b ≡ f32 overlap)

-- ---- the laws

pub record OverlapLaws : Type 0 where
  -- "For any two boxes the overlap is never NaN": of any numbers at all, so who cites it has nothing to show of its boxes
  pub never_nan : (a b : Corners) → is_nan (overlap_of a b) ≡ false
  -- "and lies from 0"
  pub from_0 : (a b : Corners) → T (le (f32 0) (overlap_of a b))
  -- "to 1"
  pub to_1 : (a b : Corners) → OfF32 a → OfF32 b → T (le (overlap_of a b) (f32 0x3f80_0000))
  -- "Exchanging the boxes gives an equal number": equal as IEEE 754 compares, which takes 0 and -0 for equal
  pub exchange : (a b : Corners) → OfF32 a → OfF32 b → T (eq (overlap_of a b) (overlap_of b a))
  -- and both come, of 0,0,-0,1 and -1,0,0,1: of two zeros `min` gives the first, so one order finds -0 as the length in common, the other 0
  pub two_zeros : let a = box32 0 0 0x8000_0000 0x3f80_0000 in let b = box32 0xbf80_0000 0 0 0x3f80_0000 in (overlap_of a b ≡ f32 0x8000_0000) × (overlap_of b a ≡ f32 0)
  -- "A box whose two sides are positive and whose rounded area is from above 0 to 2^126 overlaps itself by exactly 1"
  pub itself : (b : Corners) → T (lt (f32 0) (x_side b)) → T (lt (f32 0) (y_side b)) → T (lt (f32 0) (area_of b)) → T (le (area_of b) (f32 0x7e80_0000)) → overlap_of b b ≡ f32 0x3f80_0000
  -- 2^126 is not where it ends: it holds below 2^127
  pub itself_below : (b : Corners) → T (lt (f32 0) (x_side b)) → T (lt (f32 0) (y_side b)) → T (lt (f32 0) (area_of b)) → T (lt (area_of b) (f32 0x7f00_0000)) → overlap_of b b ≡ f32 0x3f80_0000
  -- Each condition is needed, as a box shows that breaks it.
  -- Positive sides: 1,1,0,0 has two of -1, so its area is 1, but it has nothing in common with itself.
  pub turned : Figures (box32 0x3f80_0000 0x3f80_0000 0 0) 0xbf80_0000 0xbf80_0000 0x3f80_0000 0
  -- A side of 0: of 3,0,3,1 the area is 0 too, and no union is above 0.
  pub flat : Figures (box32 0x4040_0000 0 0x4040_0000 0x3f80_0000) 0 0x3f80_0000 0 0
  -- The area above 0: two sides of 2^-75 are positive, but 2^-150 rounds to 0.
  pub tiny : Figures (box32 0 0 0x1a00_0000 0x1a00_0000) 0x1a00_0000 0x1a00_0000 0 0
  -- The largest area: one just above 2^126 still gives 1;
  pub large : Figures (box32 0 0 0x5f00_0000 0x5f00_0001) 0x5f00_0000 0x5f00_0001 0x7e80_0001 0x3f80_0000
  -- at 2^127 the two areas together are infinite, the union with them, and the overlap is 0.
  pub huge : Figures (box32 0 0 0x5f80_0000 0x5f00_0000) 0x5f80_0000 0x5f00_0000 0x7f00_0000 0
