-- Document 01, item 3: the overlap of two boxes (intersection over union), as `iou_batch` has each entry. Definitions only.
use Rattle.std.specs.Prelude.{cond, Float}
use Rattle.std.specs.Float.{binary32}
use Rattle.std.specs.Float.Ieee.{add, sub, mul, div, lt}
use Rattle.ieee.specs.Ops.{f32, max_of, min_of}
use Rattle.object.specs.declared.Corners.{Corners}

unfoldable pub area_of : Corners → Float
unfolding sub mul
area_of a = mul binary32 (sub binary32 a.x2 a.x1) (sub binary32 a.y2 a.y1)

-- the common part's length on one axis, 0 where there is none
unfoldable pub side_of : Float → Float → Float → Float → Float
unfolding sub max_of min_of
side_of a1 a2 b1 b2 = max_of (sub binary32 (min_of a2 b2) (max_of a1 b1)) (f32 0)

unfoldable pub inter_of : Corners → Corners → Float
unfolding mul side_of
inter_of d t = mul binary32 (side_of d.x1 d.x2 t.x1 t.x2) (side_of d.y1 d.y2 t.y1 t.y2)

-- the common part over the union; 0 where the union isn't above 0
unfoldable pub share_of : Float → Float → Float
unfolding div lt
share_of inter union = cond (lt (f32 0) union) (div binary32 inter union) (f32 0)

unfoldable pub overlap_of : Corners → Corners → Float
unfolding add sub area_of inter_of share_of
overlap_of d t = share_of (inter_of d t) (sub binary32 (add binary32 (area_of d) (area_of t)) (inter_of d t))
