-- Document 01, items 1 and 6: the objects of a frame, from its raw numbers. Definitions only.
use Rattle.std.specs.Prelude.{Bool, not, ◌&&◌, List, ℕ, ◌+◌, ◌*◌, ◌/◌, Float, length, get_or}
use Rattle.std.specs.Float.{nan}
use Rattle.std.specs.Float.Ieee.{lt}
use Rattle.ieee.specs.Ops.{f32}
use Rattle.lists.specs.Lists.{tab, keep}
use Rattle.object.specs.declared.Detection.{Detection}
use Rattle.object.specs.Object.{xyxy_of}
use Rattle.frame.specs.declared.Settings.{Settings}

-- a detection with its place in the frame
pub record Obj : Type 0 where
  pub place : ℕ
  pub det : Detection

-- "An object in is x, y, width, height, score": cells 5p to 5p + 4 of the input. The tracker takes its rectangle's corners and its score.
unfoldable pub detection_at : List Float → ℕ → Detection
unfolding xyxy_of
detection_at input p =
    let xyxy = xyxy_of (record {
      x = get_or input (5 * p) nan;
      y = get_or input (5 * p + 1) nan;
      width = get_or input (5 * p + 2) nan;
      height = get_or input (5 * p + 3) nan;
    }) in
    record {
      x1 = get_or xyxy 0 nan;
      y1 = get_or xyxy 1 nan;
      x2 = get_or xyxy 2 nan;
      y2 = get_or xyxy 3 nan;
      score = get_or input (5 * p + 4) nan;
    }

abbrev pub object_at : List Float → ℕ → Obj
object_at input p = record { place = p; det = detection_at input p }

unfoldable pub objects_of : List Float → List Obj
objects_of input = tab (object_at input) (length input / 5)

-- score > det_thresh is first-class
unfoldable pub first_score : Settings → Float → Bool
unfolding lt
first_score s score = lt s.det_thresh score

-- else > 0.1 is spare; 0.1 is the nearest f32
unfoldable pub spare_score : Settings → Float → Bool
unfolding lt
spare_score s score = not (first_score s score) && lt (f32 0x3dcc_cccd) score

abbrev pub first_class : Settings → List Obj → List Obj
first_class s os = keep (λ (o : Obj). first_score s o.det.score) os

abbrev pub spares : Settings → List Obj → List Obj
spares s os = keep (λ (o : Obj). spare_score s o.det.score) os
