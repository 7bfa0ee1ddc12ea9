-- The settings that `new` gives. Definitions only.
use Rattle.std.specs.Prelude.{false, Float}
use Rattle.ieee.specs.Ops.{f32}
use Rattle.frame.specs.declared.Settings.{Settings}

-- the Rust's: iou_threshold 0.3, inertia 0.2, max_age 30, min_hits 3, delta_t 3, no spare round
unfoldable pub defaults : Float → Settings
defaults thresh = record {
  det_thresh = thresh;
  iou_threshold = f32 0x3e99_999a;
  inertia = f32 0x3e4c_cccd;
  max_age = 30;
  min_hits = 3;
  delta_t = 3;
  use_byte = false;
}
