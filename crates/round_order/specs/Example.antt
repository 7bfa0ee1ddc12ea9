-- Document 02, 2.8: a frame in which both rounds hold an overlap above the threshold, and the orders answer otherwise. Definitions only.
use Rattle.std.specs.Prelude.{◌≡◌, true, List, [], ◌∷◌, ◌++◌, ℕ, Float}
use Rattle.ieee.specs.Ops.{f32}
use Rattle.frame.specs.declared.Settings.{Settings}
use Rattle.frame.specs.declared.Tracker.{Tracker}
use Rattle.frame.specs.State.{empty_tracker}
use Rattle.frame.specs.Frame.{Call, Report, reports, frame_of}
use Rattle.round_order.specs.Order.{rounds_before, frame_in_order, BothAbove}

-- 0, 16, 32, 64, and the scores 0.9 and 0.25
abbrev x0 : Float
x0 = f32 0

abbrev pub x16 : Float
x16 = f32 0x4180_0000

abbrev x32 : Float
x32 = f32 0x4200_0000

abbrev pub x64 : Float
x64 = f32 0x4280_0000

abbrev sure : Float
sure = f32 0x3f66_6666

abbrev unsure : Float
unsure = f32 0x3e80_0000

-- det_thresh 0.5, spares let in, the other settings as `new` has them
abbrev with_spares : Settings
with_spares = record { det_thresh = f32 0x3f00_0000; iou_threshold = f32 0x3e99_999a; inertia = f32 0x3e4c_cccd; max_age = 30; min_hits = 3; delta_t = 3; use_byte = true }

-- an object of 64 by 64 at the upper edge, by its x and its score
abbrev animal : Float → Float → List Float
animal x score = x ∷ x0 ∷ x64 ∷ x64 ∷ score ∷ []

abbrev call_on : List Float → Call
call_on input = record { input = input; boxes = 256; ids = 64 }

abbrev pub report : Float → ℕ → Report
report x id = record { rect = record { x = x; y = x0; width = x64; height = x64 }; id = id }

-- an animal that went from 0 to 32 in two frames: its last box is at 32, and its predicted box near 64
abbrev pub moving : Tracker
moving = (frame_of (frame_of (empty_tracker with_spares) (call_on (animal x0 sure))).next (call_on (animal x32 sure))).next

-- then a first-class object at 16, by its last box, and a spare at 64, by its predicted box
abbrev pub contested : Call
contested = call_on (animal x16 sure ++ animal x64 unsure)

pub record OrdersDiffer : Type 0 where
  pub both : BothAbove moving contested
  -- the first-class object wins the track
  pub last_boxes_first : (frame_of moving contested).reply ≡ reports (report x16 1 ∷ [])
  -- the spare won it, and the first-class object was born
  pub spares_first : (frame_in_order rounds_before moving contested).reply ≡ reports (report x16 2 ∷ report x64 1 ∷ [])
  pub differ : frame_of moving contested ≡ frame_in_order rounds_before moving contested → ⊥
