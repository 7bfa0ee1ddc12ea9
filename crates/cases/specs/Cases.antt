-- Document 01, 'Checks at the edges': the cases marked P, one list, with document 02's of costs read. Definitions only.
use Rattle.std.specs.Prelude.{◌≡◌, false, List, [], ◌∷◌, ℕ, pos, Float, Some}
use Rattle.std.specs.Float.{nan, binary64}
use Rattle.std.specs.Float.Ieee.{of_bits}
use Rattle.ieee.specs.Ops.{f32}
use Rattle.object.specs.declared.Corners.{Corners}
use Rattle.lapjv_walk.specs.Ops.{floats}
use Rattle.lapjv_walk.specs.Lapjv.{lapjv}
use Rattle.lapjv_walk.specs.Reads.{lapjv_reads}
use Rattle.pair.specs.Overlap.{overlap_of}
use Rattle.pair.specs.Angle.{angle_of}
use Rattle.strack.specs.declared.Direction.{Direction}
use Rattle.strack.specs.Boxes.{measure_of, box_of, direction_of}
use Rattle.history.specs.Uncut.{Dated, oldest_box}
use Rattle.frame.specs.declared.Settings.{Settings}
use Rattle.frame.specs.declared.Tracker.{Tracker}
use Rattle.frame.specs.State.{empty_tracker}
use Rattle.frame.specs.Frame.{Call, reports, frame_of}

-- a proof of each
abbrev pub Each : List (Type 0) → Type 0
Each [] = Unit {0}
Each (A ∷ As) = A × Each As

-- 0, 1, -1, 0.5, -0.5, 2, 8, 16, 32, 64, 256, 4096, and 1 - 2^-23
abbrev n0 : Float
n0 = f32 0

abbrev n1 : Float
n1 = f32 0x3f80_0000

abbrev m1 : Float
m1 = f32 0xbf80_0000

abbrev half : Float
half = f32 0x3f00_0000

abbrev n2 : Float
n2 = f32 0x4000_0000

abbrev n16 : Float
n16 = f32 0x4180_0000

abbrev n32 : Float
n32 = f32 0x4200_0000

abbrev n64 : Float
n64 = f32 0x4280_0000

abbrev corners : Float → Float → Float → Float → Corners
corners a b c d = record { x1 = a; y1 = b; x2 = c; y2 = d }

abbrev heading : Float → Float → Direction
heading dy dx = record { dy = dy; dx = dx }

-- some box, told apart by its score
abbrev dated : ℕ → Float → Dated
dated a score = record { age = a; box = record { x1 = n0; y1 = n0; x2 = n1; y2 = n1; score = score } }

-- det_thresh 0.5, the other settings as `new` has them: 0.3, 0.2, 30, 3, 3, no spares
abbrev usual : Settings
usual = record { det_thresh = half; iou_threshold = f32 0x3e99_999a; inertia = f32 0x3e4c_cccd; max_age = 30; min_hits = 3; delta_t = 3; use_byte = false }

-- a frame with one object of score 0.9
abbrev frame : Float → Float → Call
frame width height = record { input = n0 ∷ n0 ∷ width ∷ height ∷ f32 0x3f66_6666 ∷ []; boxes = 256; ids = 64 }

abbrev nothing : Call
nothing = record { input = []; boxes = 256; ids = 64 }

-- after a first frame with an object of no width
abbrev thin : Tracker
thin = (frame_of (empty_tracker usual) (frame n0 n64)).next

abbrev pub Cases : List (Type 0)
Cases =
    -- overlap of 0,0,2,2 with 0,0,2,1; with the placeholder
    (overlap_of (corners n0 n0 n2 n2) (corners n0 n0 n2 n1) ≡ half)
    ∷ (overlap_of (corners n0 n0 n2 n2) (corners m1 m1 m1 m1) ≡ n0)
    -- corners 0,0,64,64 measure as 32,32,4096,1 and convert back exactly
    ∷ (measure_of (corners n0 n0 n64 n64) ≡ record { x = n32; y = n32; s = f32 0x4580_0000; r = n1 })
    ∷ (box_of n32 n32 (f32 0x4580_0000) n1 ≡ corners n0 n0 n64 n64)
    -- height 32 swallows the 1e-6; height 16 doesn't
    ∷ ((measure_of (corners n0 n0 n32 n32)).r ≡ n1)
    ∷ ((measure_of (corners n0 n0 n16 n16)).r ≡ f32 0x3f7f_fffe)
    -- direction from centre 0,0 to 0,64: dy 1, dx 0; unmoved: 0, 0
    ∷ (direction_of (corners m1 m1 n1 n1) (corners m1 (f32 0x427c_0000) n1 (f32 0x4282_0000)) ≡ heading n1 n0)
    ∷ (direction_of (corners m1 m1 n1 n1) (corners m1 m1 n1 n1) ≡ heading n0 n0)
    -- acos term: cosine 1 gives 0.5, -1 gives -0.5
    ∷ (angle_of n1 ≡ half)
    ∷ (angle_of m1 ≡ f32 0xbf00_0000)
    -- delta_t 3, age 5: boxes at ages 1 and 4 give age 4's; at 2 and 4, age 2's
    ∷ (oldest_box (dated 4 n2 ∷ dated 1 n1 ∷ []) 5 3 ≡ Some (dated 4 n2).box)
    ∷ (oldest_box (dated 4 n2 ∷ dated 2 n1 ∷ []) 5 3 ≡ Some (dated 2 n1).box)
    -- costs 1,2 / 2,1: rows take columns 0, 1; one NaN cost: column 0
    ∷ (let a = of_bits binary64 0x3ff0_0000_0000_0000 in let b = of_bits binary64 0x4000_0000_0000_0000 in (lapjv floats 2 (a ∷ b ∷ b ∷ a ∷ [])).x ≡ pos 0 ∷ pos 1 ∷ [])
    ∷ ((lapjv floats 1 (nan ∷ [])).x ≡ pos 0 ∷ [])
    -- 2.12: costs 1,2 / 2,1 read 6
    ∷ (let a = of_bits binary64 0x3ff0_0000_0000_0000 in let b = of_bits binary64 0x4000_0000_0000_0000 in lapjv_reads floats 2 (a ∷ b ∷ b ∷ a ∷ []) ≡ 6)
    -- first frame 0,0,64,64: the same rectangle, id 1
    ∷ ((frame_of (empty_tracker usual) (frame n64 n64)).reply ≡ reports (record { rect = record { x = n0; y = n0; width = n64; height = n64 }; id = 1 } ∷ []))
    -- first frame 0,0,0,64: x 0, width 0, y and height NaN, id 1
    ∷ ((frame_of (empty_tracker usual) (frame n0 n64)).reply ≡ reports (record { rect = record { x = n0; y = nan; width = n0; height = nan }; id = 1 } ∷ []))
    -- the next frame breaks it and id 1 is spent
    ∷ ((frame_of thin nothing).reply ≡ reports [])
    ∷ ((frame_of thin nothing).next.count ≡ 0)
    ∷ ((frame_of thin nothing).next.issued ≡ 1)
    ∷ []
