-- Document 02, 2.8: the order of the rounds before it, and the frames in which the new one may answer otherwise. Definitions only.
use Rattle.std.specs.Prelude.{◌≡◌, T, Float, Option, Some, None}
use mathlib.Core.List.{List, map, Memᴰ}
use Rattle.std.specs.Float.Ieee.{lt}
use Rattle.lists.specs.Lists.{pick}
use Rattle.object.specs.declared.Corners.{Corners}
use Rattle.object.specs.declared.Refusal.{Refusal}
use Rattle.object.specs.declared.Refusal.TheVariants.{UnsoundState}
use Rattle.object.specs.Object.{corners_of}
use Rattle.pair.specs.Overlap.{overlap_of}
use Rattle.frame.specs.declared.Settings.{Settings}
use Rattle.frame.specs.declared.Tracker.{Tracker}
use Rattle.frame.specs.State.{live, state_rules}
use Rattle.frame.specs.Objects.{Obj, objects_of, first_class}
use Rattle.frame.specs.Rounds.{View, Slot, Work, first_round, byte_objects, spare_round, last_round, rounds}
use Rattle.frame.specs.Frame.{Call, Out, refused, early, predicted_tracks, tracked_view, is_full, settled, frame_of}

-- ---- two orders of the rounds

abbrev pub Order : Type 0
Order = Settings → List View → List Obj → Work

-- document 01's: predicted boxes; spares if `use_byte`; last boxes
unfoldable pub rounds_before : Order
rounds_before s vs os =
    let first = first_round s vs (first_class s os) in
    let byte = spare_round s first.slots (byte_objects s os) in
    last_round s byte.slots first.left

-- ---- a frame by an order

abbrev pub accepted_in_order : Order → Tracker → List Float → Out Tracker
accepted_in_order order t input =
    let es = predicted_tracks (live t) in
    let w = order t.settings (map (tracked_view t.settings) es) (objects_of input) in
    settled t es w (is_full es w)

abbrev pub answer_in_order : Order → Tracker → Call → Option Refusal → Out Tracker
answer_in_order order t c (Some r) = record { reply = refused r; next = t }
answer_in_order order t c None = accepted_in_order order t c.input

unfoldable pub frame_in_order : Order → Tracker → Call → Out Tracker
frame_in_order order t c = answer_in_order order t c (pick (state_rules t) (early t.frames c) (Some UnsoundState))

-- ---- overlaps above the threshold

-- one of the objects with one of the tracks that have no grant, by that box of the track's
pub record OverlapAbove (s : Settings) (target : View → Corners) (ss : List Slot) (os : List Obj) : Type 0 where
  pub obj : Obj
  pub slot : Slot
  pub among_objects : Memᴰ obj os
  pub among_tracks : Memᴰ slot ss
  pub ungranted : slot.got ≡ None
  pub above : T (lt s.iou_threshold (overlap_of (corners_of obj.det) (target slot.view)))

-- over all tracks left by the first round: some spare with some predicted box, and some first-class object left with some last box
abbrev pub BothAbove : Tracker → Call → Type 0
BothAbove t c =
    let s = t.settings in
    let os = objects_of c.input in
    let first = first_round s (map (tracked_view s) (predicted_tracks (live t))) (first_class s os) in
    OverlapAbove s (λ (v : View). v.box) first.slots (byte_objects s os) × OverlapAbove s (λ (v : View). v.last) first.slots first.left

-- ---- the claim

-- For every state and every call. An answer is the reply (a refusal, or the reports) and the next state.
pub record OrdersAgree : Type 0 where
  -- the tracker's frame is the one by the new order
  pub the_frame : (t : Tracker) (c : Call) → frame_of t c ≡ frame_in_order rounds t c
  -- answers change only in frames where both rounds hold an overlap above the threshold
  pub same_answer : (t : Tracker) (c : Call) → (BothAbove t c → ⊥) → frame_of t c ≡ frame_in_order rounds_before t c
