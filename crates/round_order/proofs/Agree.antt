-- Both orders give the same slots and leave the same objects, unless both rounds hold an overlap above the threshold: one that holds none changes nothing,
-- first or last. Assumes nothing.
use Rattle.std.specs.Prelude.{Option, Some, None}
use mathlib.Core.Path.{◌≡◌, refl, sym, ap, ◌∙◌}
use mathlib.Core.List.{List, map}
use mathlib.Core.Logic.{◌⊎◌, inl, inr}
use Rattle.lists.specs.Lists.{pick, All}
use Rattle.object.specs.declared.Corners.{Corners}
use Rattle.object.specs.declared.Refusal.{Refusal}
use Rattle.object.specs.declared.Refusal.TheVariants.{UnsoundState}
use Rattle.frame.specs.declared.Settings.{Settings}
use Rattle.frame.specs.declared.Tracker.{Tracker}
use Rattle.frame.specs.State.{live, state_rules}
use Rattle.frame.specs.Objects.{Obj, objects_of, first_class}
use Rattle.frame.specs.Rounds.{View, Work, first_round, later_marks, later_round, byte_objects, spare_round, last_round, rounds}
use Rattle.frame.specs.Frame.{Call, early, predicted_tracks, tracked_view, is_full, settled, frame_at, frame_of}
use Rattle.round_order.specs.Order.{rounds_before, answer_in_order, frame_in_order, OverlapAbove, BothAbove, OrdersAgree}
use Rattle.round_order.proofs.Quiet.{NoneAbove, seat-none-above, quiet, look}

-- ---- the rounds

module _ (s : Settings) (vs : List View) (os : List Obj) where
  abbrev first : Work
  first = first_round s vs (first_class s os)

  abbrev by_box : View → Corners
  by_box v = v.box

  abbrev by_last : View → Corners
  by_last v = v.last

  -- no spare does: neither before the round on last boxes nor after it
  spares-quiet : All (NoneAbove s by_box (byte_objects s os)) first.slots → rounds s vs os ≡ rounds_before s vs os
  unfolding rounds rounds_before later_round
  spares-quiet c =
      let last : Work = last_round s first.slots first.left in
      let after : spare_round s last.slots (byte_objects s os) ≡ record { slots = last.slots; left = byte_objects s os }
      = quiet s by_box last.slots (byte_objects s os) (seat-none-above s by_box (byte_objects s os) 2 (later_marks by_last s first.slots first.left) first.left first.slots c) 1 in
      let before : spare_round s first.slots (byte_objects s os) ≡ record { slots = first.slots; left = byte_objects s os } = quiet s by_box first.slots (byte_objects s os) c 1 in
      (λ i. record { slots = (after i).slots; left = last.left }) ∙ sym (λ i. last_round s (before i).slots first.left)

  -- no first-class object does
  lasts-quiet : All (NoneAbove s by_last first.left) first.slots → rounds s vs os ≡ rounds_before s vs os
  unfolding rounds rounds_before later_round
  lasts-quiet c =
      let byte : Work = spare_round s first.slots (byte_objects s os) in
      let after : last_round s byte.slots first.left ≡ record { slots = byte.slots; left = first.left }
      = quiet s by_last byte.slots first.left (seat-none-above s by_last first.left 1 (later_marks by_box s first.slots (byte_objects s os)) (byte_objects s os) first.slots c) 2 in
      let before : last_round s first.slots first.left ≡ record { slots = first.slots; left = first.left } = quiet s by_last first.slots first.left c 2 in
      (λ i. record { slots = (spare_round s (before i).slots (byte_objects s os)).slots; left = (before i).left }) ∙ sym after

  pub same-rounds : (OverlapAbove s by_box first.slots (byte_objects s os) × OverlapAbove s by_last first.slots first.left → ⊥) → rounds s vs os ≡ rounds_before s vs os
  same-rounds h = go (look s by_box first.slots (byte_objects s os)) (look s by_last first.slots first.left)
    where
      go : All (NoneAbove s by_box (byte_objects s os)) first.slots ⊎ OverlapAbove s by_box first.slots (byte_objects s os) → All (NoneAbove s by_last first.left) first.slots ⊎ OverlapAbove s by_last first.slots first.left
          → rounds s vs os ≡ rounds_before s vs os
      go (inl c) l = spares-quiet c
      go (inr a) (inl c) = lasts-quiet c
      go (inr a) (inr b) = absurd (h (a, b))

-- ---- the frame

the-frame-at : (t : Tracker) (c : Call) (e : Option Refusal) → frame_at t c e ≡ answer_in_order rounds t c e
the-frame-at t c (Some r) = refl
the-frame-at t c None = refl

same_at : (t : Tracker) (c : Call) → (BothAbove t c → ⊥) → (e : Option Refusal) → answer_in_order rounds t c e ≡ answer_in_order rounds_before t c e
same_at t c h (Some r) = refl
same_at t c h None =
    let es = predicted_tracks (live t) in
    ap (λ (w : Work). settled t es w (is_full es w)) (same-rounds t.settings (map (tracked_view t.settings) es) (objects_of c.input) h)

pub orders-agree : OrdersAgree
unfolding frame_of frame_in_order
orders-agree = record {
  the_frame = λ t c. the-frame-at t c (pick (state_rules t) (early t.frames c) (Some UnsoundState));
  same_answer = λ t c h.
      let e : Option Refusal = pick (state_rules t) (early t.frames c) (Some UnsoundState) in
      the-frame-at t c e ∙ same_at t c h e;
}
