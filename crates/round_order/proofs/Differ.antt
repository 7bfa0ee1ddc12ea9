-- The example, by computing both frames. Assumes nothing.
use mathlib.Core.Path.{◌≡◌, refl, ap}
use mathlib.Core.List.{List, [], ◌∷◌, map, Memᴰ}
use Prim.Native.Nat.{ℕ, zero, suc, ◌<◌}
use native.Mathlib.Nat.{not-suc-le-zero, le_of_suc-le-suc}
use native.Mathlib.Omega.{arith}
use lib.Ieee.{of_bits, to_bits, is_nan}
use lib.ListN.{length, get_or}
use Rattle.lapjv_walk.specs.Carr.{carr_seat, carr_more, two_step, two, carr_pick, carr_step, carr_runs, carr_dence}
use Rattle.lapjv_walk.specs.Ccrt.{assign_step, assign_from, assign, reduce_step, reduce_row, reduce_columns, other_step, other_min, collect_step, collect, ccrt_dense}
use Rattle.lapjv_walk.specs.Lapjv.{hop_more, hop, augment, ca_step, ca_dense, two_passes, lapjv}
use Rattle.lapjv_walk.specs.Loops.{turns, walk, runs}
use Rattle.lapjv_walk.specs.Path.{last_free, scan_more, search_more, find_step, find_dense, scan_hit, raise_step, raise, scan_col, scan_step, scan_row, scan_turn, scan_all, scan_dense, to_scan, search_turn, search_from, search_path, find_path_dense}
use Rattle.pair.specs.Overlap.{area_of, side_of, inter_of, share_of, overlap_of}
use Rattle.pair.specs.Angle.{centre_of, unit_of, step_to, angle_of, cosine_of, mask_of, term_of}
use Rattle.matching.specs.Matching as Matching
use Rattle.matching.specs.Matching.{above_of, shortcut, costs_of, assigned, kept_where, match_or_lapjv, matched, rematched, some_above}
use Rattle.matching.specs.Associate.{angle_term, combined, associate, reassociate}
use Rattle.kalman_filter.specs.Filter.{start_of, predict_of, update_of}
use Rattle.strack.specs.Boxes.{measure_of, box_of, middle, direction_of}
use Rattle.strack.specs.Track.{no_filter, birth_of, area_held, track_predict, state_box, oldest_of, previous_of, k_previous_of, heading_of, track_box, freezes, track_miss}
use Rattle.strack.specs.Rules.{same_number, same_box, own_rules}
use Rattle.object.specs.Object.{xyxy_of, rect_of}
use Rattle.frame.specs.State.{live, unit_range, in_range, blank, state_of, empty_tracker, track_rules, state_rules}
use Rattle.frame.specs.Objects.{detection_at, object_at, objects_of, first_class, first_score, spare_score}
use Rattle.frame.specs.Rounds.{Work, no_slot, slot_at, first_round, later_round, rounds}
use Rattle.frame.specs.Frame.{Report, Reply, reports, early, has_nan, predicted_tracks, view_of, tracked_view, report_of, is_reported, frame_of}
use Rattle.frame.specs.Contract.{reports_in}
use Rattle.round_order.specs.Order.{rounds_before, frame_in_order}
use Rattle.round_order.specs.Example.{x16, x64, report, moving, contested, OrdersDiffer}

mem-at : {A : Type 0} (l : List A) (i : ℕ) (d : A) → i < length l → Memᴰ (get_or l i d) l
mem-at [] i d h = absurd (not-suc-le-zero h)
mem-at (a ∷ l) zero d h = mathlib.Core.List.Memᴰ.head refl
mem-at (a ∷ l) (suc i) d h = mathlib.Core.List.Memᴰ.tail (mem-at l i d (le_of_suc-le-suc h))

one-two : (a b c : Report) → reports (a ∷ []) ≡ reports (b ∷ c ∷ []) → ⊥
one-two a b c e = let n : ◌≡◌ {A = ℕ} 1 2 = ap (λ (r : Reply). length (reports_in r)) e in omega (arith, n)

pub orders-differ : OrdersDiffer
unfolding of_bits to_bits is_nan carr_seat carr_more two_step two carr_pick carr_step carr_runs carr_dence assign_step assign_from assign reduce_step reduce_row reduce_columns other_step other_min collect_step collect ccrt_dense hop_more hop augment ca_step ca_dense two_passes lapjv turns walk runs last_free scan_more search_more find_step find_dense scan_hit raise_step raise scan_col scan_step scan_row scan_turn scan_all scan_dense to_scan search_turn search_from search_path find_path_dense area_of side_of inter_of share_of overlap_of centre_of unit_of step_to angle_of cosine_of mask_of term_of above_of shortcut costs_of assigned kept_where match_or_lapjv matched rematched some_above Matching.later_round angle_term combined associate reassociate start_of predict_of update_of measure_of box_of middle direction_of no_filter birth_of area_held track_predict state_box oldest_of previous_of k_previous_of heading_of track_box freezes track_miss same_number same_box own_rules unit_range in_range blank state_of empty_tracker track_rules state_rules xyxy_of detection_at objects_of first_score spare_score first_round later_round rounds rounds_before early has_nan predicted_tracks view_of report_of is_reported frame_of frame_in_order rect_of
orders-differ =
    let first : Work = first_round moving.settings (map (tracked_view moving.settings) (predicted_tracks (live moving))) (first_class moving.settings (objects_of contested.input)) in
    let n : length first.slots ≡ 1 = refl in
    let t : Memᴰ (slot_at first.slots 0) first.slots = mem-at first.slots 0 no_slot (omega (arith, n)) in record {
      both = (
        record { obj = object_at contested.input 1; slot = slot_at first.slots 0; among_objects = mathlib.Core.List.Memᴰ.head refl; among_tracks = t; ungranted = refl; above = tt },
        record { obj = object_at contested.input 0; slot = slot_at first.slots 0; among_objects = mathlib.Core.List.Memᴰ.head refl; among_tracks = t; ungranted = refl; above = tt },
      );
      last_boxes_first = refl;
      spares_first = refl;
      differ = λ e. one-two (report x16 1) (report x16 2) (report x64 1) (ap (λ o. o.reply) e);
    }
