-- Every marked case, by computing both sides. Assumes nothing.
use mathlib.Core.Path.{refl}
use lib.Ieee.{of_bits, is_nan}
use Rattle.lapjv_walk.specs.Carr.{carr_seat, carr_more, two_step, two, carr_pick, carr_step, carr_runs, carr_dence}
use Rattle.lapjv_walk.specs.Ccrt.{assign_step, assign_from, assign, reduce_step, reduce_row, reduce_columns, other_step, other_min, collect_step, collect, ccrt_dense}
use Rattle.lapjv_walk.specs.Lapjv.{hop_more, hop, augment, ca_step, ca_dense, two_passes, lapjv}
use Rattle.lapjv_walk.specs.Loops.{turns, walk, runs, turns_sum, walk_sum, runs_sum}
use Rattle.lapjv_walk.specs.Path.{last_free, scan_more, search_more, find_step, find_dense, scan_hit, raise_step, raise, scan_col, scan_step, scan_row, scan_turn, scan_all, scan_dense, to_scan, search_turn, search_from, search_path, find_path_dense}
use Rattle.lapjv_walk.specs.Reads.{alone_reads, collect_reads, ccrt_reads, carr_reads, try_reads, scan_row_reads, scan_turn_reads, scan_reads, search_turn_reads, search_reads, find_path_reads, ca_reads, lapjv_reads}
use Rattle.pair.specs.Overlap.{area_of, side_of, inter_of, share_of, overlap_of}
use Rattle.pair.specs.Angle.{centre_of, unit_of, step_to, angle_of, cosine_of, mask_of, term_of}
use Rattle.matching.specs.Matching as Matching
use Rattle.matching.specs.Matching.{above_of, shortcut, costs_of, assigned, kept_where, match_or_lapjv, matched, rematched, some_above}
use Rattle.matching.specs.Associate.{angle_term, combined, associate, reassociate}
use Rattle.kalman_filter.specs.Filter.{start_of, predict_of}
use Rattle.strack.specs.Boxes.{measure_of, box_of, middle, direction_of}
use Rattle.strack.specs.Track.{no_filter, birth_of, area_held, track_predict, state_box, oldest_of, previous_of, k_previous_of, heading_of, track_box, freezes, track_miss}
use Rattle.strack.specs.Rules.{own_rules}
use Rattle.frame.specs.State.{unit_range, in_range, blank, state_of, empty_tracker, track_rules, state_rules}
use Rattle.frame.specs.Objects.{detection_at, objects_of, first_score, spare_score}
use Rattle.frame.specs.Rounds.{first_round, later_round, rounds}
use Rattle.frame.specs.Frame.{early, has_nan, predicted_tracks, view_of, report_of, is_reported, frame_of}
use Rattle.object.specs.Object.{xyxy_of, rect_of}
use Rattle.cases.specs.Cases.{Each, Cases}

pub settled : Each Cases
unfolding of_bits is_nan carr_seat carr_more two_step two carr_pick carr_step carr_runs carr_dence assign_step assign_from assign reduce_step reduce_row reduce_columns other_step other_min collect_step collect ccrt_dense hop_more hop augment ca_step ca_dense two_passes lapjv turns walk runs turns_sum walk_sum runs_sum alone_reads collect_reads ccrt_reads carr_reads try_reads scan_row_reads scan_turn_reads scan_reads search_turn_reads search_reads find_path_reads ca_reads lapjv_reads last_free scan_more search_more find_step find_dense scan_hit raise_step raise scan_col scan_step scan_row scan_turn scan_all scan_dense to_scan search_turn search_from search_path find_path_dense area_of side_of inter_of share_of overlap_of centre_of unit_of step_to angle_of cosine_of mask_of term_of above_of shortcut costs_of assigned kept_where match_or_lapjv matched rematched some_above Matching.later_round angle_term combined associate reassociate start_of predict_of measure_of box_of middle direction_of no_filter birth_of area_held track_predict state_box oldest_of previous_of k_previous_of heading_of track_box freezes track_miss own_rules unit_range in_range blank state_of empty_tracker track_rules state_rules xyxy_of detection_at objects_of first_score spare_score first_round later_round rounds early has_nan predicted_tracks view_of report_of is_reported frame_of rect_of
settled = (refl, (refl, (refl, (refl, (refl, (refl, (refl, (refl, (refl, (refl, (refl, (refl, (refl, (refl, (refl, (refl, (refl, (refl, (refl, (refl, tt))))))))))))))))))))
