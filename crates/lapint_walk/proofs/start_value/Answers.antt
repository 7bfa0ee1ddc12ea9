-- `lapint_walk::start_value` meets its contract: the walks are worked out.
use mathlib.Core.Path.{refl}
use Rattle.lapjv_walk.specs.Carr.{carr_seat, carr_more, two_step, two, carr_pick, carr_step, carr_runs, carr_dence}
use Rattle.lapjv_walk.specs.Ccrt.{assign_step, assign_from, assign, reduce_step, reduce_row, reduce_columns, other_step, other_min, collect_step, collect, ccrt_dense}
use Rattle.lapjv_walk.specs.Lapjv.{hop_more, hop, augment, ca_step, ca_dense, two_passes, lapjv}
use Rattle.lapjv_walk.specs.Loops.{turns, walk, runs}
use Rattle.lapjv_walk.specs.Path.{last_free, scan_more, search_more, find_step, find_dense, scan_hit, raise_step, raise, scan_col, scan_step, scan_row, scan_turn, scan_all, scan_dense, to_scan, search_turn, search_from, search_path, find_path_dense}
use Rattle.lapint_walk.specs.Example.{StartValue}
use Rattle.lapint_walk.proofs.start_value.Goals as goal

worked-out : StartValue
unfolding carr_seat carr_more two_step two carr_pick carr_step carr_runs carr_dence assign_step assign_from assign reduce_step reduce_row reduce_columns other_step other_min collect_step collect ccrt_dense hop_more hop augment ca_step ca_dense two_passes lapjv turns walk runs last_free scan_more search_more find_step find_dense scan_hit raise_step raise scan_col scan_step scan_row scan_turn scan_all scan_dense to_scan search_turn search_from search_path find_path_dense
worked-out = record { from_f64s = refl; costs_more = refl; from_ours = refl; costs_less = refl }

pub returns : goal.returns
returns c = worked-out
