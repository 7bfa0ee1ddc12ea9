-- `batch::speed_direction_batch` meets its contract.
use Rattle.std.proofs.Common.{◌≡◌, ◌++◌, ◌*◌, ◌/◌, ◌%◌, drop}
use Rattle.std.specs.Float.{binary32}
use Rattle.std.specs.Float.Ieee.{add}
use Rattle.lists.specs.Lists.{tab}
use Rattle.matching.specs.Associate.{angle_term}
use Rattle.matching.specs.Lent.{det_of, step_of, matrix_of}
use Rattle.batch.proofs.speed_direction_batch.Given as goal

abbrev pub invariant-loop-i : goal.invariant-loop-i
invariant-loop-i l =
    l.out ≡ tab (λ q. add binary32 (matrix_of l.iou (q / l.iou.tracks) (q % l.iou.tracks)) (angle_term l.inertia (det_of l.dets (q / l.iou.tracks)) (step_of l.tracks (q % l.iou.tracks)) (det_of l.tracks.previous (q % l.iou.tracks)))) (l.i * l.iou.tracks) ++ drop (l.i * l.iou.tracks) l.initial.out
