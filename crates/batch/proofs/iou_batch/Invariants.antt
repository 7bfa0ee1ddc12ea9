-- `batch::iou_batch` meets its contract.
use Rattle.std.proofs.Common.{◌≡◌, ◌++◌, ◌*◌, ◌/◌, ◌%◌, drop}
use Rattle.lists.specs.Lists.{tab}
use Rattle.matching.specs.Associate.{overlaps}
use Rattle.matching.specs.Lent.{det_of, box_of}
use Rattle.batch.proofs.iou_batch.Given as goal

abbrev pub invariant-loop-i : goal.invariant-loop-i
invariant-loop-i l = l.out ≡ tab (λ q. overlaps (det_of l.dets) (box_of l.boxes) (q / l.boxes.n) (q % l.boxes.n)) (l.i * l.boxes.n) ++ drop (l.i * l.boxes.n) l.initial.out
