-- `shortcut::is_shortcut` meets its contract.
use Rattle.std.proofs.Common.{arith}
use Rattle.matching.specs.Matching.{above_of, count_of, fullest, shortcut}
use Rattle.matching.specs.Lent.{matrix_of}
use Rattle.matching.proofs.Loops.{both, not-both}
use Rattle.shortcut.proofs.is_shortcut.Goals as goal

pub returns-then-fullest_row-eq1 : goal.returns-then-fullest_row-eq1
unfolding shortcut
returns-then-fullest_row-eq1 c =
    let iou = c.args.iou in
    both (fullest (λ i. count_of (λ j. above_of c.args.thr (matrix_of iou) i j) iou.tracks) iou.objects) (fullest (λ j. count_of (λ i. above_of c.args.thr (matrix_of iou) i j) iou.objects) iou.tracks) c.fullest_row.result c.fullest_column.result
    c.fullest_row.ensures c.fullest_column.ensures (omega arith)

pub returns-else-fullest_row-eq1 : goal.returns-else-fullest_row-eq1
unfolding shortcut
returns-else-fullest_row-eq1 c =
    let iou = c.args.iou in
    not-both (fullest (λ i. count_of (λ j. above_of c.args.thr (matrix_of iou) i j) iou.tracks) iou.objects) (fullest (λ j. count_of (λ i. above_of c.args.thr (matrix_of iou) i j) iou.objects) iou.tracks) c.fullest_row.result
    c.fullest_row.ensures (λ e. omega arith)
