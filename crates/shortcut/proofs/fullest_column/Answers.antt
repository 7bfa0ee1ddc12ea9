-- `shortcut::fullest_column` meets its contract.
use Rattle.std.proofs.Common.{rules}
use Rattle.matching.specs.Matching.{above_of, count_of}
use Rattle.matching.specs.Lent.{matrix_of}
use Rattle.shortcut.proofs.fullest_column.Goals as goal

pub returns : goal.returns
returns c = c.largest.ensures (λ j. count_of (λ i. above_of c.args.thr (matrix_of c.args.iou) i j) c.args.iou.objects) (λ j k h e. search rules)
