-- `shortcut::fullest_row` meets its contract.
use Rattle.std.proofs.Common.{rules}
use Rattle.matching.specs.Matching.{above_of, count_of}
use Rattle.matching.specs.Lent.{matrix_of}
use Rattle.shortcut.proofs.fullest_row.Goals as goal

pub returns : goal.returns
returns c = c.largest.ensures (λ i. count_of (above_of c.args.thr (matrix_of c.args.iou) i) c.args.iou.tracks) (λ i k h e. search rules)
