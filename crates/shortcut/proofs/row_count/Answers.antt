-- `shortcut::row_count` meets its contract.
use Rattle.std.proofs.Common.{rules}
use Rattle.matching.specs.Matching.{above_of}
use Rattle.matching.specs.Lent.{matrix_of}
use Rattle.shortcut.proofs.row_count.Goals as goal

pub returns : goal.returns
unfolding above_of
returns c = c.count.ensures (above_of c.args.thr (matrix_of c.args.iou) c.args.i) (λ j b h e. search rules)
