-- `shortcut::column_count` meets its contract.
use Rattle.std.proofs.Common.{rules}
use Rattle.matching.specs.Matching.{above_of}
use Rattle.matching.specs.Lent.{matrix_of}
use Rattle.shortcut.proofs.column_count.Goals as goal

pub returns : goal.returns
unfolding above_of
returns c = c.count.ensures (λ i. above_of c.args.thr (matrix_of c.args.iou) i c.args.j) (λ i b h e. search rules)
