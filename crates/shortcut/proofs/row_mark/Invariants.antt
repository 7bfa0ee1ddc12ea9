-- `shortcut::row_mark` meets its contract.
use Rattle.std.proofs.Common.{◌≡◌}
use Rattle.matching.specs.Matching.{above_of, passing}
use Rattle.matching.specs.Lent.{matrix_of}
use Rattle.shortcut.proofs.row_mark.Given as goal

abbrev pub invariant-loop-j : goal.invariant-loop-j
invariant-loop-j l = l.mark ≡ passing (above_of l.thr (matrix_of l.iou) l.i) l.j
