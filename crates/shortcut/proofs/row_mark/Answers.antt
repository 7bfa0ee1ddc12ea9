-- `shortcut::row_mark` meets its contract.
use Rattle.std.proofs.Common.{true, false, sym, ◌∙◌}
use mir.Syntax.{w64}
use mir.ValLaws.{to_z-of_z}
use Rattle.matching.specs.Matching.{above_of}
use Rattle.matching.specs.Lent.{matrix_of}
use Rattle.matching.proofs.Loops.{passing-turn}
use Rattle.shortcut.proofs.row_mark.Goals as goal
use Rattle.shortcut.proofs.row_mark.Goals.{then-thr-at, else-thr-at}

pub loop-j-preserved : goal.loop-j-preserved
unfolding above_of
loop-j-preserved c =
    elim c.if-thr-at.branch [
      | then-thr-at w ↦ passing-turn (above_of c.args.thr (matrix_of c.args.iou) c.args.i) c.loop-j.j _ _ true c.loop-j.invariant (rw c.at.ensures at (sym w.if-thr-at.true)) (w.mark-is ∙ to_z-of_z w64 w.mark-mark.result (record { sfits = w.mark-mark.type_inv }) ∙ w.mark-mark.ensures)
      | else-thr-at w ↦ passing-turn (above_of c.args.thr (matrix_of c.args.iou) c.args.i) c.loop-j.j _ _ false c.loop-j.invariant (rw c.at.ensures at (sym w.if-thr-at.false)) w.mark-is
    ]
