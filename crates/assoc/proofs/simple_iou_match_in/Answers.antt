-- `assoc::simple_iou_match_in` meets its contract.
use Rattle.assoc.proofs.Matching.{assigned-paired}
use Rattle.assoc.proofs.Rounds.{below-padded, not-started, started}
use Rattle.assoc.proofs.simple_iou_match_in.Goals as goal

pub returns-then-not-some_above : goal.returns-then-not-some_above
returns-then-not-some_above g c = not-started c.args.thr c.args.dets.n c.args.boxes.n _ _ _ _ _ c.some_above.result c.args.dets.few c.iou_batch.ensures c.some_above.ensures c.if-not-some_above.true c.unmarked.ensures

pub kept_at_or_above-requires : goal.kept_at_or_above-requires
kept_at_or_above-requires g c = below-padded c.args.dets.n c.args.boxes.n _ _ (assigned-paired c.args.dets.n c.args.boxes.n _) c.assigned-marks.ensures

pub returns : goal.returns
returns g c = started c.args.thr c.args.dets.n c.args.boxes.n _ _ _ _ _ _ c.some_above.result c.iou_batch.ensures c.some_above.ensures c.if-not-some_above.false c.assigned-marks.ensures c.kept_at_or_above.ensures
