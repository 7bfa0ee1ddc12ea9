-- `assoc::associate_in` meets its contract.
use Rattle.assoc.proofs.Matching.{match-paired}
use Rattle.assoc.proofs.Rounds.{below-padded, associated}
use Rattle.assoc.proofs.associate_in.Goals as goal

pub kept_unless_below-requires : goal.kept_unless_below-requires
kept_unless_below-requires g c = below-padded c.args.dets.n c.args.boxes.n _ _ (match-paired c.args.dets.n c.args.boxes.n c.args.thr _ _) c.match_or_lapjv-marks.ensures

pub returns : goal.returns
returns g c = associated c.args.thr c.args.inertia c.args.dets.n c.args.boxes.n _ _ _ _ _ _ _ _ c.iou_batch.ensures c.match_or_lapjv-marks.ensures c.kept_unless_below.ensures
