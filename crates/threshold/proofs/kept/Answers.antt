-- `threshold::kept` meets its contract.
use Rattle.std.proofs.Common.{not, ◌&&◌, take, pos, rules}
use Rattle.lists.specs.Lists.{pick}
use Rattle.lapjv_walk.specs.Marks.{free, is_free, index, mark_at}
use Rattle.matching.specs.Matching.{kept_where}
use Rattle.matching.specs.Lent.{matrix_of}
use Rattle.std.proofs.Math.Seq.{get_or-take}
use Rattle.threshold.proofs.kept.Goals as goal

pub returns : goal.returns
unfolding kept_where
returns g c = λ p h.
    let marks = take c.args.iou.objects c.args.marks.at in
    c.marks_by.ensures (λ i. pick (not (is_free (mark_at marks i)) && p (matrix_of c.args.iou i (index (mark_at marks i)))) (mark_at marks i) free) (λ i m l e. rw (get_or-take c.args.iou.objects c.args.marks.at i (pos 0) l) (search rules))
