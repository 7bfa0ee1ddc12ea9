-- `assoc::match_or_lapjv` meets its contract.
use Rattle.std.proofs.Common.{true, false}
use Rattle.assoc.proofs.Rounds.{match_none, match_by}
use Rattle.assoc.proofs.match_or_lapjv.Goals as goal

pub returns-then-iou-eq0 : goal.returns-then-iou-eq0
returns-then-iou-eq0 c = match_none c.args.iou.objects c.args.iou.tracks c.args.thr _ _ _ c.if-iou-eq0.true c.args.iou.few_objects c.unmarked.ensures

pub returns-then-is_shortcut : goal.returns-then-is_shortcut
returns-then-is_shortcut c = match_by c.args.iou.objects c.args.iou.tracks c.args.thr _ _ _ true c.is_shortcut.result c.if-iou-eq0.false c.is_shortcut.ensures c.if-is_shortcut.true c.shortcut_marks.ensures

pub returns-then-iou-le256 : goal.returns-then-iou-le256
returns-then-iou-le256 c = match_by c.args.iou.objects c.args.iou.tracks c.args.thr _ _ _ false c.is_shortcut.result c.if-iou-eq0.false c.is_shortcut.ensures c.if-is_shortcut.false c.assigned_combined.ensures

pub returns-else-iou-le256 : goal.returns-else-iou-le256
returns-else-iou-le256 c = match_by c.args.iou.objects c.args.iou.tracks c.args.thr _ _ _ false c.is_shortcut.result c.if-iou-eq0.false c.is_shortcut.ensures c.if-is_shortcut.false c.assigned_combined-else-iou-le256.ensures
