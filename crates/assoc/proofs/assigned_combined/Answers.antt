-- `assoc::assigned_combined` meets its contract.
use Rattle.std.proofs.Common.{◌++◌, ◌-◌, List, ℤ, replicate, ap, ◌∙◌}
use Rattle.lapjv_walk.specs.Marks.{free}
use Rattle.assoc.proofs.Rounds.{assigned-cells}
use Rattle.assoc.proofs.assigned_combined.Goals as goal

pub returns : goal.returns
returns g c =
    let iou = c.args.iou in
    c.assigned.ensures ∙ ap (λ (l : List ℤ). l ++ replicate (64 - iou.objects) free) (assigned-cells iou.objects iou.tracks _ _ _ c.speed_direction_batch.ensures)
