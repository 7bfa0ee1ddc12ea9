-- `assign::assigned_in` meets its contract.
use Rattle.std.proofs.Common.{◌++◌, ◌-◌, List, ℤ, replicate, ap, ◌∙◌}
use Rattle.lapjv_walk.specs.Marks.{free}
use Rattle.matching.specs.Lent.{matrix_of}
use Rattle.lapjv_walk.proofs.Fill.{take_long}
use Rattle.assign.proofs.Marking.{larger-most, assigned-is}
use Rattle.assign.proofs.assigned_in.Goals as goal

pub returns : goal.returns
returns g c =
    let m = c.args.m in
    let most = larger-most m.objects m.tracks c.args.n c.requires.size m.few_objects m.few_tracks in
    c.all_within.ensures
    ∙ ap (λ (l : List ℤ). l ++ replicate (64 - m.objects) free)
    (assigned-is m.objects m.tracks c.args.n (matrix_of m) _ _ _ _ _ c.requires.size most c.costs.ensures (take_long _ 64 c.args.n most) (take_long _ 64 c.args.n most) c.lapjv.ensures.rows)
