-- `assign::costs` meets its contract.
use Rattle.std.proofs.Common.{rules, List, ◌++◌, ◌*◌, drop, ap, ◌∙◌}
use Rattle.std.specs.Float.Ieee.{Float}
use Rattle.matching.specs.Lent.{matrix_of}
use Rattle.assign.proofs.Marking.{cost_entry, costs-are}
use Rattle.assign.proofs.costs.Goals as goal

pub returns : goal.returns
returns c =
    let m = c.args.m in
    c.fill_rows.ensures (cost_entry m.objects m.tracks (matrix_of m)) (λ i j v h l e. search rules)
    ∙ ap (λ (l : List Float). l ++ drop (c.args.n * c.args.n) c.args.out.now) (costs-are m.objects m.tracks c.args.n (matrix_of m) c.requires.size)
