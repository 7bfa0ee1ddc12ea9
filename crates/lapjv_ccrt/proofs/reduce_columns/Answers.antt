-- `lapjv_ccrt::reduce_columns` meets its contract.
use mathlib.Core.Path.{ap, sym, ◌∙◌}
use native.Mathlib.Omega.{arith}
use Rattle.lapjv_walk.specs.Ccrt.{reduce_row}
use Rattle.lapjv_walk.proofs.Loops.{walk_more, walk_none}
use Rattle.costs.specs.OpsOn.{ops}
use Rattle.lapjv_ccrt.proofs.reduce_columns.Goals as goal

pub loop-i-init : goal.loop-i-init
loop-i-init g c = sym (walk_none _ _ _)

pub loop-i-preserved : goal.loop-i-preserved
loop-i-preserved g c =
    let l = c.loop-i in
    let f = reduce_row (ops g.C.Cost.on) c.args.n c.args.cost.now in
    sym c.reduce_row.ensures ∙ ap (f l.i) l.invariant ∙ sym (walk_more f 0 l.i _ (omega arith))
