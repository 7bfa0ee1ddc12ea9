-- `lapjv_ccrt::reduce_row` meets its contract.
use mathlib.Core.Path.{ap, sym, ◌∙◌, ◌≡◌}
use lib.ListN.{set}
use native.Mathlib.Omega.{arith}
use Rattle.std.proofs.lemmas.List.{get_or_read_under}
use Rattle.lapjv_walk.specs.Ccrt.{reduce_row, reduce_step}
use Rattle.lapjv_walk.specs.Ops.{val_at}
use Rattle.lapjv_walk.proofs.Ccrt.{reduce≡}
use Rattle.lapjv_walk.proofs.Loops.{walk_more, walk_none}
use Rattle.costs.specs.OpsOn.{ops}
use Rattle.lapjv_ccrt.proofs.reduce_row.Goals as goal
use Rattle.lapjv_ccrt.proofs.reduce_row.Goals.{Joined-is_least, else-is_least, then-is_least}

pub loop-j-init : goal.loop-j-init
loop-j-init g c = sym (walk_none _ _ _)

next : (g : _) (c : Joined-is_least g) → record { v = c.if-is_least.v; y = c.if-is_least.y } ≡ reduce_step (ops g.C.Cost.on) c.args.n c.args.cost.now c.args.i c.loop-j.j (record { v = c.loop-j.v; y = c.loop-j.y })
unfolding reduce_step
next g c =
    let l = c.loop-j in
    let h = c.loop-j-test.true in
    let old : c.index-v-j.result ≡ val_at (ops g.C.Cost.on) l.v l.j = get_or_read_under l.v l.j c.args.n _ _ c.index-v-j.is (omega arith) (omega (arith, c.requires.2, l.auto.v)) in
    elim c.if-is_least.branch [
      | then-is_least w ↦ let t = rw (c.cost_at-c.ensures, old) at (sym w.if-is_least.ensures) in rw t (reduce≡ (w.v-is ∙ ap (set l.v l.j) c.cost_at-c.ensures) (w.y-is ∙ w.put_mark.ensures))
      | else-is_least w ↦ let t = rw (c.cost_at-c.ensures, old) at (sym w.if-is_least.ensures) in rw t (reduce≡ w.v-is w.y-is)
    ]

pub loop-j-preserved : goal.loop-j-preserved
loop-j-preserved g c =
    let a = c.args in
    let l = c.loop-j in
    let f = reduce_step (ops g.C.Cost.on) a.n a.cost.now a.i in
    next g (goal.at.loop-j-preserved g c).Joined-is_least ∙ ap (f l.j) l.invariant ∙ sym (walk_more f 0 l.j _ (omega arith))

pub returns : goal.returns
unfolding reduce_row
returns g c =
    let a = c.args in
    let e : c.loop-j.j ≡ a.n = omega arith in
    sym (rw e at c.loop-j.invariant)
