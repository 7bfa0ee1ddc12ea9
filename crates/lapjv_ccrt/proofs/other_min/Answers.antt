-- `lapjv_ccrt::other_min` meets its contract.
use mathlib.Core.Path.{ap, sym, ◌∙◌, ◌≡◌}
use borrow.Author.Tests.{eq-eqb, ne_eqb}
use native.Mathlib.Omega.{arith}
use Rattle.lapjv_walk.specs.Ccrt.{other_min, other_step}
use Rattle.lapjv_walk.proofs.Loops.{walk_more}
use Rattle.costs.specs.OpsOn.{ops}
use Rattle.lapjv_ccrt.proofs.other_min.Goals as goal
use Rattle.lapjv_ccrt.proofs.other_min.Goals.{Joined-k-j, else-k-j, then-k-j+else-is_less, then-k-j+then-is_less}

next : (g : _) (c : Joined-k-j g) → c.if-k-j.min ≡ other_step (ops g.C.Cost.on) c.args.n c.args.cost.now c.args.i c.args.j c.args.v.now c.loop-k.k c.loop-k.min
unfolding other_step
next g c =
    elim c.if-k-j.branch [
      | then-k-j+then-is_less w ↦ let e = w.reduced_cost-c.ensures in let t = rw e at (sym w.if-is_less.ensures) in rw (ne_eqb c.loop-k.k c.args.j w.if-k-j.true, t) (w.min-is ∙ e)
      | then-k-j+else-is_less w ↦ let e = w.reduced_cost-c.ensures in let t = rw e at (sym w.if-is_less.ensures) in rw (ne_eqb c.loop-k.k c.args.j w.if-k-j.true, t) w.min-is
      | else-k-j w ↦ rw (eq-eqb c.loop-k.k c.args.j w.if-k-j.false) w.min-is
    ]

pub loop-k-preserved : goal.loop-k-preserved
loop-k-preserved g c =
    let a = c.args in
    let l = c.loop-k in
    let f = other_step (ops g.C.Cost.on) a.n a.cost.now a.i a.j a.v.now in
    next g (goal.at.loop-k-preserved g c).Joined-k-j ∙ ap (f l.k) l.invariant ∙ sym (walk_more f 0 l.k _ (omega arith))

pub returns : goal.returns
unfolding other_min
returns g c =
    let e : c.loop-k.k ≡ c.args.n = omega arith in
    rw e at c.loop-k.invariant
