-- `lapjv_carr::two_best` meets its contract.
use mathlib.Core.Path.{ap, refl, sym, ◌∙◌, ◌≡◌}
use Prim.Native.Nat.{◌<◌}
use native.Mathlib.Omega.{arith}
use Rattle.lapjv_walk.specs.Carr.{Two, two, two_step}
use Rattle.lapjv_walk.specs.Marks.{mark_of}
use Rattle.lapjv_walk.specs.Ops.{cost_at}
use Rattle.lapjv_walk.proofs.Loops.{walk_more, walk_none}
use Rattle.lapjv_walk.proofs.Turns.{two-first, two-second, two-skip, two≡}
use Rattle.costs.specs.OpsOn.{ops}
use Rattle.lapjv_carr.proofs.two_best.Goals as goal
use Rattle.lapjv_carr.proofs.two_best.Goals.{then-is_less+then-comes_second, then-is_less+else-comes_second, else-is_less}

pub loop-j-init : goal.loop-j-init
loop-j-init g c = let p = c.requires.0.some in (p, sym (walk_none _ _ _))

pub loop-j-preserved : goal.loop-j-preserved
loop-j-preserved g c =
    let a = c.args in
    let l = c.loop-j in
    let t = c.loop-j-test.true in
    let O = ops g.C.Cost.on in
    let f = two_step O a.n a.cost.now a.i a.v.now in
    let s : Two O.C = record { j1 = l.j1; j2 = mark_of l.j2; v1 = l.v1; v2 = l.v2 } in
    let k : O.C = cost_at O a.n a.cost.now a.i l.j in
    let e = c.reduced_cost-c.ensures in
    let m = c.if-is_less in
    let first : m.j1 < a.n = elim m.branch [ then-is_less+then-comes_second w ↦ rw w.j1-is l.invariant.0 | then-is_less+else-comes_second w ↦ rw w.j1-is t | else-is_less w ↦ rw w.j1-is l.invariant.0 ] in
    let next : record { j1 = m.j1; j2 = mark_of m.j2; v1 = m.v1; v2 = m.v2 } ≡ f l.j s =
    elim m.branch [
      | then-is_less+then-comes_second w ↦ two≡ w.j1-is (ap mark_of w.j2-is) w.v1-is (w.v2-is ∙ e) ∙ sym (two-second O a.n a.cost.now a.i a.v.now l.j s k refl (rw e at (sym w.if-is_less.ensures)) (rw e at (sym w.if-comes_second.ensures)))
      | then-is_less+else-comes_second w ↦ two≡ w.j1-is (ap mark_of w.j2-is) (w.v1-is ∙ e) w.v2-is ∙ sym (two-first O a.n a.cost.now a.i a.v.now l.j s k refl (rw e at (sym w.if-is_less.ensures)) (rw e at (sym w.if-comes_second.ensures)))
      | else-is_less w ↦ two≡ w.j1-is (ap mark_of w.j2-is) w.v1-is w.v2-is ∙ sym (two-skip O a.n a.cost.now a.i a.v.now l.j s k refl (rw e at (sym w.if-is_less.ensures)))
    ] in
    (first, next ∙ ap (f l.j) l.invariant.1 ∙ sym (walk_more f 1 l.j _ (omega arith)))

pub returns : goal.returns
unfolding two
returns g c =
    let a = c.args in
    let e : c.loop-j.j ≡ a.n = omega arith in
    sym (rw (e, c.reduced_cost-v1.ensures, c.large-v2.ensures) at c.loop-j.invariant.1)
