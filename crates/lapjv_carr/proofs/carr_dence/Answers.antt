-- `lapjv_carr::carr_dence` meets its contract.
use mathlib.Core.Path.{refl, subst}
use native.Mathlib.Omega.{arith}
use Rattle.lapjv_walk.specs.Carr.{Carr, carr_dence}
use Rattle.lapjv_walk.specs.Ccrt.{Kept}
use Rattle.lapjv_walk.specs.Reads.{carr_reads}
use Rattle.costs.specs.OpsOn.{ops}
use Rattle.lapjv_carr.proofs.Pass.{going_done, going-first, going_on}
use Rattle.lapjv_carr.proofs.carr_dence.Goals as goal

pub loop-current-init : goal.loop-current-init
loop-current-init g c = let a = c.args in let p = c.requires in (going-first (ops g.C.Cost.on) a.n a.cost.now (record { rows = a.rows.now; count = a.count; x = a.x.now; y = a.y.now; v = a.v.now }) p.0.some p.1, p.3)

pub loop-current-preserved : goal.loop-current-preserved
loop-current-preserved g c =
    let a = c.args in
    let p = c.requires in
    let l = c.loop-current in
    let O = ops g.C.Cost.on in
    let k : Kept O.C = record { rows = a.rows.now; count = a.count; x = a.x.now; y = a.y.now; v = a.v.now } in
    let s : Carr O.C = record { rows = l.rows; current = l.current; fresh = l.fresh; turn = l.turn; x = l.x; y = l.y; v = l.v } in
    let h = c.loop-current-test.true in
    let e = c.carr_turn-t.ensures l.turn refl in (
      going_on O a.n a.cost.now k p.0.some s l.invariant.0 h _ e refl,
      subst (λ (z : Carr O.C). g.C.Cost.Good a.n a.cost.now z.y z.v) e (g.C.Cost.laws.turn_good a.n a.cost.now p.2 p.0.some a.count s h l.invariant.0.ok l.invariant.1),
    )

pub returns : goal.returns
unfolding carr_dence carr_reads
returns g c =
    let a = c.args in
    let p = c.requires in
    let l = c.loop-current in
    let O = ops g.C.Cost.on in
    let k : Kept O.C = record { rows = a.rows.now; count = a.count; x = a.x.now; y = a.y.now; v = a.v.now } in
    let s : Carr O.C = record { rows = l.rows; current = l.current; fresh = l.fresh; turn = l.turn; x = l.x; y = l.y; v = l.v } in
    let e = going_done O a.n a.cost.now k p.0.some s l.invariant.0 (omega arith) in
    (rw e, rw e)
