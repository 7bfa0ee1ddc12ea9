-- `lapjv_ca::ca_dense` meets its contract.
use mathlib.Core.Path.{sym, ◌≡◌}
use Prim.Native.Nat.{◌+◌}
use native.Mathlib.Omega.{arith}
use Rattle.lapjv_walk.specs.Ccrt.{Kept}
use Rattle.lapjv_walk.specs.Lapjv.{ca_dense}
use Rattle.lapjv_walk.proofs.Loops.{walk_none}
use Rattle.lapjv_walk.proofs.Most.{ca-none, ca-small}
use Rattle.costs.specs.OpsOn.{ops}
use Rattle.lapjv_ca.proofs.Rows.{reads-on, row-given, row-on}
use Rattle.lapjv_ca.proofs.ca_dense.Goals as goal
use Rattle.lapjv_ca.proofs.ca_dense.Goals.{After-ca_row-reads}

pub loop-r-init : goal.loop-r-init
unfolding ca_dense
loop-r-init g c = let a = c.args in (sym (walk_none _ _ _), sym (ca-none (ops g.C.Cost.on) a.n a.cost.now _))

pub ca_row-reads-requires : goal.ca_row-reads-requires
ca_row-reads-requires g c =
    let a = c.args in
    let p = c.requires in
    let l = c.loop-r in
    let o = row-given g.C.Cost.laws a.n a.cost.now p.0 p.4 (record { rows = a.rows.now; count = a.count; x = a.x.now; y = a.y.now; v = a.v.now }) p.3 p.5 l.r (record { x = l.x; y = l.y; v = l.v }) l.invariant.0 c.loop-r-test.true in
    (p.0, o.below, omega (arith, p.1, l.auto.d), omega (arith, p.2, l.auto.pred), o.ranged, o.marked, o.room, omega (arith, p.3.len_v, l.auto.v), o.ends, p.4, o.good)

pub overflow_add-reads : goal.overflow_add-reads
overflow_add-reads g c =
    let a = c.args in
    let p = c.requires in
    let l = c.loop-r in
    let O = ops g.C.Cost.on in
    let k : Kept O.C = record { rows = a.rows.now; count = a.count; x = a.x.now; y = a.y.now; v = a.v.now } in
    let s = (goal.at.overflow_add-reads g c).After-ca_row-reads.ca_row-reads in
    omega (arith, reads-on O a.n a.cost.now k l.r _ l.invariant.0 l.invariant.1 s.ensures.1, ca-small O a.n a.cost.now (l.r + 1) k p.0.most (omega (arith, p.0.most, p.3.count_n, c.loop-r-test.true)))

pub loop-r-preserved : goal.loop-r-preserved
loop-r-preserved g c =
    let a = c.args in
    let l = c.loop-r in
    let O = ops g.C.Cost.on in
    let e = c.ca_row-reads.ensures in
    (row-on O a.n a.cost.now _ l.r _ l.invariant.0 e.0, reads-on O a.n a.cost.now _ l.r _ l.invariant.0 l.invariant.1 e.1)

pub returns : goal.returns
returns g c =
    let e : c.loop-r.r ≡ c.args.count = omega arith in
    (sym (rw e at c.loop-r.invariant.0), rw e at c.loop-r.invariant.1)
