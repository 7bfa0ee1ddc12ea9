-- `lapjv_path::search_from` meets its contract.
use mathlib.Core.Path.{refl, sym, ◌∙◌, ◌≡◌}
use Prim.Native.Nat.{◌<◌}
use native.Mathlib.Omega.{arith}
use Rattle.lists.proofs.Tab.{tab-done, tab-fill}
use Rattle.lapjv_walk.specs.Path.{search_from}
use Rattle.lapjv_walk.proofs.Search.{scan≡}
use Rattle.lapjv_path.proofs.search_from.Goals as goal

pub loop-j-preserved : goal.loop-j-preserved
loop-j-preserved g c =
    let p = c.requires in
    let l = c.loop-j in
    let i = l.invariant in
    let h : l.j < c.args.n = c.loop-j-test.true in
    (tab-fill _ g.C.Cost.on.none _ _ l.j _ i.0 c.reduced_cost.ensures (omega (arith, p.3)), tab-fill _ 0 _ _ l.j _ i.1 refl (omega (arith, p.4)), tab-fill _ 0 _ _ l.j _ i.2 refl (omega (arith, p.5)))

pub returns : goal.returns
unfolding search_from
returns g c =
    let a = c.args in
    let p = c.requires in
    let i = c.loop-j.invariant in
    let e : c.loop-j.j ≡ a.n = omega arith in
    scan≡ refl refl
    (sym (rw e at i.0 ∙ tab-done _ a.d.now a.n (omega (arith, p.3))))
    (sym (rw e at i.1 ∙ tab-done _ a.cols.now a.n (omega (arith, p.4))))
    (sym (rw e at i.2 ∙ tab-done _ a.pred.now a.n (omega (arith, p.5))))
    refl
