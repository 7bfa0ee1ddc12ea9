-- `lapjv_path::search_path` meets its contract.
use mathlib.Core.Path.{ap, subst, ◌≡◌}
use mathlib.Core.Bool.{false, true}
use native.Mathlib.Omega.{arith}
use Rattle.lapjv_walk.specs.Marks.{free, is_free, mark_of}
use Rattle.lapjv_walk.specs.Path.{Scan}
use Rattle.costs.specs.OpsOn.{ops}
use Rattle.lapjv_path.proofs.Counts.{spent-first, spent-found, spent-on, spent-small}
use Rattle.lapjv_path.proofs.Goes.{goes-below, goes_first, goes-found, goes-held, goes_on}
use Rattle.lapjv_path.proofs.search_path.Goals as goal

pub loop-last-init : goal.loop-last-init
loop-last-init g c =
    let a = c.args in
    let p = c.requires in
    let O = ops g.C.Cost.on in
    (goes_first O a.n a.cost.now a.start a.y.now a.v.now p.1 p.2 a.d.now a.cols.now a.pred.now p.4, spent-first O a.n a.cost.now a.y.now a.v.now a.start a.d.now a.cols.now a.pred.now p.4, p.7)

pub overflow_add-reads : goal.overflow_add-reads
overflow_add-reads g c =
    let a = c.args in
    let p = c.requires in
    let l = c.loop-last in
    let O = ops g.C.Cost.on in
    let e = c.search_turn-s.ensures l.invariant.1.hi in
    omega (arith, spent-small O a.n a.cost.now a.y.now a.v.now a.start l.lo l.d l.cols l.pred l.reads l.invariant.1 (goes-below O a.n a.cost.now a.start a.y.now a.v.now p.1 p.2 l.lo l.d l.cols l.pred l.invariant.0) _ _ e.0 e.1 p.0.most)

pub returns-in-Some : goal.returns-in-Some
returns-in-Some g c =
    let a = c.args in
    let p = c.requires in
    let l = c.loop-last in
    let O = ops g.C.Cost.on in
    let m = ap mark_of c.in-Some.is in
    let found : is_free (mark_of c.search_turn-s.result.found) ≡ false = ap is_free m in
    let e = c.search_turn-s.ensures l.invariant.1.hi in (
      rw m at (goes-found O a.n a.cost.now a.start a.y.now a.v.now p.1 p.2 l.lo l.d l.cols l.pred l.invariant.0 _ (c.search_turn-s.ensures l.invariant.0.hi).0 found),
      spent-found O a.n a.cost.now a.y.now a.v.now a.start l.lo l.d l.cols l.pred l.reads l.invariant.1 (goes-below O a.n a.cost.now a.start a.y.now a.v.now p.1 p.2 l.lo l.d l.cols l.pred l.invariant.0) _ _ e.0 e.1 found,
    )

pub loop-last-smaller : goal.loop-last-smaller
loop-last-smaller g c =
    let a = c.args in
    let p = c.requires in
    let l = c.loop-last in
    let O = ops g.C.Cost.on in
    let none : is_free (mark_of c.search_turn-s.result.found) ≡ true = ap is_free (ap mark_of c.in_default.is) in
    omega (arith, goes-below O a.n a.cost.now a.start a.y.now a.v.now p.1 p.2 l.lo l.d l.cols l.pred l.invariant.0, (goes_on O a.n a.cost.now a.start a.y.now a.v.now p.1 p.2 l.lo l.d l.cols l.pred l.invariant.0 _ (c.search_turn-s.ensures l.invariant.0.hi).0 none).1)

pub loop-last-preserved : goal.loop-last-preserved
loop-last-preserved g c =
    let a = c.args in
    let p = c.requires in
    let l = c.loop-last in
    let O = ops g.C.Cost.on in
    let m = ap mark_of c.in_default.is in
    let none : is_free (mark_of c.search_turn-s.result.found) ≡ true = ap is_free m in
    let e = c.search_turn-s.ensures l.invariant.1.hi in
    let e0 = (c.search_turn-s.ensures l.invariant.0.hi).0 in
    let below = goes-below O a.n a.cost.now a.start a.y.now a.v.now p.1 p.2 l.lo l.d l.cols l.pred l.invariant.0 in
    let on = goes_on O a.n a.cost.now a.start a.y.now a.v.now p.1 p.2 l.lo l.d l.cols l.pred l.invariant.0 _ e0 none in
    let t : Scan O.C = record { lo = l.lo; hi = l.invariant.0.hi; d = l.d; cols = l.cols; pred = l.pred; found = free } in (
      on.0,
      spent-on O a.n a.cost.now a.y.now a.v.now a.start l.lo l.d l.cols l.pred l.reads l.invariant.1 below _ _ e.0 e.1 on.1 m,
      subst (λ (r : Scan O.C). g.C.Cost.Far a.n r.d) e0 (g.C.Cost.laws.search_far a.n a.cost.now a.y.now a.v.now p.6 p.1 t (goes-held O a.n a.cost.now a.start a.y.now a.v.now p.1 p.2 l.lo l.d l.cols l.pred l.invariant.0) below l.invariant.2),
    )
