-- `lapjv_path::search_turn` meets its contract.
use mathlib.Core.Path.{refl, sym, ◌∙◌}
use lib.IntN.{ℤ, pos}
use Rattle.lapjv_walk.specs.Marks.{free}
use Rattle.costs.specs.OpsOn.{ops}
use Rattle.lapjv_path.proofs.Turn.{finds-reads, found-columns, scans-reads, turn-finds, turn-scans}
use Rattle.lapjv_path.proofs.search_turn.Goals as goal

pub last_free-requires : goal.last_free-requires
last_free-requires g c =
    let a = c.args in
    let p = c.requires in
    let f = c.find_dense-hi in
    let q = found-columns (ops g.C.Cost.on) a.n a.cost.now a.y.now a.lo a.d.now a.cols.now a.pred.now p.4 p.3 f.result _ f.ensures.0 f.ensures.1 in
    (p.0.most, q.0, q.1, q.2, p.1.len)

pub scan_dense-requires : goal.scan_dense-requires
scan_dense-requires g c =
    let a = c.args in
    let p = c.requires in
    let f = c.find_dense-hi in
    (p.0, p.1, p.2, (turn-scans (ops g.C.Cost.on) a.n a.cost.now a.y.now a.lo a.d.now a.cols.now a.pred.now p.4 p.3 f.result _ f.ensures.0 f.ensures.1 free c.in-None.ensures 0 a.v.now p.1 refl).0, p.5, p.6, p.7)

pub returns-in-Some : goal.returns-in-Some
returns-in-Some g c =
    let a = c.args in
    let p = c.requires in
    let f = c.find_dense-hi in
    let O = ops g.C.Cost.on in
    let z : ℤ = pos c.in-Some.j in
    λ h. (turn-finds O a.n a.cost.now a.y.now a.lo a.d.now a.cols.now a.pred.now p.4 p.3 f.result _ f.ensures.0 f.ensures.1 z c.in-Some.ensures h a.v.now refl, sym (finds-reads O a.n a.cost.now a.y.now a.lo a.d.now a.cols.now a.pred.now p.4 p.3 f.result _ f.ensures.0 f.ensures.1 z c.in-Some.ensures h a.v.now refl))

pub returns-in-None : goal.returns-in-None
returns-in-None g c =
    let a = c.args in
    let p = c.requires in
    let f = c.find_dense-hi in
    let O = ops g.C.Cost.on in
    let e = c.in-None.ensures in
    λ h. ((turn-scans O a.n a.cost.now a.y.now a.lo a.d.now a.cols.now a.pred.now p.4 p.3 f.result _ f.ensures.0 f.ensures.1 free e h a.v.now p.1 refl).1 ∙ c.scan_dense.ensures.0, c.scan_dense.ensures.1 ∙ sym (scans-reads O a.n a.cost.now a.y.now a.lo a.d.now a.cols.now a.pred.now p.4 p.3 f.result _ f.ensures.0 f.ensures.1 free e h a.v.now p.1 refl))
