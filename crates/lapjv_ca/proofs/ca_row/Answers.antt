-- `lapjv_ca::ca_row` meets its contract.
use Rattle.costs.specs.OpsOn.{ops}
use Rattle.lapjv_ca.proofs.Row.{back-asked, row_is}
use Rattle.lapjv_ca.proofs.ca_row.Goals as goal

pub augment-requires : goal.augment-requires
augment-requires g c =
    let a = c.args in
    let p = c.requires in
    let f = c.find_path_dense-way in
    back-asked (ops g.C.Cost.on) a.n a.cost.now a.start p.1 a.x.now a.y.now a.v.now p.5 p.6 _ f.result.last _ f.ensures.0 p.0.most p.4 p.8

pub returns : goal.returns
returns g c =
    let a = c.args in
    let p = c.requires in
    let f = c.find_path_dense-way in
    (row_is (ops g.C.Cost.on) a.n a.cost.now a.start p.1 a.x.now a.y.now a.v.now p.5 p.6 _ f.result.last _ f.ensures.0 _ _ c.augment.ensures.0 c.augment.ensures.1, f.ensures.1)
