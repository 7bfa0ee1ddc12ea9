-- `costs::reduced_cost` meets its contract.
use Rattle.std.proofs.Common.{sym, ◌≡◌}
use Rattle.std.proofs.lemmas.List.{get_or_read_under}
use Rattle.lapjv_walk.specs.Ops.{val_at}
use Rattle.costs.specs.OpsOn.{ops}
use Rattle.costs.proofs.reduced_cost.Goals as goal
use Rattle.costs.proofs.reduced_cost.Goals.{After-index-v-j}

price : (g : _) (c : After-index-v-j g) → c.index-v-j.result ≡ val_at (ops g.C.Cost.on) c.args.v.now c.args.j
price g c = get_or_read_under c.args.v.now c.args.j c.args.n _ _ c.index-v-j.is c.requires.2 (sym c.requires.3)

pub minus-requires : goal.minus-requires
minus-requires g c =
    let a = c.args in
    let p = c.requires in
    let l = g.C.Cost.laws in
    (rw c.cost_at.ensures (l.cost_small a.n a.cost.now p.4 a.i a.j p.1 p.2), rw (price g (goal.at.minus-requires g c).After-index-v-j) (l.price_small a.n a.v.now p.5 a.j p.2))

pub returns : goal.returns
returns g c = rw (price g (goal.at.returns g c).After-index-v-j, c.cost_at.ensures) at c.minus.ensures
