-- `lapjv::lapjv_own` meets its contract.
use Prim.Native.Nat.{◌+◌, ◌≤◌}
use native.Mathlib.Omega.{arith}
use Rattle.costs.specs.OpsOn.{ops}
use Rattle.lapjv.proofs.Whole.{columns-leave, lapjv-is, pass-leaves, reads-are, reads-few}
use Rattle.lapjv.proofs.lapjv_own.Goals as goal
use Rattle.lapjv.proofs.lapjv_own.Goals.{After-ca_own-rest}

pub carr_dence-second-requires : goal.carr_dence-second-requires
carr_dence-second-requires g c =
    let n = c.args.n in
    let k = c.args.cost.now in
    let p = c.requires in
    let l₁ = columns-leave g.C.Cost.laws n k p.0 p.1 _ c.ccrt_dense-first.ensures.0 in
    (p.0, l₁.0, p.1, l₁.1)

pub carr_dence-third-requires : goal.carr_dence-third-requires
carr_dence-third-requires g c =
    let n = c.args.n in
    let k = c.args.cost.now in
    let p = c.requires in
    let l₁ = columns-leave g.C.Cost.laws n k p.0 p.1 _ c.ccrt_dense-first.ensures.0 in
    let l₂ = pass-leaves g.C.Cost.laws n k p.0 p.1 _ _ c.carr_dence-second.ensures.0 l₁ in
    (p.0, l₂.0, p.1, l₂.1)

pub ca_own-rest-requires : goal.ca_own-rest-requires
ca_own-rest-requires g c =
    let n = c.args.n in
    let k = c.args.cost.now in
    let p = c.requires in
    let l₁ = columns-leave g.C.Cost.laws n k p.0 p.1 _ c.ccrt_dense-first.ensures.0 in
    let l₂ = pass-leaves g.C.Cost.laws n k p.0 p.1 _ _ c.carr_dence-second.ensures.0 l₁ in
    let l₃ = pass-leaves g.C.Cost.laws n k p.0 p.1 _ _ c.carr_dence-third.ensures.0 l₂ in
    (p.0, p.4, p.5, l₃.0, p.1, l₃.1)

-- the reads of the four steps
most : (g : _) (c : After-ca_own-rest g) → c.ccrt_dense-first.result.reads + c.carr_dence-second.result.reads + c.carr_dence-third.result.reads + c.ca_own-rest.result ≤ 811_008
most g c =
    let e₁ = c.ccrt_dense-first.ensures in
    let e₂ = c.carr_dence-second.ensures in
    let e₃ = c.carr_dence-third.ensures in
    reads-few (ops g.C.Cost.on) c.args.n c.args.cost.now c.requires.0 _ _ _ e₁.0 e₂.0 e₃.0 _ _ _ _ e₁.1 e₂.1 e₃.1 c.ca_own-rest.ensures.1

pub overflow_add-result : goal.overflow_add-result
overflow_add-result g c = omega (arith, most g (goal.at.overflow_add-result g c).After-ca_own-rest)

pub overflow_add-result-2 : goal.overflow_add-result-2
overflow_add-result-2 g c = omega (arith, most g (goal.at.overflow_add-result-2 g c).After-ca_own-rest)

pub overflow_add-result-3 : goal.overflow_add-result-3
overflow_add-result-3 g c = omega (arith, most g (goal.at.overflow_add-result-3 g c).After-ca_own-rest)

pub returns : goal.returns
returns g c =
    let n = c.args.n in
    let k = c.args.cost.now in
    let O = ops g.C.Cost.on in
    let e₁ = c.ccrt_dense-first.ensures in
    let e₂ = c.carr_dence-second.ensures in
    let e₃ = c.carr_dence-third.ensures in
    let e₄ = c.ca_own-rest.ensures in
    (lapjv-is O n k _ _ _ _ e₁.0 e₂.0 e₃.0 e₄.0, reads-are O n k _ _ _ e₁.0 e₂.0 e₃.0 _ _ _ _ e₁.1 e₂.1 e₃.1 e₄.1)
