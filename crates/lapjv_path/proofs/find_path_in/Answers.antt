-- `lapjv_path::find_path_in` meets its contract.
use mathlib.Core.Path.{ap, refl, subst, sym, ◌≡◌}
use Prim.Native.Nat.{◌+◌, ℕ}
use native.Mathlib.Omega.{arith}
use Rattle.lapjv_walk.specs.Path.{find_path_dense, Scan}
use Rattle.lapjv_walk.specs.Reads.{find_path_reads}
use Rattle.lapjv_walk.proofs.Most.{path-most, search-small}
use Rattle.lapjv_walk.proofs.Route.{FoundOk, search-found}
use Rattle.costs.specs.OpsOn.{ops}
use Rattle.lapjv_path.proofs.Goes.{route≡}
use Rattle.lapjv_path.proofs.find_path_in.Goals as goal

pub search_path-s-requires : goal.search_path-s-requires
search_path-s-requires g c =
    let a = c.args in
    let p = c.requires in
    let O = ops g.C.Cost.on in
    (p.0, p.4, p.5, p.6, c.search_from.ensures, p.8, p.9, subst (λ (t : Scan O.C). g.C.Cost.Far a.n t.d) c.search_from.ensures (g.C.Cost.laws.start_far a.n a.cost.now a.y.now a.v.now p.9 p.4 p.8 a.start p.1 p.5))

pub raise_prices-requires : goal.raise_prices-requires
raise_prices-requires g c =
    let a = c.args in
    let p = c.requires in
    let O = ops g.C.Cost.on in
    let l = g.C.Cost.laws in
    let e = c.search_path-s.ensures.0 in
    let F = subst (λ (t : Scan O.C). FoundOk O a.n a.cost.now a.y.now a.v.now (λ i. i ≡ a.start) p.4 t) e (search-found O a.n a.cost.now a.y.now a.v.now p.4 a.start p.5) in
    (p.0.most, F.lo-n, F.len_d, F.apart, p.6, l.good_prices a.n a.cost.now a.y.now a.v.now p.9, subst (λ (t : Scan O.C). g.C.Cost.Far a.n t.d) e (l.path_far a.n a.cost.now a.y.now a.v.now p.9 p.4 p.8 a.start p.1 p.5))

pub overflow_add-reads : goal.overflow_add-reads
overflow_add-reads g c =
    let a = c.args in
    let p = c.requires in
    omega (arith, c.search_path-s.ensures.1, path-most (ops g.C.Cost.on) a.n a.cost.now a.start a.y.now a.v.now, search-small a.n p.0.most, p.0.most)

pub returns : goal.returns
unfolding find_path_dense find_path_reads
returns g c =
    let e = c.search_path-s.ensures in
    (rw e.0 (route≡ refl refl (sym c.raise_prices.ensures)), ap (λ (k : ℕ). c.args.n + k) e.1)
