-- `lapjv_ccrt::ccrt_in` meets its contract.
use mathlib.Core.Path.{ap, sym, ◌∙◌}
use Prim.Native.Nat.{◌*◌, ◌+◌, ℕ, ◌≤◌}
use lib.ListN.{length}
use native.Mathlib.Omega.{arith}
use Rattle.lists.proofs.Tab.{length-tab}
use Rattle.lapjv_walk.proofs.Cells.{cells}
use Rattle.lapjv_walk.proofs.Most.{collected-most}
use Rattle.costs.specs.OpsOn.{ops}
use Rattle.lapjv_ccrt.proofs.Ccrt.{assign-asks, assigned, ccrt-is, ccrt-reads, collect-asks, reduced}
use Rattle.lapjv_ccrt.proofs.ccrt_in.Goals as goal

pub assign_columns-requires : goal.assign_columns-requires
assign_columns-requires g c =
    let a = c.args in
    let p = c.requires in
    let l = c.clear_lists.ensures in
    (p.0.most, assign-asks (ops g.C.Cost.on) a.n a.cost.now p.0.some _ _ _ _ _ _ l.0 l.1 l.2 p.2 c.reduce_columns.ensures)

pub collect_free-left-requires : goal.collect_free-left-requires
collect_free-left-requires g c =
    let a = c.args in
    let p = c.requires in
    let l = c.clear_lists.ensures in
    let r = c.reduce_columns.ensures in
    let O = ops g.C.Cost.on in
    let k = collect-asks O a.n a.cost.now p.0.some _ _ _ _ _ _ l.0 l.1 l.2 p.2 r _ _ _ c.assign_columns.ensures in
    let er = reduced O a.n a.cost.now p.0.some _ _ _ _ _ _ l.0 l.1 l.2 p.2 r in
    let ea = assigned O a.n a.cost.now p.0.some _ _ _ _ _ _ l.0 l.1 l.2 p.2 r _ _ _ c.assign_columns.ensures in
    (p.0, k.0, ap length p.3 ∙ length-tab _ a.n, k.1, k.2, p.1, g.C.Cost.laws.collect_prices a.n a.cost.now p.1 p.0.some _ _ _ _ _ _ er ea)

pub overflow_add-reads : goal.overflow_add-reads
overflow_add-reads g c =
    let n = c.args.n in
    let m : c.collect_free-left.result.reads ≤ n * n = rw c.collect_free-left.ensures.1 (collected-most n _ _) in
    omega (arith, cells n c.requires.0.most)

pub returns : goal.returns
returns g c =
    let a = c.args in
    let p = c.requires in
    let l = c.clear_lists.ensures in
    let r = c.reduce_columns.ensures in
    let O = ops g.C.Cost.on in (
      ccrt-is O a.n a.cost.now p.0.some _ _ _ _ _ _ l.0 l.1 l.2 p.2 r _ _ _ c.assign_columns.ensures _ _ _ _ p.3 c.collect_free-left.ensures.0,
      ap (λ (k : ℕ). a.n * a.n + k) c.collect_free-left.ensures.1 ∙ sym (ccrt-reads O a.n a.cost.now p.0.some _ _ _ _ _ _ l.0 l.1 l.2 p.2 r _ _ _ c.assign_columns.ensures),
    )
