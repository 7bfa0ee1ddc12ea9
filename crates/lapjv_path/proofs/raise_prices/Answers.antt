-- `lapjv_path::raise_prices` meets its contract.
use mathlib.Core.Path.{ap, sym, ◌∙◌, ◌≡◌}
use Prim.Native.Nat.{◌<◌, ℕ}
use lib.ListN.{set}
use native.Mathlib.Omega.{arith}
use Rattle.std.proofs.lemmas.List.{get_or_read_under}
use Rattle.lapjv_walk.specs.Marks.{num_at}
use Rattle.lapjv_walk.specs.Ops.{val_at}
use Rattle.lapjv_walk.specs.Path.{raise, raise_step}
use Rattle.lapjv_walk.proofs.Loops.{walk_more, walk_none}
use Rattle.costs.specs.OpsOn.{ops}
use Rattle.lapjv_path.proofs.raise_prices.Goals as goal

pub loop-k-init : goal.loop-k-init
loop-k-init g c = sym (walk_none _ _ _)

pub raised-requires : goal.raised-requires
raised-requires g c =
    let a = c.args in
    let p = c.requires in
    let l = c.loop-k in
    let w = g.C.Cost.laws in
    let O = ops g.C.Cost.on in
    let hk = c.loop-k-test.true in
    let hj : num_at a.cols.now l.k < a.n = p.3.below l.k (omega (arith, p.1, hk)) in
    let hl = p.3.below a.lo p.1 in
    let j : ℕ = num_at a.cols.now l.k in
    let ev : c.index-v-j.result ≡ val_at O l.v j = get_or_read_under l.v j a.n _ _ c.index-v-j.is hj (omega (arith, p.4, l.auto.v)) in
    let ed : c.index-d-j.result ≡ val_at O a.d.now j = get_or_read_under a.d.now j a.n _ _ c.index-d-j.is hj (sym p.2) in
    let em : c.index-d-cols.result ≡ val_at O a.d.now (num_at a.cols.now a.lo) = get_or_read_under a.d.now _ a.n _ _ c.index-d-cols.is hl (sym p.2) in (
      rw (ev, l.invariant) (w.raised_small a.n a.v.now a.d.now a.cols.now _ p.3 p.4 p.5 a.lo l.k (omega (arith, p.1)) hk),
      rw ed (w.distance_small a.n a.d.now p.6 j hj),
      rw em (w.distance_small a.n a.d.now p.6 _ hl),
    )

pub loop-k-preserved : goal.loop-k-preserved
unfolding raise_step
loop-k-preserved g c =
    let a = c.args in
    let p = c.requires in
    let l = c.loop-k in
    let O = ops g.C.Cost.on in
    let hj : num_at a.cols.now l.k < a.n = p.3.below l.k (omega (arith, p.1, c.loop-k-test.true)) in
    let j : ℕ = num_at a.cols.now l.k in
    let ev : c.index-v-j.result ≡ val_at O l.v j = get_or_read_under l.v j a.n _ _ c.index-v-j.is hj (omega (arith, p.4, l.auto.v)) in
    let ed : c.index-d-j.result ≡ val_at O a.d.now j = get_or_read_under a.d.now j a.n _ _ c.index-d-j.is hj (sym p.2) in
    let f = raise_step O c.index-d-cols.result a.d.now a.cols.now in
    ap (set l.v j) (rw (ev, ed) at c.raised.ensures) ∙ ap (f l.k) l.invariant ∙ sym (walk_more f 0 l.k a.v.now (omega arith))

pub returns : goal.returns
unfolding raise
returns g c =
    let a = c.args in
    let p = c.requires in
    let e : c.loop-k.k ≡ a.lo = omega arith in
    let em : c.index-d-cols.result ≡ val_at (ops g.C.Cost.on) a.d.now (num_at a.cols.now a.lo) = get_or_read_under a.d.now _ a.n _ _ c.index-d-cols.is (p.3.below a.lo p.1) (sym p.2) in
    rw (e, em) at c.loop-k.invariant
