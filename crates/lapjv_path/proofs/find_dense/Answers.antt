-- `lapjv_path::find_dense` meets its contract.
use mathlib.Core.Path.{ap, subst, sym, ◌∙◌, ◌≡◌}
use Prim.Native.Nat.{◌+◌}
use native.Mathlib.Omega.{arith}
use Rattle.std.proofs.lemmas.List.{get_or_read_under}
use Rattle.lapjv_walk.specs.Loops.{walk}
use Rattle.lapjv_walk.specs.Marks.{num_at}
use Rattle.lapjv_walk.specs.Ops.{val_at}
use Rattle.lapjv_walk.specs.Path.{Find, find_dense, find_step}
use Rattle.lapjv_walk.proofs.Find.{find-ok, FindOk, find≡}
use Rattle.lapjv_walk.proofs.Loops.{walk_more, walk_none}
use Rattle.costs.specs.OpsOn.{ops}
use Rattle.lapjv_path.proofs.find_dense.Goals as goal
use Rattle.lapjv_path.proofs.find_dense.Goals.{else-is_less, else-joins, then-is_less, then-joins, Joined-joins}

pub loop-k-init : goal.loop-k-init
loop-k-init g c = (omega arith, record { lo_hi = omega arith; hi-k = omega arith; apart = c.requires.2 }, sym (walk_none _ _ _))

next : (g : _) (c : Joined-joins g) → record { cols = c.if-joins.cols; hi = c.if-joins.hi; mind = c.if-joins.mind } ≡ find_step (ops g.C.Cost.on) c.args.lo c.args.d.now c.loop-k.k (record { cols = c.loop-k.cols; hi = c.loop-k.hi; mind = c.loop-k.mind })
unfolding find_step
next g c =
    let O = ops g.C.Cost.on in
    let l = c.loop-k in
    let at : c.index-d-j.result ≡ val_at O c.args.d.now (num_at l.cols l.k) = get_or_read_under c.args.d.now _ c.args.n _ _ c.index-d-j.is (l.invariant.1.apart.below l.k c.loop-k-test.true) (sym c.requires.1) in
    elim c.if-joins.branch [
      | then-joins w ↦ let e = rw at at (sym w.if-joins.ensures) in elim w.if-is_less.branch [
        | then-is_less u ↦ let f = rw at at (sym u.if-is_less.ensures) in rw (e, f) (find≡ (w.cols-is ∙ rw u.hi-is) (w.hi-is ∙ rw u.hi-is) (w.mind-is ∙ u.mind-is ∙ at))
        | else-is_less u ↦ let f = rw at at (sym u.if-is_less.ensures) in rw (e, f) (find≡ (w.cols-is ∙ rw u.hi-is) (w.hi-is ∙ rw u.hi-is) (w.mind-is ∙ u.mind-is))
      ]
      | else-joins w ↦ let e = rw at at (sym w.if-joins.ensures) in rw e (find≡ w.cols-is w.hi-is w.mind-is)
    ]

pub loop-k-preserved : goal.loop-k-preserved
loop-k-preserved g c =
    let a = c.args in
    let p = c.requires in
    let l = c.loop-k in
    let O = ops g.C.Cost.on in
    let f = find_step O a.lo a.d.now in
    let e = next g (goal.at.loop-k-preserved g c).Joined-joins ∙ ap (f l.k) l.invariant.2 ∙ sym (walk_more f (a.lo + 1) l.k _ l.invariant.0) in
    (omega (arith, l.invariant.0), subst (λ (s : Find O.C). FindOk a.n a.lo (l.k + 1) s) (sym e) (find-ok O a.n a.lo a.d.now (l.k + 1) a.cols.now _ p.0 (omega (arith, l.invariant.0)) (omega (arith, c.loop-k-test.true)) p.2), e)

pub returns : goal.returns
unfolding find_dense
returns g c =
    let a = c.args in
    let O = ops g.C.Cost.on in
    let e : c.loop-k.k ≡ a.n = omega arith in
    let first : c.index-d-cols.result ≡ val_at O a.d.now (num_at a.cols.now a.lo) = get_or_read_under a.d.now _ a.n _ _ c.index-d-cols.is (c.requires.2.below a.lo c.requires.0) (sym c.requires.1) in
    let h : record { cols = c.loop-k.cols; hi = c.loop-k.hi; mind = c.loop-k.mind } ≡ walk (find_step O a.lo a.d.now) (a.lo + 1) a.n _ = rw (e, first) at c.loop-k.invariant.2 in
    (ap (λ (s : Find O.C). s.hi) h, ap (λ (s : Find O.C). s.cols) h)
