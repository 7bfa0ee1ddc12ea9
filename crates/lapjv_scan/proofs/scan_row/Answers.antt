-- `lapjv_scan::scan_row` meets its contract.
use mathlib.Core.Path.{ap, refl, subst, sym, ◌∙◌, ◌≡◌}
use Prim.Native.Nat.{◌+◌, ◌<◌, ℕ}
use lib.ListN.{length, set}
use native.Mathlib.Omega.{arith}
use Rattle.std.proofs.Common.{rules}
use Rattle.std.proofs.lemmas.List.{get_or_read_under}
use Rattle.lapjv_walk.specs.Loops.{walk}
use Rattle.lapjv_walk.specs.Marks.{free, num_at}
use Rattle.lapjv_walk.specs.Ops.{cost_at, val_at}
use Rattle.lapjv_walk.specs.Path.{Scan, scan_row, scan_step}
use Rattle.lapjv_walk.specs.Reads.{scan_row_reads}
use Rattle.lapjv_walk.proofs.Loops.{walk_more, walk_none, walk-stop}
use Rattle.lapjv_walk.proofs.Search.{found-fixed, row_ok, RowOk, scan-found, scan-join, scan-lower, scan-skip, scan≡}
use Rattle.costs.specs.OpsOn.{ops}
use Rattle.lapjv_scan.proofs.Counts.{tries-first, tries-found, tries-on}
use Rattle.lapjv_scan.proofs.scan_row.Goals as goal
use Rattle.lapjv_scan.proofs.scan_row.Goals.{After-index-d-j, In-loop-k, Joined-is_less, else-is_less, then-is_less+else-is_same, then-is_less+then-is_same+else-free_at}

-- the column at k
at_k : (g : _) (c : In-loop-k g) → num_at c.loop-k.cols c.loop-k.k < c.args.n
at_k g c = c.loop-k.invariant.1.apart.below c.loop-k.k c.loop-k-test.true

in_d : (g : _) (c : In-loop-k g) → num_at c.loop-k.cols c.loop-k.k < length c.loop-k.d
in_d g c = omega (arith, at_k g c, c.loop-k.invariant.1.len_d)

pub loop-k-init : goal.loop-k-init
loop-k-init g c =
    let a = c.args in
    let p = c.requires in
    (omega arith, record { hi-k = omega arith; len_d = p.3; len_pred = p.5; apart = p.4 }, (λ lo. sym (walk_none _ _ _)), λ lo. tries-first (ops g.C.Cost.on) a.n a.cost.now a.y.now a.v.now a.i a.h a.mind a.from _)

pub reduced_cost-requires : goal.reduced_cost-requires
reduced_cost-requires g c = let p = c.requires in (p.0, p.1, at_k g (goal.at.reduced_cost-requires g c).In-loop-k, p.7, p.8, p.9)

pub minus-c-requires : goal.minus-c-requires
minus-c-requires g c =
    let a = c.args in
    let p = c.requires in
    (rw c.reduced_cost.ensures (g.C.Cost.laws.reduced_small a.n a.cost.now a.v.now p.8 p.9 a.i _ p.1 (at_k g (goal.at.minus-c-requires g c).In-loop-k)), p.10)

pub offset_bounds-d-j : goal.offset_bounds-d-j
offset_bounds-d-j g c = let h = in_d g (goal.at.offset_bounds-d-j g c).In-loop-k in search rules

pub bounds-d-j : goal.bounds-d-j
bounds-d-j g c = in_d g (goal.at.bounds-d-j g c).In-loop-k

pub offset_bounds-d-j-then-is_less : goal.offset_bounds-d-j-then-is_less
offset_bounds-d-j-then-is_less g c = let h = in_d g (goal.at.offset_bounds-d-j-then-is_less g c).In-loop-k in search rules

pub bounds-d-j-then-is_less : goal.bounds-d-j-then-is_less
bounds-d-j-then-is_less g c = in_d g (goal.at.bounds-d-j-then-is_less g c).In-loop-k

pub offset_bounds-pred-j : goal.offset_bounds-pred-j
offset_bounds-pred-j g c = omega (arith, at_k g (goal.at.offset_bounds-pred-j g c).In-loop-k, c.requires.0.most)

pub bounds-pred-j : goal.bounds-pred-j
bounds-pred-j g c = omega (arith, at_k g (goal.at.bounds-pred-j g c).In-loop-k, c.loop-k.invariant.1.len_pred)

pub free_at-requires : goal.free_at-requires
free_at-requires g c = let h = at_k g (goal.at.free_at-requires g c).In-loop-k in (omega (arith, c.requires.6), omega (arith, c.requires.0.most))

-- the distance that a column has
distance : (g : _) (c : After-index-d-j g) → c.index-d-j.result ≡ val_at (ops g.C.Cost.on) c.loop-k.d (num_at c.loop-k.cols c.loop-k.k)
distance g c = get_or_read_under c.loop-k.d _ c.args.n _ _ c.index-d-j.is (c.loop-k.invariant.1.apart.below c.loop-k.k c.loop-k-test.true) (sym c.loop-k.invariant.1.len_d)

pub returns-then-free_at : goal.returns-then-free_at
unfolding scan_row scan_row_reads
returns-then-free_at g c =
    let a = c.args in
    let l = c.loop-k in
    let O = ops g.C.Cost.on in
    let f = scan_step O a.n a.cost.now a.y.now a.v.now a.i a.h a.mind in
    let k : O.C = cost_at O a.n a.cost.now a.i (num_at l.cols l.k) in
    let ec = c.minus-c.ensures ∙ ap (λ (r : O.C). O.sub r a.h) c.reduced_cost.ensures in
    let old = distance g (goal.at.returns-then-free_at g c).After-index-d-j in
    λ lo.
    let s₀ : Scan O.C = record { lo = lo; hi = a.from; d = a.d.now; cols = a.cols.now; pred = a.pred.now; found = free } in
    let s : Scan O.C = record { lo = lo; hi = l.hi; d = l.d; cols = l.cols; pred = l.pred; found = free } in
    let e : f l.k s ≡ _ = scan-found O a.n a.cost.now a.y.now a.v.now a.i a.h a.mind l.k s k refl refl (rw (ec, old) at (sym c.if-is_less.ensures)) (rw ec at (sym c.if-is_same.ensures)) (sym c.if-free_at.ensures) in
    let w : walk f a.from (l.k + 1) s₀ ≡ _ = walk_more f a.from l.k _ l.invariant.0 ∙ ap (f l.k) (sym (l.invariant.2 lo)) ∙ e in (
      walk-stop f a.from (l.k + 1) a.n _ _ (omega arith) (omega arith) (λ i. found-fixed O a.n a.cost.now a.y.now a.v.now a.i a.h a.mind i _ refl) (w ∙ scan≡ refl refl (ap (set l.d (num_at l.cols l.k)) (sym ec)) refl refl refl),
      sym (tries-found O a.n a.cost.now a.y.now a.v.now a.i a.h a.mind a.from s₀ l.k l.invariant.0 _ (l.invariant.2 lo) refl (l.invariant.3 lo) (omega arith) _ w refl),
    )

next : (g : _) (c : Joined-is_less g) (lo : ℕ) →
    let arg = c.args in
    let cur = c.loop-k in
    record { lo = lo; hi = c.if-is_less.hi; d = c.if-is_less.d; cols = c.if-is_less.cols; pred = c.if-is_less.pred; found = free } ≡ scan_step (ops g.C.Cost.on) arg.n arg.cost.now arg.y.now arg.v.now arg.i arg.h arg.mind cur.k (record { lo = lo; hi = cur.hi; d = cur.d; cols = cur.cols; pred = cur.pred; found = free })
next g c lo =
    let a = c.args in
    let l = c.loop-k in
    let O = ops g.C.Cost.on in
    let s : Scan O.C = record { lo = lo; hi = l.hi; d = l.d; cols = l.cols; pred = l.pred; found = free } in
    let k : O.C = cost_at O a.n a.cost.now a.i (num_at l.cols l.k) in
    let ec = c.minus-c.ensures ∙ ap (λ (r : O.C). O.sub r a.h) c.reduced_cost.ensures in
    let old : c.index-d-j.result ≡ val_at O l.d (num_at l.cols l.k) = get_or_read_under l.d _ a.n _ _ c.index-d-j.is (l.invariant.1.apart.below l.k c.loop-k-test.true) (sym l.invariant.1.len_d) in
    elim c.if-is_less.branch [
      | then-is_less+then-is_same+else-free_at w ↦ scan≡ refl w.hi-is (w.d-is ∙ ap (set l.d (num_at l.cols l.k)) ec) w.cols-is w.pred-is refl ∙ sym (scan-join O a.n a.cost.now a.y.now a.v.now a.i a.h a.mind l.k s k refl refl (rw (ec, old) at (sym w.if-is_less.ensures)) (rw ec at (sym w.if-is_same.ensures)) (sym w.if-free_at.ensures))
      | then-is_less+else-is_same w ↦ scan≡ refl w.hi-is (w.d-is ∙ ap (set l.d (num_at l.cols l.k)) ec) w.cols-is w.pred-is refl ∙ sym (scan-lower O a.n a.cost.now a.y.now a.v.now a.i a.h a.mind l.k s k refl refl (rw (ec, old) at (sym w.if-is_less.ensures)) (rw ec at (sym w.if-is_same.ensures)))
      | else-is_less w ↦ scan≡ refl w.hi-is w.d-is w.cols-is w.pred-is refl ∙ sym (scan-skip O a.n a.cost.now a.y.now a.v.now a.i a.h a.mind l.k s k refl refl (rw (ec, old) at (sym w.if-is_less.ensures)))
    ]

pub loop-k-preserved : goal.loop-k-preserved
loop-k-preserved g c =
    let a = c.args in
    let p = c.requires in
    let l = c.loop-k in
    let O = ops g.C.Cost.on in
    let f = scan_step O a.n a.cost.now a.y.now a.v.now a.i a.h a.mind in
    let e : (lo : ℕ) → _ = λ lo. next g (goal.at.loop-k-preserved g c).Joined-is_less lo ∙ ap (f l.k) (l.invariant.2 lo) ∙ sym (walk_more f a.from l.k _ l.invariant.0) in (
      omega (arith, l.invariant.0),
      subst (λ (s : Scan O.C). RowOk a.n (l.k + 1) s) (sym (e 0)) (row_ok O a.n a.cost.now a.y.now a.v.now a.i a.h a.mind a.from (l.k + 1) _ (omega (arith, l.invariant.0)) (omega (arith, c.loop-k-test.true)) (record { hi-k = omega arith; len_d = p.3; len_pred = p.5; apart = p.4 })),
      e,
      λ lo. tries-on O a.n a.cost.now a.y.now a.v.now a.i a.h a.mind a.from _ l.k l.invariant.0 _ (l.invariant.2 lo) refl (l.invariant.3 lo),
    )

pub returns : goal.returns
unfolding scan_row scan_row_reads
returns g c =
    let e : c.loop-k.k ≡ c.args.n = omega arith in
    λ lo. (sym (rw e at (c.loop-k.invariant.2 lo)), sym (rw e at (c.loop-k.invariant.3 lo)))
