-- `lapjv_scan::scan_dense` meets its contract.
use mathlib.Core.Path.{ap, refl, subst, sym, ◌∙◌, ◌≡◌}
use mathlib.Core.Bool.{false, true}
use Prim.Native.Nat.{◌+◌, ◌<◌, ◌≤◌, ℕ}
use native.Mathlib.Omega.{arith}
use Rattle.std.proofs.lemmas.List.{get_or_read_under}
use Rattle.lapjv_walk.specs.Marks.{free, is_free, mark_of, num_at}
use Rattle.lapjv_walk.specs.Ops.{cost_at, val_at}
use Rattle.lapjv_walk.specs.Path.{Scan, scan_turn}
use Rattle.lapjv_walk.specs.Reads.{scan_turn_reads}
use Rattle.lapjv_walk.proofs.Search.{more_yes, scan≡}
use Rattle.costs.specs.OpsOn.{ops}
use Rattle.lapjv_scan.proofs.Counts.{count-done, count-first, count-found, count-on, count_small, turn-reads}
use Rattle.lapjv_scan.proofs.Scans.{lo_hi, next-column, next_row, scans-done, scans-first, scans-found, scans-on, turn_is}
use Rattle.lapjv_scan.proofs.scan_dense.Goals as goal
use Rattle.lapjv_scan.proofs.scan_dense.Goals.{After-reduced_cost, After-scan_row-s}

-- the column at lo and its row
column : (g : _) (c : After-reduced_cost g) → num_at c.loop-lo.cols c.loop-lo.lo < c.args.n
column g c = next-column (ops g.C.Cost.on) c.args.n c.args.cost.now c.args.y.now c.args.v.now _ _ c.loop-lo.invariant.0 c.requires.1 c.loop-lo-test.true

row : (g : _) (c : After-reduced_cost g) → c.index_at-i.result < c.args.n
row g c = let s = next_row (ops g.C.Cost.on) c.args.n c.args.cost.now c.args.y.now c.args.v.now _ _ c.loop-lo.invariant.0 c.requires.1 c.loop-lo-test.true in rw (c.index_at-i.ensures, s.is) s.below

least : (g : _) (c : After-reduced_cost g) → c.index-d-j.result ≡ val_at (ops g.C.Cost.on) c.loop-lo.d (num_at c.loop-lo.cols c.loop-lo.lo)
least g c = get_or_read_under c.loop-lo.d _ c.args.n _ _ c.index-d-j.is (column g c) (sym c.loop-lo.invariant.0.held.len_d)

pub loop-lo-init : goal.loop-lo-init
loop-lo-init g c =
    let a = c.args in
    let O = ops g.C.Cost.on in
    (scans-first O a.n a.cost.now a.y.now a.v.now _ c.requires.3 refl, count-first O a.n a.cost.now a.y.now a.v.now _, c.requires.6)

pub minus-h-requires : goal.minus-h-requires
minus-h-requires g c =
    let a = c.args in
    let p = c.requires in
    let l = g.C.Cost.laws in
    let s = c in
    (rw c.reduced_cost.ensures (l.reduced_small a.n a.cost.now a.v.now p.4 (l.good_prices a.n a.cost.now a.y.now a.v.now p.5) _ _ (row g s) (column g s)), rw (least g s) (l.distance_small a.n c.loop-lo.d c.loop-lo.invariant.2 _ (column g s)))

pub scan_row-s-requires : goal.scan_row-s-requires
scan_row-s-requires g c =
    let a = c.args in
    let p = c.requires in
    let i = c.loop-lo.invariant in
    let h = i.0.held in
    let l = g.C.Cost.laws in
    let s = (goal.at.scan_row-s-requires g c).After-reduced_cost in
    let ps = l.good_prices a.n a.cost.now a.y.now a.v.now p.5 in
    (p.0, row g s, h.hi_n, h.len_d, h.apart, h.len_pred, p.1.len, p.2, p.4, ps, rw (c.minus-h.ensures, c.reduced_cost.ensures, least g s) (l.height_small a.n a.cost.now a.v.now c.loop-lo.d p.4 ps i.2 _ _ (row g s) (column g s)))

-- a turn, and what it reads
module _ (g : _) (c : After-scan_row-s g) where
  abbrev here : Scan (ops g.C.Cost.on).C
  here = let l = c.loop-lo in record { lo = l.lo; hi = l.hi; d = l.d; cols = l.cols; pred = l.pred; found = free }

  abbrev next : Scan (ops g.C.Cost.on).C
  next = let r = c.scan_row-s in record { lo = c.loop-lo.lo + 1; hi = r.result.hi; d = r.new.d; cols = r.new.cols; pred = r.new.pred; found = mark_of r.result.found }

  turn : (scan_turn (ops g.C.Cost.on) c.args.n c.args.cost.now c.args.y.now c.args.v.now here ≡ next) × (1 + c.scan_row-s.result.reads ≡ scan_turn_reads (ops g.C.Cost.on) c.args.n c.args.cost.now c.args.y.now c.args.v.now here)
  turn =
      let l = c.loop-lo in
      let a = c.args in
      let O = ops g.C.Cost.on in
      let i : ℕ = c.index_at-i.result in
      let j : ℕ = num_at l.cols l.lo in
      let old : c.index-d-j.result ≡ val_at O l.d j = get_or_read_under l.d j a.n _ _ c.index-d-j.is (next-column O a.n a.cost.now a.y.now a.v.now _ _ l.invariant.0 c.requires.1 c.loop-lo-test.true) (sym l.invariant.0.held.len_d) in
      let e = rw (c.minus-h.ensures, c.reduced_cost.ensures, old) at (c.scan_row-s.ensures (l.lo + 1)) in
      (turn_is O a.n a.cost.now a.y.now a.v.now here next i (cost_at O a.n a.cost.now i j) c.index_at-i.ensures refl e.0, turn-reads O a.n a.cost.now a.y.now a.v.now here i (cost_at O a.n a.cost.now i j) _ c.index_at-i.ensures refl e.1)

  most : c.loop-lo.reads + (1 + c.scan_row-s.result.reads) ≤ 4160
  most =
      let l = c.loop-lo in
      let a = c.args in
      let p = c.requires in
      let O = ops g.C.Cost.on in
      let low : l.lo < a.n = omega (arith, lo_hi O a.n a.cost.now a.y.now a.v.now _ _ l.invariant.0 p.1 c.loop-lo-test.true, l.invariant.0.held.hi_n) in
      count_small O a.n a.cost.now a.y.now a.v.now (record { lo = a.at; hi = a.end; d = a.d.now; cols = a.cols.now; pred = a.pred.now; found = free }) here l.reads l.invariant.1 low (more_yes here c.loop-lo-test.true refl) next turn.0 _ turn.1 p.0.most (omega (arith, p.3.lo_hi, p.3.hi_n))

pub overflow_add-reads : goal.overflow_add-reads
overflow_add-reads g c = omega (arith, most g (goal.at.overflow_add-reads g c).After-scan_row-s)

pub overflow_add-reads-in-loop-lo : goal.overflow_add-reads-in-loop-lo
overflow_add-reads-in-loop-lo g c = omega (arith, most g (goal.at.overflow_add-reads-in-loop-lo g c).After-scan_row-s)

pub returns-in-Some : goal.returns-in-Some
returns-in-Some g c =
    let a = c.args in
    let p = c.requires in
    let l = c.loop-lo in
    let O = ops g.C.Cost.on in
    let s = (goal.at.returns-in-Some g c).After-scan_row-s in
    let low : l.lo < a.n = omega (arith, lo_hi O a.n a.cost.now a.y.now a.v.now _ _ l.invariant.0 p.1 c.loop-lo-test.true, l.invariant.0.held.hi_n) in
    let m = ap mark_of c.in-Some.is in
    let found : is_free (mark_of c.scan_row-s.result.found) ≡ false = ap is_free m in
    let t = turn g s in
    (scans-found O a.n a.cost.now a.y.now a.v.now _ (here g s) l.invariant.0 p.1 c.loop-lo-test.true _ t.0 found ∙ scan≡ refl refl refl refl refl m, count-found O a.n a.cost.now a.y.now a.v.now _ (here g s) l.reads l.invariant.1 low (more_yes (here g s) c.loop-lo-test.true refl) _ t.0 _ t.1 found)

pub loop-lo-preserved : goal.loop-lo-preserved
loop-lo-preserved g c =
    let a = c.args in
    let p = c.requires in
    let l = c.loop-lo in
    let O = ops g.C.Cost.on in
    let s = (goal.at.loop-lo-preserved g c).After-scan_row-s in
    let lt = lo_hi O a.n a.cost.now a.y.now a.v.now _ _ l.invariant.0 p.1 c.loop-lo-test.true in
    let low : l.lo < a.n = omega (arith, lt, l.invariant.0.held.hi_n) in
    let none : is_free (mark_of c.scan_row-s.result.found) ≡ true = ap is_free (ap mark_of c.in_default.is) in
    let t = turn g s in (
      scans-on O a.n a.cost.now a.y.now a.v.now _ (here g s) l.invariant.0 p.1 c.loop-lo-test.true _ t.0 refl none,
      count-on O a.n a.cost.now a.y.now a.v.now _ (here g s) l.reads l.invariant.1 low (more_yes (here g s) c.loop-lo-test.true refl) _ t.0 _ t.1 refl (ap mark_of c.in_default.is),
      subst (λ (z : Scan O.C). g.C.Cost.Far a.n z.d) t.0 (g.C.Cost.laws.scan_far a.n a.cost.now a.y.now a.v.now p.5 p.1 (here g s) lt l.invariant.0.held l.invariant.2),
    )

pub returns : goal.returns
returns g c =
    let a = c.args in
    let l = c.loop-lo in
    let O = ops g.C.Cost.on in
    (scans-done O a.n a.cost.now a.y.now a.v.now _ _ l.invariant.0 c.loop-lo-test.false, count-done O a.n a.cost.now a.y.now a.v.now _ _ l.reads l.invariant.1 c.loop-lo-test.false)
