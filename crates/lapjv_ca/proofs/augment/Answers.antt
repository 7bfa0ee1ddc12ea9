-- `lapjv_ca::augment` meets its contract.
use mathlib.Core.Path.{ap, refl, sym, ◌∙◌, ◌≡◌}
use mathlib.Core.Bool.{true}
use Prim.Native.Nat.{◌<◌}
use borrow.Author.Tests.{eq-eqb, ne_eqb}
use lib.ListN.{length-set}
use native.Mathlib.Nat.{le_refl}
use native.Mathlib.Omega.{arith}
use Rattle.lapjv_walk.specs.Lapjv.{augment, hop, hop_more, Trail}
use Rattle.lapjv_walk.specs.Marks.{num_at}
use Rattle.lapjv_ca.proofs.Budget.{leads-end, leads-less, leads-on}
use Rattle.lapjv_ca.proofs.Ranged.{ranged-set, trail≡}
use Rattle.lapjv_ca.proofs.augment.Goals as goal
use Rattle.lapjv_ca.proofs.augment.Goals.{After-put_mark-in-loop-i, In-loop-i}

pub loop-i-init : goal.loop-i-init
unfolding augment
loop-i-init c = let p = c.requires in (p.2, p.5, p.6, record { left = c.args.n; within = le_refl c.args.n; same = refl })

-- the row before column j is one of n
row : (c : In-loop-i) → num_at c.args.pred.now c.loop-i.j < c.args.n
row c = c.requires.4 c.loop-i.j c.loop-i.invariant.0

pub put_mark-requires : goal.put_mark-requires
put_mark-requires c = let h = row (goal.at.put_mark-requires c).In-loop-i in let l = c.loop-i.invariant in (omega arith, omega arith, omega arith)

pub column_at-left-requires : goal.column_at-left-requires
column_at-left-requires c =
    let cur = c.loop-i in
    let h = row (goal.at.column_at-left-requires c).In-loop-i in let l = cur.invariant.1.len in (omega arith, omega arith)

pub put_mark-requires-in-loop-i : goal.put_mark-requires-in-loop-i
put_mark-requires-in-loop-i c =
    let cur = c.loop-i in
    let h = row (goal.at.put_mark-requires-in-loop-i c).In-loop-i in let l = cur.invariant in let x = l.1.len in (omega arith, omega arith, omega arith)

-- a turn of the code is a turn of the definition
turn : (c : After-put_mark-in-loop-i) →
    let arg = c.args in
    let cur = c.loop-i in
    hop arg.pred.now (record { row = cur.i; j = cur.j; x = cur.x; y = cur.y }) ≡ record { row = num_at arg.pred.now cur.j; j = c.column_at-left.result; x = c.put_mark-in-loop-i.new.y; y = c.put_mark.new.y }
unfolding hop
turn c = trail≡ refl (sym c.column_at-left.ensures) (sym c.put_mark-in-loop-i.ensures) (sym c.put_mark.ensures)

goes : (c : After-put_mark-in-loop-i) →
    let cur = c.loop-i in
    hop_more c.args.start (record { row = cur.i; j = cur.j; x = cur.x; y = cur.y }) ≡ true
unfolding hop_more
goes c =
    let arg = c.args in
    let cur = c.loop-i in
    rw (ne_eqb cur.i arg.start c.loop-i-test.true)

pub loop-i-smaller : goal.loop-i-smaller
loop-i-smaller c =
    let a = c.args in
    let l = c.loop-i in
    let p = c.requires in
    rw (turn (goal.at.loop-i-smaller c).After-put_mark-in-loop-i) at (leads-less (hop_more a.start) (hop a.pred.now) a.n _ _ l.invariant.3 p.7 (goes (goal.at.loop-i-smaller c).After-put_mark-in-loop-i))

pub loop-i-preserved : goal.loop-i-preserved
loop-i-preserved c =
    let arg = c.args in
    let pre = c.requires in
    let cur = c.loop-i in
    let a = arg in
    let l = cur in
    let p = pre in
    let h = row (goal.at.loop-i-preserved c).In-loop-i in
    (rw c.column_at-left.ensures (l.invariant.1.below _ h), rw c.put_mark-in-loop-i.ensures (ranged-set _ _ _ _ l.invariant.1 h l.invariant.0), rw c.put_mark.ensures (simp length-set l.invariant.2), rw (turn (goal.at.loop-i-preserved c).After-put_mark-in-loop-i) at (leads-on (hop_more a.start) (hop a.pred.now) a.n _ _ l.invariant.3 p.7 (goes (goal.at.loop-i-preserved c).After-put_mark-in-loop-i)))

pub shape_of-x : goal.shape_of-x
shape_of-x c = c.loop-i.invariant.1.len ∙ sym c.requires.5.len

pub shape_of-y : goal.shape_of-y
shape_of-y c = c.loop-i.invariant.2 ∙ sym c.requires.6

pub returns : goal.returns
unfolding hop_more
returns c =
    let a = c.args in
    let l = c.loop-i in
    let e = leads-end (hop_more a.start) (hop a.pred.now) a.n _ _ l.invariant.3 (rw (eq-eqb l.i a.start c.loop-i-test.false)) in
    (ap (λ (t : Trail). t.x) e, ap (λ (t : Trail). t.y) e)
