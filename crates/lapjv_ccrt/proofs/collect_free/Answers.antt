-- `lapjv_ccrt::collect_free` meets its contract.
use mathlib.Core.Path.{ap, subst, sym, ◌∙◌, ◌≡◌}
use Prim.Native.Nat.{◌*◌, ◌+◌, ◌<◌, ◌≤◌, ℕ}
use mathlib.Core.Bool.{false}
use mathlib.Core.List.{List}
use lib.IntN.{ℤ}
use lib.ListN.{set}
use native.Mathlib.Nat.{mul-le-mul}
use native.Mathlib.Omega.{arith}
use Rattle.std.proofs.lemmas.List.{get_or_read_under}
use Rattle.lapjv_walk.specs.Ccrt.{Collect, collect_step}
use Rattle.lapjv_walk.specs.Holds.{Marked}
use Rattle.lapjv_walk.specs.Marks.{index, is_free, mark_at}
use Rattle.lapjv_walk.specs.Ops.{val_at}
use Rattle.lapjv_walk.specs.Reads.{alone_reads, collect_reads}
use Rattle.lapjv_walk.proofs.Loops.{walk_more, walk_none}
use Rattle.lapjv_walk.proofs.Most.{collect-most}
use Rattle.costs.specs.OpsOn.{ops}
use Rattle.lapjv_ccrt.proofs.Collect.{collect-alone, collect-free, collect-other, collect≡, alone-reads, free-reads, other-reads}
use Rattle.lapjv_ccrt.proofs.collect_free.Goals as goal
use Rattle.lapjv_ccrt.proofs.collect_free.Goals.{After-index-v-j, Joined-free_at, else-free_at+else-unique-i, else-free_at+then-unique-i, then-free_at}

pub loop-i-init : goal.loop-i-init
loop-i-init g c = (omega arith, sym (walk_none _ _ _), sym (walk_none _ 0 0))

-- the row's column is in range
column : (n : ℕ) (x : List ℤ) (i j : ℕ) → Marked n x → i < n → is_free (mark_at x i) ≡ false → j ≡ index (mark_at x i) → j < n
column n x i j m h e ej = let s = m.seat i h e in rw (ej, ap index s.is) s.below

pub minus-requires : goal.minus-requires
minus-requires g c =
    let a = c.args in
    let p = c.requires in
    let l = c.loop-i in
    let O = ops g.C.Cost.on in
    let j : ℕ = c.index_at-j.result in
    let hi = c.loop-i-test.true in
    let hj : j < a.n = column a.n a.x.now l.i j p.3 hi (sym c.if-free_at.ensures) c.index_at-j.ensures in
    let ps : g.C.Cost.Prices a.n l.v = subst (λ (t : Collect O.C). g.C.Cost.Prices a.n t.v) (sym l.invariant.1) (p.6 l.i (omega arith)) in
    let old : c.index-v-j.result ≡ val_at O l.v j = get_or_read_under l.v j a.n _ _ c.index-v-j.is hj (omega (arith, p.4, l.auto.v)) in
    (rw old (g.C.Cost.laws.price_small a.n l.v ps j hj), rw c.other_min-min.ensures (g.C.Cost.laws.least_small a.n a.cost.now l.v p.5 ps l.i j hi))

pub overflow_add-reads : goal.overflow_add-reads
overflow_add-reads g c =
    let a = c.args in
    let l = c.loop-i in
    let h = c.loop-i-test.true in
    let m = c.requires.0.most in
    let row : l.i ≤ 64 = omega arith in
    let most : l.i * a.n ≤ 64 * 64 = mul-le-mul row m in
    omega (arith, l.invariant.2, collect-most a.n a.x.now a.unique.now l.i, most)

-- a row's turn, in each of its three cases
turn : (g : _) (c : Joined-free_at g) → (c.if-free_at.count ≤ c.loop-i.i + 1)
    × (record { rows = c.if-free_at.rows; count = c.if-free_at.count; v = c.if-free_at.v } ≡ collect_step (ops g.C.Cost.on) c.args.n c.args.cost.now c.args.x.now c.args.unique.now c.loop-i.i (record { rows = c.loop-i.rows; count = c.loop-i.count; v = c.loop-i.v }))
    × (c.if-free_at.reads ≡ c.loop-i.reads + alone_reads c.args.n c.args.x.now c.args.unique.now c.loop-i.i)
turn g c =
    let a = c.args in
    let l = c.loop-i in
    let O = ops g.C.Cost.on in
    let s : Collect O.C = record { rows = l.rows; count = l.count; v = l.v } in
    let free : c.free_at.result ≡ is_free (mark_at a.x.now l.i) = c.free_at.ensures in
    let p = c.requires in
    let h = c.loop-i-test.true in
    elim c.if-free_at.branch [
      | then-free_at w ↦ (
        omega (arith, w.count-is, l.invariant.0),
        collect≡ w.rows-is w.count-is w.v-is ∙ sym (collect-free O a.n a.cost.now a.x.now a.unique.now l.i s (sym free ∙ w.if-free_at.true)),
        omega (arith, w.reads-is, free-reads a.n a.x.now a.unique.now l.i (sym free ∙ w.if-free_at.true)),
      )
      | else-free_at+then-unique-i w ↦ (
        omega (arith, w.count-is, l.invariant.0),
        collect≡ w.rows-is w.count-is (w.v-is ∙ ap (set l.v w.index_at-j.result) (w.minus.ensures ∙ ap (λ (r : O.C). g.C.Cost.on.sub r w.other_min-min.result) (get_or_read_under l.v w.index_at-j.result a.n _ _ w.index-v-j.is (column a.n a.x.now l.i w.index_at-j.result p.3 h (sym w.if-free_at.ensures) w.index_at-j.ensures) (omega (arith, p.4, l.auto.v))))) ∙ sym (collect-alone O a.n a.cost.now a.x.now a.unique.now l.i s w.index_at-j.result w.other_min-min.result (sym free ∙ w.if-free_at.false) w.if-unique-i.true w.index_at-j.ensures w.other_min-min.ensures),
        w.reads-is ∙ ap (λ (k : ℕ). l.reads + k) (sym (alone-reads a.n a.x.now a.unique.now l.i (sym free ∙ w.if-free_at.false) w.if-unique-i.true)),
      )
      | else-free_at+else-unique-i w ↦ (
        omega (arith, w.count-is, l.invariant.0),
        collect≡ w.rows-is w.count-is w.v-is ∙ sym (collect-other O a.n a.cost.now a.x.now a.unique.now l.i s (sym free ∙ w.if-free_at.false) w.if-unique-i.false),
        omega (arith, w.reads-is, other-reads a.n a.x.now a.unique.now l.i (sym free ∙ w.if-free_at.false) w.if-unique-i.false),
      )
    ]

pub loop-i-preserved : goal.loop-i-preserved
loop-i-preserved g c =
    let a = c.args in
    let l = c.loop-i in
    let O = ops g.C.Cost.on in
    let q = turn g (goal.at.loop-i-preserved g c).Joined-free_at in
    let f : ℕ → Collect O.C → Collect O.C = collect_step O a.n a.cost.now a.x.now a.unique.now in (
      q.0,
      q.1 ∙ ap (f l.i) l.invariant.1 ∙ sym (walk_more f 0 l.i _ (omega arith)),
      q.2 ∙ ap (λ (k : ℕ). k + alone_reads a.n a.x.now a.unique.now l.i) l.invariant.2 ∙ sym (walk_more (λ (k r : ℕ). r + alone_reads a.n a.x.now a.unique.now k) 0 l.i 0 (omega arith)),
    )

pub returns : goal.returns
unfolding collect_reads
returns g c =
    let e : c.loop-i.i ≡ c.args.n = omega arith in
    (sym (rw e at c.loop-i.invariant.1), rw e at c.loop-i.invariant.2)
