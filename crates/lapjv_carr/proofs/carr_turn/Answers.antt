-- `lapjv_carr::carr_turn` meets its contract.
use mathlib.Core.Path.{ap, refl, subst, sym, ◌∙◌, ◌≡◌}
use Prim.Native.Nat.{◌*◌, ◌+◌, ◌<◌, ℕ, ◌≤◌}
use borrow.Author.Tests.{le-ltb, lt-ltb}
use lib.ListN.{get_or, length, set}
use native.Mathlib.Nat.{mul-le-mul_right}
use native.Mathlib.Omega.{arith}
use Rattle.std.proofs.Common.{Some, rules}
use Rattle.std.proofs.lemmas.List.{get_or_read_under}
use Rattle.lapjv_walk.specs.Carr.{Carr, Two}
use Rattle.lapjv_walk.specs.Marks.{is_free, mark_of}
use Rattle.lapjv_walk.specs.Ops.{val_at}
use Rattle.lapjv_walk.proofs.Carr.{two_ok, TwoOk}
use Rattle.lapjv_walk.proofs.Cases.{seat-below}
use Rattle.lapjv_walk.proofs.Cells.{cells}
use Rattle.lapjv_walk.proofs.Turns.{carr-alone, carr-late, carr-lower, carr-open, carr-second, carr≡}
use Rattle.costs.specs.OpsOn.{ops}
use Rattle.lapjv_carr.proofs.SeatAny.{seat-any}
use Rattle.lapjv_carr.proofs.carr_turn.Goals as goal
use Rattle.lapjv_carr.proofs.carr_turn.Goals.{After-two_best-best, After-lowered-lower, then-round-current+else-is_less+then-not-free_at+in_default, then-round-current+else-is_less+else-not-free_at, else-round-current}

up : {a b : ℕ} → a < b → a + 1 ≤ b
up h = omega arith

-- what the two best are
abbrev best : (g : _) (c : After-two_best-best g) → Two (ops g.C.Cost.on).C
best g c = let r = c.two_best-best.result in record { j1 = r.j1; j2 = mark_of r.j2; v1 = r.v1; v2 = r.v2 }

good : (g : _) (c : After-two_best-best g) → TwoOk (ops g.C.Cost.on) c.args.n c.args.cost.now c.requires.0.some 0 (best g c)
good g c = let O = ops g.C.Cost.on in subst (λ (z : Two O.C). TwoOk O c.args.n c.args.cost.now c.requires.0.some 0 z) c.two_best-best.ensures (two_ok O c.args.n c.args.cost.now c.requires.0.some 0 _ _)

j1-n : (g : _) (c : After-two_best-best g) → c.two_best-best.result.j1 < c.args.n
j1-n g c = (good g c).0

in_v : (g : _) (c : After-two_best-best g) → c.two_best-best.result.j1 < length c.args.v.now
in_v g c = let f = j1-n g c in let p = c.requires.7 in omega arith

old : (g : _) (c : After-two_best-best g) (r : g.row.C.Denot) → r ≡ get_or c.args.v.now c.two_best-best.result.j1 r → r ≡ val_at (ops g.C.Cost.on) c.args.v.now c.two_best-best.result.j1
old g c r e = get_or_read_under c.args.v.now c.two_best-best.result.j1 c.args.n r _ e (j1-n g c) (sym c.requires.7)

pub offset_bounds-v-j1 : goal.offset_bounds-v-j1
offset_bounds-v-j1 g c = let l : c.two_best-best.result.j1 < length c.args.v.now = in_v g (goal.at.offset_bounds-v-j1 g c).After-two_best-best in search rules

pub bounds-v-j1 : goal.bounds-v-j1
bounds-v-j1 g c = in_v g (goal.at.bounds-v-j1 g c).After-two_best-best

pub lowered-lower-requires : goal.lowered-lower-requires
lowered-lower-requires g c =
    let a = c.args in
    let p = c.requires in
    let l = g.C.Cost.laws in
    let s = (goal.at.lowered-lower-requires g c).After-two_best-best in
    let O = ops g.C.Cost.on in (
      rw (old g s _ c.index-v-j1.is) (l.price_small a.n a.v.now p.9 c.two_best-best.result.j1 (j1-n g s)),
      subst (λ (z : Two O.C). g.C.Cost.Small z.v2) c.two_best-best.ensures (l.second_small a.n a.cost.now a.v.now p.8 p.9 p.0.some _ p.3),
      subst (λ (z : Two O.C). g.C.Cost.Small z.v1) c.two_best-best.ensures (l.best_small a.n a.cost.now a.v.now p.8 p.9 p.0.some _ p.3),
    )

pub overflow_mul-current : goal.overflow_mul-current
overflow_mul-current g c = let a = c.args in let p = c.requires in omega (arith, cells a.n p.0.most, mul-le-mul_right a.n (up p.1))

pub offset_bounds-v-j1-then-is_less : goal.offset_bounds-v-j1-then-is_less
offset_bounds-v-j1-then-is_less g c = let l : c.two_best-best.result.j1 < length c.args.v.now = in_v g (goal.at.offset_bounds-v-j1-then-is_less g c).After-two_best-best in search rules

pub bounds-v-j1-then-is_less : goal.bounds-v-j1-then-is_less
bounds-v-j1-then-is_less g c = in_v g (goal.at.bounds-v-j1-then-is_less g c).After-two_best-best

pub seat-requires : goal.seat-requires
seat-requires g c = let p = c.requires in (p.0.most, p.3, j1-n g (goal.at.seat-requires g c).After-two_best-best, p.1, p.2, p.4, p.5, p.6)

pub returns-then-is_less : goal.returns-then-is_less
returns-then-is_less g c =
    let arg = c.args in
    let O = ops g.C.Cost.on in
    let s = (goal.at.returns-then-is_less g c).After-two_best-best in
    let b : Two O.C = best g s in
    let e = old g s _ c.index-v-j1.is in
    λ t et.
    let s : Carr O.C = record { rows = arg.rows.now; current = arg.turn.current; fresh = arg.turn.fresh; turn = t; x = arg.x.now; y = arg.y.now; v = arg.v.now } in
    carr-lower O arg.n arg.cost.now s b c.two_best-best.ensures (lt-ltb (t + 1) ((arg.turn.current + 1) * arg.n) (rw et c.if-round-current.true)) (rw (c.lowered-lower.ensures, e) at (sym c.if-is_less.ensures))
    ∙ seat-any _ _ _ _ s (c.seat.ensures t) ∙ carr≡ refl refl refl et refl refl (ap (set arg.v.now b.j1) (sym (rw e at c.lowered-lower.ensures)))

pub free_at-requires : goal.free_at-requires
free_at-requires g c = let f = j1-n g (goal.at.free_at-requires g c).After-two_best-best in let p = c.requires in (omega (arith, p.6.len), omega (arith, p.0.most))

pub seat-requires-in-Some : goal.seat-requires-in-Some
seat-requires-in-Some g c =
    let p = c.requires in
    let s = (goal.at.seat-requires-in-Some g c).After-two_best-best in
    (p.0.most, p.3, seat-below c.args.n (mark_of c.two_best-best.result.j2) c.in-Some.j (ap mark_of c.in-Some.is) (good g s).1, p.1, p.2, p.4, p.5, p.6)

pub returns-in-Some : goal.returns-in-Some
returns-in-Some g c =
    let arg = c.args in
    let O = ops g.C.Cost.on in
    let q = (goal.at.returns-in-Some g c).After-two_best-best in
    let e = old g q _ c.index-v-j1.is in
    let m = ap mark_of c.in-Some.is in
    λ t et.
    let s : Carr O.C = record { rows = arg.rows.now; current = arg.turn.current; fresh = arg.turn.fresh; turn = t; x = arg.x.now; y = arg.y.now; v = arg.v.now } in
    let b : Two O.C = record { j1 = c.two_best-best.result.j1; j2 = mark_of (Some c.in-Some.j); v1 = c.two_best-best.result.v1; v2 = c.two_best-best.result.v2 } in
    carr-second O arg.n arg.cost.now s b (rw m at c.two_best-best.ensures) (lt-ltb (t + 1) ((arg.turn.current + 1) * arg.n) (rw et c.if-round-current.true)) (rw (c.lowered-lower.ensures, e) at (sym c.if-is_less.ensures)) (sym c.free_at.ensures ∙ c.if-not-free_at.true) refl
    ∙ seat-any _ _ _ arg.v.now s (c.seat-in-Some.ensures t) ∙ carr≡ refl refl refl et refl refl refl

pub seat-requires-2 : goal.seat-requires-2
seat-requires-2 g c = let p = c.requires in (p.0.most, p.3, j1-n g (goal.at.seat-requires-2 g c).After-two_best-best, p.1, p.2, p.4, p.5, p.6)

pub returns : goal.returns
returns g c =
    let arg = c.args in
    let O = ops g.C.Cost.on in
    let q = (goal.at.returns g c).After-two_best-best in
    let b : Two O.C = best g q in
    let e = old g q _ c.index-v-j1.is in
    λ t et.
    let s : Carr O.C = record { rows = arg.rows.now; current = arg.turn.current; fresh = arg.turn.fresh; turn = t; x = arg.x.now; y = arg.y.now; v = arg.v.now } in
    let two_are = c.two_best-best.ensures in
    elim c.if-round-current.branch [
      | then-round-current+else-is_less+then-not-free_at+in_default w ↦ carr-alone O arg.n arg.cost.now s b two_are (lt-ltb (t + 1) ((arg.turn.current + 1) * arg.n) (rw et w.if-round-current.true)) (rw (c.lowered-lower.ensures, e) at (sym w.if-is_less.ensures)) (sym w.free_at.ensures ∙ w.if-not-free_at.true) (ap is_free (ap mark_of w.in_default.is))
      | then-round-current+else-is_less+else-not-free_at w ↦ carr-open O arg.n arg.cost.now s b two_are (lt-ltb (t + 1) ((arg.turn.current + 1) * arg.n) (rw et w.if-round-current.true)) (rw (c.lowered-lower.ensures, e) at (sym w.if-is_less.ensures)) (sym w.free_at.ensures ∙ w.if-not-free_at.false)
      | else-round-current w ↦ carr-late O arg.n arg.cost.now s b two_are (le-ltb (t + 1) ((arg.turn.current + 1) * arg.n) (rw et w.if-round-current.false))
    ]
    ∙ seat-any _ _ _ arg.v.now s (c.seat-2.ensures t) ∙ carr≡ refl refl refl et refl refl refl
