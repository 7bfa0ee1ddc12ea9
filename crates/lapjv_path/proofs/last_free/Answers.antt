-- `lapjv_path::last_free` meets its contract.
use mathlib.Core.Path.{ap, sym, ◌∙◌, ◌≡◌}
use mathlib.Core.List.{List}
use Prim.Native.Nat.{ℕ}
use lib.IntN.{pos, ℤ}
use native.Mathlib.Omega.{arith}
use Rattle.lists.specs.Lists.{pick}
use Rattle.lapjv_walk.specs.Marks.{free, is_free, mark_at, mark_of, num_at}
use Rattle.lapjv_walk.specs.Path.{last_free}
use Rattle.lapjv_walk.proofs.Loops.{walk_more, walk_none}
use Rattle.lapjv_path.proofs.last_free.Goals as goal
use Rattle.lapjv_path.proofs.last_free.Goals.{else-free_at, then-free_at}

abbrev step : List ℕ → List ℤ → ℕ → ℤ → ℤ
step cols y i r = pick (is_free (mark_at y (num_at cols i))) (pos (num_at cols i)) r

pub loop-k-init : goal.loop-k-init
loop-k-init c = (omega arith, sym (walk_none _ _ _))

pub loop-k-preserved : goal.loop-k-preserved
loop-k-preserved c =
    let a = c.args in
    let l = c.loop-k in
    let f : ℕ → ℤ → ℤ = step a.cols.now a.y.now in
    let turn : mark_of c.if-free_at.found ≡ f l.k (mark_of l.found) =
    elim c.if-free_at.branch [
      | then-free_at w ↦ ap mark_of w.found-is ∙ rw (sym w.if-free_at.ensures)
      | else-free_at w ↦ ap mark_of w.found-is ∙ rw (sym w.if-free_at.ensures)
    ] in
    (omega (arith, l.invariant.0), turn ∙ ap (f l.k) l.invariant.1 ∙ sym (walk_more f a.lo l.k free l.invariant.0))

pub returns : goal.returns
unfolding last_free
returns c =
    let e : c.loop-k.k ≡ c.args.hi = omega arith in
    rw e at c.loop-k.invariant.1
