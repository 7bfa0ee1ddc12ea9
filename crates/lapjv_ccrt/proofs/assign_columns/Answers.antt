-- `lapjv_ccrt::assign_columns` meets its contract.
use mathlib.Core.Path.{ap, refl, subst, sym, ◌∙◌, ◌≡◌}
use Prim.Native.Nat.{◌+◌, ◌-◌, ◌<◌, ◌≤◌, suc, ℕ}
use native.Mathlib.Omega.{arith}
use Rattle.lapjv_walk.specs.Ccrt.{Assign, assign_from, assign_step}
use Rattle.lapjv_walk.specs.Holds.{AssignOk}
use Rattle.lapjv_walk.specs.Loops.{walk}
use Rattle.lapjv_walk.proofs.Assign.{assign-step}
use Rattle.lapjv_walk.proofs.Ccrt.{assign-clear, assign-take, assign≡}
use Rattle.lapjv_walk.proofs.Loops.{walk_more, walk_none}
use Rattle.lapjv_ccrt.proofs.assign_columns.Goals as goal

pub loop-j-init : goal.loop-j-init
loop-j-init c = (c.requires.1, rw (native.Mathlib.Nat.sub_self c.args.n) (sym (walk_none _ _ _)))

-- a turn at column k - 1 brings the walk one column down
more : (n k : ℕ) (a s t : Assign) → 0 < k → k ≤ n → AssignOk n k s → s ≡ walk (λ (q : ℕ) (r : Assign). assign_step (n - suc q) r) 0 (n - k) a → assign_step (k - 1) s ≡ t
    → AssignOk n (k - 1) t × (t ≡ walk (λ (q : ℕ) (r : Assign). assign_step (n - suc q) r) 0 (n - (k - 1)) a)
more n k a s t some most o is e =
    let g : ℕ → Assign → Assign = λ q r. assign_step (n - suc q) r in
    let ej : k - 1 + 1 ≡ k = omega arith in
    let en : n - (k - 1) ≡ n - k + 1 = omega arith in
    let es : n - suc (n - k) ≡ k - 1 = omega arith in (
      subst (λ (z : Assign). AssignOk n (k - 1) z) e (assign-step n (k - 1) s (omega arith) (rw ej o)),
      rw en (sym e ∙ ap (λ (z : ℕ). assign_step z s) (sym es) ∙ ap (g (n - k)) is ∙ sym (walk_more g 0 (n - k) a (omega arith))),
    )

pub loop-j-preserved-then-free_at : goal.loop-j-preserved-then-free_at
loop-j-preserved-then-free_at c =
    let l = c.loop-j in
    let s : Assign = record { x = l.x; y = l.y; unique = l.unique } in
    more c.args.n l.j _ s _ (omega arith) (omega arith) l.invariant.0 l.invariant.1
    (assign-take (l.j - 1) s c.index_at-i.result c.index_at-i.ensures (sym c.free_at.ensures ∙ c.if-free_at.true) ∙ assign≡ (sym c.put_mark.ensures) refl refl)

pub loop-j-preserved : goal.loop-j-preserved
loop-j-preserved c =
    let l = c.loop-j in
    let s : Assign = record { x = l.x; y = l.y; unique = l.unique } in
    more c.args.n l.j _ s _ (omega arith) (omega arith) l.invariant.0 l.invariant.1
    (assign-clear (l.j - 1) s c.index_at-i.result c.index_at-i.ensures (sym c.free_at.ensures ∙ c.if-free_at.false) ∙ assign≡ refl (sym c.clear_mark.ensures) refl)

pub returns : goal.returns
unfolding assign_from
returns c =
    let e : c.args.n - c.loop-j.j ≡ c.args.n = omega arith in
    sym (rw e at c.loop-j.invariant.1)
