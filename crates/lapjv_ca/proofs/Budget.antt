-- The turns that a `while` has left: where the budget isn't spent they fall with each turn, so that the loop itself ends. Assumes nothing.
use mathlib.Core.Path.{ap, refl, sym, ◌∙◌, ◌≡◌}
use mathlib.Core.Bool.{Bool, false, true}
use Prim.Native.Nat.{◌-◌, ◌<◌, suc, zero, ℕ, ◌≤◌}
use native.Mathlib.Omega.{arith}
use Rattle.lists.specs.Lists.{pick}
use Rattle.lapjv_walk.specs.Loops.{runs}
use Rattle.lapjv_walk.proofs.Cases.{not-both}
use Rattle.lapjv_walk.proofs.Loops.{runs_done, runs-more}

module _ {S : Type 0} (more : S → Bool) (f : S → S) where
  unfoldable pub turns_left : ℕ → S → ℕ
  turns_left zero s = 0
  turns_left (suc m) s = pick (more s) (suc (turns_left m (f s))) 0

  left-more : (m : ℕ) (s : S) → more s ≡ true → turns_left (suc m) s ≡ suc (turns_left m (f s))
  unfolding turns_left
  left-more m s e = rw e

  left-done : (m : ℕ) (s : S) → more s ≡ false → turns_left m s ≡ 0
  unfolding turns_left
  left-done zero s e = refl
  left-done (suc m) s e = rw e

  -- a larger budget leaves no more turns
  left-same : (m k : ℕ) (s : S) → m ≤ k → more (runs more f m s) ≡ false → turns_left k s ≡ turns_left m s
  left-same zero k s h e = left-done k s (unfold runs in e) ∙ sym (left-done zero s (unfold runs in e))
  left-same (suc m) zero s h e = absurd (omega arith)
  left-same (suc m) (suc k) s h e = go (more s) refl (λ d. left-same m k (f s) (omega arith) (ap more (sym (runs-more more f m s d)) ∙ e))
    where
      go : (b : Bool) → more s ≡ b → (more s ≡ true → turns_left k (f s) ≡ turns_left m (f s)) → turns_left (suc k) s ≡ turns_left (suc m) s
      go false d r = left-done (suc k) s d ∙ sym (left-done (suc m) s d)
      go true d r = left-more k s d ∙ ap suc (r d) ∙ sym (left-more m s d)

  -- from s, turns within the budget n lead to t
  pub record Leads (n : ℕ) (t s : S) : Type 0 where
    pub left : ℕ
    pub within : left ≤ n
    pub same : runs more f left s ≡ t

  pub leads-end : (n : ℕ) (t s : S) → Leads n t s → more s ≡ false → t ≡ s
  leads-end n t s l e = sym l.same ∙ runs_done more f l.left s e

  module _ (n : ℕ) (t s : S) (l : Leads n t s) (over : more t ≡ false) (e : more s ≡ true) where
    some_left : (m : ℕ) → runs more f m s ≡ t → 0 < m
    unfolding runs
    some_left zero z = not-both (more s) e (ap more z ∙ over)
    some_left (suc m) z = omega arith

    rest : runs more f (l.left - 1) (f s) ≡ t
    rest =
        let z : l.left ≡ suc (l.left - 1) = omega (arith, some_left l.left l.same) in
        sym (runs-more more f (l.left - 1) s e) ∙ rw z at l.same

    pub leads-on : Leads n t (f s)
    leads-on = record { left = l.left - 1; within = omega (arith, l.within); same = rest }

    pub leads-less : turns_left n (f s) < turns_left n s
    leads-less =
        let h = some_left l.left l.same in
        let w = l.within in
        let z : n ≡ suc (n - 1) = omega arith in
        let a : turns_left n s ≡ suc (turns_left (n - 1) (f s)) = ap (λ (m : ℕ). turns_left m s) z ∙ left-more (n - 1) s e in
        let o : more (runs more f (l.left - 1) (f s)) ≡ false = ap more rest ∙ over in
        let b : turns_left n (f s) ≡ turns_left (l.left - 1) (f s) = left-same (l.left - 1) n (f s) (omega arith) o in
        let d : turns_left (n - 1) (f s) ≡ turns_left (l.left - 1) (f s) = left-same (l.left - 1) (n - 1) (f s) (omega arith) o in
        omega arith
