-- `ccrt_dense`, the rows left over: those with no column, each once. Assumes nothing.
use mathlib.Core.Path.{ap, sym, ◌∙◌, ◌≡◌}
use mathlib.Core.Bool.{Bool, false, true}
use mathlib.Core.List.{List}
use Prim.Native.Nat.{◌<◌, suc, ℕ, ◌≤◌}
use lib.IntN.{pos, ℤ}
use lib.ListN.{get_or, length, length-set, set}
use lib.Seq.{get_or-set_other, get_or-set_same}
use native.Mathlib.Decide.{ℕ_discrete}
use native.Mathlib.Nat.{le_refl}
use native.Mathlib.Omega.{arith}
use Rattle.lists.specs.Lists.{tab}
use Rattle.lists.proofs.Tab.{length-tab}
use Rattle.lapjv_walk.specs.Ccrt.{Assign, Collect, collect, collect_step}
use Rattle.lapjv_walk.specs.Marks.{is_free}
use Rattle.lapjv_walk.specs.Ops.{Ops}
use Rattle.lapjv_walk.proofs.Cases.{not-both, pick-by, pick_ind}
use Rattle.lapjv_walk.proofs.Loops.{walk-ind}

pub record CollectOk (n k : ℕ) (x : List ℤ) {C : Type 0} (s : Collect C) : Type 0 where
  pub count-k : s.count ≤ k
  pub len_rows : length s.rows ≡ n
  pub len_v : length s.v ≡ n
  pub below : (p : ℕ) → p < s.count → get_or s.rows p 0 < k
  pub inj : (p q : ℕ) → p < s.count → q < s.count → get_or s.rows p 0 ≡ get_or s.rows q 0 → p ≡ q
  pub sound : (p : ℕ) → p < s.count → is_free (get_or x (get_or s.rows p 0) (pos 0)) ≡ true
  pub complete : (i : ℕ) → i < k → is_free (get_or x i (pos 0)) ≡ true → (p : ℕ) × (p < s.count) × (get_or s.rows p 0 ≡ i)

module _ (O : Ops) (n : ℕ) (cost : List O.C) (x : List ℤ) (unique : List Bool) where
  skip : (k : ℕ) (s : Collect O.C) (v : List O.C) → is_free (get_or x k (pos 0)) ≡ false → length v ≡ n → CollectOk n k x s → CollectOk n (suc k) x (record { rows = s.rows; count = s.count; v = v })
  skip k s v e lv o = record {
    count-k = omega (arith, o.count-k);
    len_rows = o.len_rows;
    len_v = lv;
    below = λ p h. omega (arith, o.below p h);
    inj = o.inj;
    sound = o.sound;
    complete = λ i h f. elim (ℕ_discrete i k) [ yes r ↦ not-both (is_free (get_or x k (pos 0))) (rw r at f) e | no u ↦ o.complete i (omega arith) f ];
  }

  collect-step : (k : ℕ) (s : Collect O.C) → k < n → CollectOk n k x s → CollectOk n (suc k) x (collect_step O n cost x unique k s)
  unfolding collect_step
  collect-step k s hk o =
      let P : Collect O.C → Type 0 = λ t. CollectOk n (suc k) x t in
      let lr = o.len_rows in
      let ck = o.count-k in
      let here : get_or (set s.rows s.count k) s.count 0 ≡ k = get_or-set_same s.rows s.count k 0 (omega arith) in
      let other : (p : ℕ) → p < s.count → get_or (set s.rows s.count k) p 0 ≡ get_or s.rows p 0 = λ p h. get_or-set_other s.rows s.count p k 0 (omega arith) in
      pick-by P (is_free (get_or x k (pos 0))) _ _
      (λ e. record {
        count-k = omega arith;
        len_rows = simp length-set lr;
        len_v = o.len_v;
        below = λ p h. elim (ℕ_discrete p s.count) [ yes r ↦ rw (r, here) (omega arith) | no u ↦ rw (other p (omega arith)) (omega (arith, o.below p (omega arith))) ];
        inj = λ p q hp hq r. elim (ℕ_discrete p s.count) [
          | yes a ↦ elim (ℕ_discrete q s.count) [
            | yes b ↦ a ∙ sym b
            | no b ↦ absurd (omega (arith, o.below q (omega arith), sym here ∙ ap (λ (z : ℕ). get_or (set s.rows s.count k) z 0) (sym a) ∙ r ∙ other q (omega arith)))
          ]
          | no a ↦ elim (ℕ_discrete q s.count) [
            | yes b ↦ absurd (omega (arith, o.below p (omega arith), sym (other p (omega arith)) ∙ r ∙ ap (λ (z : ℕ). get_or (set s.rows s.count k) z 0) b ∙ here))
            | no b ↦ o.inj p q (omega arith) (omega arith) (sym (other p (omega arith)) ∙ r ∙ other q (omega arith))
          ]
        ];
        sound = λ p h. elim (ℕ_discrete p s.count) [ yes r ↦ rw (r, here) e | no u ↦ rw (other p (omega arith)) (o.sound p (omega arith)) ];
        complete = λ i h f. elim (ℕ_discrete i k) [
          | yes r ↦ (s.count, omega arith, here ∙ sym r)
          | no u ↦ let w = o.complete i (omega arith) f in (w.0, omega (arith, w.1), other w.0 w.1 ∙ w.2)
        ];
      })
      (λ e. pick_ind P (get_or unique k false) _ _ (skip k s _ e (simp length-set o.len_v) o) (skip k s s.v e o.len_v o))

  pub collect-ok : (v : List O.C) (a : Assign) → a.x ≡ x → a.unique ≡ unique → length v ≡ n → CollectOk n n x (collect O n cost a v)
  unfolding collect
  collect-ok v a ex eu lv =
      rw (ex, eu)
      (walk-ind (collect_step O n cost x unique) (λ k t. CollectOk n k x t) 0 n (record { rows = tab (λ _. 0) n; count = 0; v = v }) (omega arith)
      (record { count-k = le_refl 0; len_rows = length-tab (λ (_ : ℕ). 0) n; len_v = lv; below = λ p h. absurd (omega arith); inj = λ p q h _ _. absurd (omega arith); sound = λ p h. absurd (omega arith); complete = λ i h _. absurd (omega arith) })
      (λ k t _ u p. collect-step k t u p))
