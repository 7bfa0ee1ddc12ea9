-- `ccrt_dense`, rows to columns: each column from the last on takes its row or is free, and x and y name each other. Assumes nothing.
use mathlib.Core.Path.{ap, subst, sym, ◌∙◌, ◌≡◌}
use mathlib.Core.Bool.{true}
use mathlib.Core.List.{List}
use mathlib.Core.Logic.{inl, inr, ⊎_elim}
use Prim.Native.Nat.{◌+◌, ◌-◌, ◌<◌, suc, ℕ}
use lib.IntN.{pos, ℤ}
use lib.ListN.{get_or, length-set, set}
use lib.Seq.{get_or-set_other, get_or-set_same}
use native.Mathlib.Decide.{ℕ_discrete}
use native.Mathlib.Nat.{le_refl}
use native.Mathlib.Omega.{arith}
use Rattle.lists.specs.Lists.{tab}
use Rattle.lists.proofs.Tab.{get_or-tab, length-tab}
use Rattle.lapjv_walk.specs.Ccrt.{Assign, assign, assign_from, assign_step}
use Rattle.lapjv_walk.specs.Holds.{AssignOk, Marked, Seat, Seated, SitsFrom}
use Rattle.lapjv_walk.specs.Loops.{walk}
use Rattle.lapjv_walk.specs.Marks.{free, index, is_free}
use Rattle.lapjv_walk.proofs.Cases.{not-both, pick-by, pos-free, pos_inj}
use Rattle.lapjv_walk.proofs.Loops.{walk-ind}

pub assign-step : (n j : ℕ) (s : Assign) → j < n → AssignOk n (j + 1) s → AssignOk n j (assign_step j s)
unfolding assign_step
assign-step n j s hj o =
    let seat : Seat n (get_or s.y j (pos 0)) = o.low j (omega arith) in
    let i : ℕ = index (get_or s.y j (pos 0)) in
    let yi : get_or s.y j (pos 0) ≡ pos i = seat.is ∙ ap pos (sym (ap index seat.is)) in
    let hi : i < n = rw (ap index seat.is) seat.below in
    let lx = o.len_x in
    let ly = o.len_y in
    pick-by (λ (t : Assign). AssignOk n j t) (is_free (get_or s.x i (pos 0))) _ _
    (λ e.
    let xi : get_or (set s.x i (pos j)) i (pos 0) ≡ pos j = get_or-set_same s.x i (pos j) (pos 0) (omega arith) in
    let xo : (k : ℕ) → (k ≡ i → ⊥) → get_or (set s.x i (pos j)) k (pos 0) ≡ get_or s.x k (pos 0) = λ k u. get_or-set_other s.x i k (pos j) (pos 0) u in
    record {
      len_x = simp length-set lx;
      len_y = ly;
      len_u = o.len_u;
      low = λ c h. o.low c (omega arith);
      high = o.high;
      y_x = λ c k hc l q. elim (ℕ_discrete c j) [
        | yes r ↦ let ki : i ≡ k = pos_inj i k (sym yi ∙ ap (λ (z : ℕ). get_or s.y z (pos 0)) (sym r) ∙ q) in rw (← ki, r) xi
        | no u ↦ let old = o.y_x c k hc (omega arith) q in xo k (λ r. not-both (is_free (get_or s.x i (pos 0))) e (ap is_free (ap (λ (z : ℕ). get_or s.x z (pos 0)) (sym r) ∙ old))) ∙ old
      ];
      x_y = λ k hk. elim (ℕ_discrete k i) [
        | yes r ↦ inr (record { j = j; j_n = hj; j_from = le_refl j; x_is = rw r xi; y_is = rw r yi })
        | no u ↦ ⊎_elim (λ w. inl (xo k u ∙ w)) (λ (w : SitsFrom n (j + 1) s.x s.y k). inr (record { j = w.j; j_n = w.j_n; j_from = omega (arith, w.j_from); x_is = xo k u ∙ w.x_is; y_is = w.y_is })) (o.x_y k hk)
      ];
    })
    (λ e.
    let yj : get_or (set s.y j free) j (pos 0) ≡ free = get_or-set_same s.y j free (pos 0) (omega arith) in
    let yo : (c : ℕ) → (c ≡ j → ⊥) → get_or (set s.y j free) c (pos 0) ≡ get_or s.y c (pos 0) = λ c u. get_or-set_other s.y j c free (pos 0) u in
    record {
      len_x = lx;
      len_y = simp length-set ly;
      len_u = simp length-set o.len_u;
      low = λ c h. rw (yo c (omega arith)) (o.low c (omega arith));
      high = λ c h. elim (ℕ_discrete c j) [ yes r ↦ inl (rw r yj) | no u ↦ rw (yo c u) (o.high c h) ];
      y_x = λ c k hc l q. elim (ℕ_discrete c j) [
        | yes r ↦ absurd (pos-free k (sym q ∙ ap (λ (z : ℕ). get_or (set s.y j free) z (pos 0)) r ∙ yj))
        | no u ↦ o.y_x c k hc (omega arith) (sym (yo c u) ∙ q)
      ];
      x_y = λ k hk. ⊎_elim (λ w. inl w) (λ (w : SitsFrom n (j + 1) s.x s.y k). inr (record { j = w.j; j_n = w.j_n; j_from = omega (arith, w.j_from); x_is = w.x_is; y_is = yo w.j (omega (arith, w.j_from)) ∙ w.y_is })) (o.x_y k hk);
    })

-- before the first column
pub assign-starts : (n from : ℕ) (y : List ℤ) → from ≡ n → Seated n y → AssignOk n from (record { x = tab (λ _. free) n; y = y; unique = tab (λ _. true) n })
assign-starts n from y all sy = record {
  len_x = length-tab (λ _. free) n;
  len_y = sy.len;
  len_u = length-tab (λ _. true) n;
  low = λ c h. sy.seat c (omega arith);
  high = λ c h. inr (sy.seat c h);
  y_x = λ c i h l e. absurd (omega arith);
  x_y = λ i h. inl (get_or-tab (λ _. free) n (pos 0) i h);
}

pub assign-ok : (n : ℕ) (y : List ℤ) → Seated n y → AssignOk n 0 (assign n y)
unfolding assign assign_from
assign-ok n y sy =
    let s0 : Assign = record { x = tab (λ _. free) n; y = y; unique = tab (λ _. true) n } in
    subst (λ (z : ℕ). AssignOk n z (walk (λ (k : ℕ) (t : Assign). assign_step (n - suc k) t) 0 n s0)) (native.Mathlib.Nat.sub_self n)
    (walk-ind (λ (k : ℕ) (t : Assign). assign_step (n - suc k) t) (λ k t. AssignOk n (n - k) t) 0 n s0 (omega arith) (assign-starts n (n - 0) y (omega arith) sy)
    (λ k t _ u o. assign-step n (n - suc k) t (omega arith) (subst (λ (z : ℕ). AssignOk n z t) (omega arith) o)))

-- and after the last the rows are marked
pub rows-marked : (n : ℕ) (s : Assign) → AssignOk n 0 s → Marked n s.x
rows-marked n s o = record { len = o.len_x; seat = λ i h e. ⊎_elim (λ f. not-both (is_free (get_or s.x i (pos 0))) (ap is_free f) e) (λ (t : SitsFrom n 0 s.x s.y i). record { at = t.j; below = t.j_n; is = t.x_is }) (o.x_y i h) }
