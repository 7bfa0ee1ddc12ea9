-- `carr_dence`: the rows that wait are told apart, x and y name each other but for them, and the turns suffice. Assumes nothing.
use mathlib.Core.Path.{ap, refl, sym, ◌∙◌, ◌≡◌}
use mathlib.Core.Bool.{◌&&◌, Bool, false, not, true}
use mathlib.Core.List.{List}
use mathlib.Core.Logic.{inl, inr, ◌⊎◌, ⊎_elim}
use Prim.Native.Nat.{◌*◌, ◌+◌, ◌<◌, suc, zero, ℕ, ◌≤◌}
use borrow.Author.Tests.{le-ltb, ltb-false, ltb-true, not-true}
use lib.Dec.{ltb}
use lib.IntN.{pos}
use lib.ListN.{get_or, length, length-set, set}
use lib.Seq.{get_or-set_other, get_or-set_same}
use native.Mathlib.Decide.{ℕ_discrete}
use native.Mathlib.Nat.{le_refl, mul-le-mul_right}
use native.Mathlib.Omega.{arith}
use Rattle.lapjv_walk.specs.Carr.{Carr, carr_dence, carr_more, carr_pick, carr_runs, carr_seat, carr_step, Two, two, two_step}
use Rattle.lapjv_walk.specs.Ccrt.{Kept}
use Rattle.lapjv_walk.specs.Holds.{Left, Queue, Seat}
use Rattle.lapjv_walk.specs.Loops.{runs}
use Rattle.lapjv_walk.specs.Marks.{free, index, is_free}
use Rattle.lapjv_walk.specs.Ops.{cost_at, Ops}
use Rattle.lapjv_walk.proofs.Cases.{and_right, free-pos, never, pick-by, pick_ind, seat-below, taken-pos}
use Rattle.lapjv_walk.proofs.Loops.{walk-ind}
use Rattle.lapjv_walk.proofs.Queue.{queue-ok, same-places}

-- the places that wait in carr_dence: kept ones, and those not yet reached
abbrev pub Active : ℕ → ℕ → ℕ → ℕ → Type 0
Active fresh current count p = (p < fresh) ⊎ ((current ≤ p) × (p < count))

pub record CarrOk (n count : ℕ) {C : Type 0} (s : Carr C) : Type 0 where
  pub count_n : count ≤ n
  pub fresh-cur : s.fresh ≤ s.current
  pub cur-count : s.current ≤ count
  pub len_rows : length s.rows ≡ n
  pub len_v : length s.v ≡ n
  pub turns : s.turn < (s.current + 1) * n
  pub queue : Queue n (λ p. Active s.fresh s.current count p) s.rows s.x s.y

more-turns : (n c t : ℕ) → 0 < n → t < (c + 1) * n → t + 1 < (c + 1 + 1) * n
more-turns n c t h l = omega (arith, native.Mathlib.Nat.add-mul (c + 1) 1 n, native.Mathlib.Nat.one-mul n)

below-ne : {p f : ℕ} → p < f + 1 → (p ≡ f → ⊥) → p < f
below-ne h u = omega arith

module _ (O : Ops) (n : ℕ) (cost : List O.C) where
  -- each turn is counted
  pub step-turn : (s : Carr O.C) → (carr_step O n cost s).turn ≡ s.turn + 1
  unfolding carr_step carr_pick carr_seat
  step-turn s =
      let P : Carr O.C → Type 0 = λ t. t.turn ≡ s.turn + 1 in
      let b : Two O.C = two O n cost (get_or s.rows s.current 0) s.v in
      pick_ind P (ltb (s.turn + 1) ((s.current + 1) * n)) _ _
      (pick_ind P (O.lt (O.sub (get_or s.v b.j1 O.none) (O.sub b.v2 b.v1)) (get_or s.v b.j1 O.none)) _ _ refl
      (pick_ind P (not (is_free (get_or s.y b.j1 (pos 0))) && not (is_free b.j2)) _ _ refl refl))
      refl

module _ (O : Ops) (n : ℕ) (cost : List O.C) (some : 0 < n) (count : ℕ) where
  seat-keeps : (j : ℕ) (again : Bool) (v : List O.C) (s : Carr O.C) → j < n → s.current < count → length v ≡ n → CarrOk n count s
      → (again ≡ true → s.turn + 1 < (s.current + 1) * n) → CarrOk n count (carr_seat (get_or s.rows s.current 0) j again v s)
  unfolding carr_seat
  seat-keeps j again v s hj hc lv o early = by_out (is_free (get_or s.y j (pos 0))) refl again refl
    where
      cur : ℕ
      cur = s.current

      fr : s.fresh ≤ s.current
      fr = o.fresh-cur

      ac : Active s.fresh s.current count s.current
      ac = inr (le_refl s.current, hc)

      out : ℕ
      out = index (get_or s.y j (pos 0))

      lr : length s.rows ≡ n
      lr = o.len_rows

      cn : count ≤ n
      cn = o.count_n

      by_out : (e : Bool) → is_free (get_or s.y j (pos 0)) ≡ e → (b : Bool) → again ≡ b → CarrOk n count (carr_seat (get_or s.rows s.current 0) j again v s)
      by_out true e b eb = rw e (record {
        count_n = o.count_n;
        fresh-cur = omega (arith, fr);
        cur-count = omega arith;
        len_rows = o.len_rows;
        len_v = lv;
        turns = more-turns n s.current s.turn some o.turns;
        queue = queue-ok n (λ p. Active s.fresh s.current count p) (λ p. Active s.fresh (s.current + 1) count p) s.rows s.rows s.x s.y o.queue s.current ac j hj 0
            (λ p a. inl (refl, ⊎_elim (λ u. inl u) (λ (u : (s.current + 1 ≤ p) × (p < count)). inr (omega (arith, u.0), u.1)) a, λ q. ⊎_elim (λ (u : p < s.fresh). omega (arith, fr)) (λ (u : (s.current + 1 ≤ p) × (p < count)). omega (arith, u.0)) a))
            (λ p a ne. (⊎_elim (λ u. inl u) (λ (u : (s.current ≤ p) × (p < count)). inr (omega (arith, u.0), u.1)) a, refl))
            (λ k q. absurd (free-pos (get_or s.y j (pos 0)) k e q));
      })
      by_out false e true eb = rw (e, eb) (record {
        count_n = o.count_n;
        fresh-cur = fr;
        cur-count = o.cur-count;
        len_rows = simp length-set o.len_rows;
        len_v = lv;
        turns = early eb;
        queue = queue-ok n (λ p. Active s.fresh s.current count p) (λ p. Active s.fresh s.current count p) s.rows (set s.rows s.current (index (get_or s.y j (pos 0)))) s.x s.y o.queue s.current ac j hj s.current
            (λ p a. elim (ℕ_discrete p s.current) [
              | yes q ↦ inr (q, taken-pos (get_or s.y j (pos 0)) e ∙ ap pos (sym (ap (λ (z : ℕ). get_or (set s.rows s.current (index (get_or s.y j (pos 0)))) z 0) q ∙ get_or-set_same s.rows s.current (index (get_or s.y j (pos 0))) 0 (omega (arith, lr, cn)))))
              | no u ↦ inl (get_or-set_other s.rows s.current p (index (get_or s.y j (pos 0))) 0 u, a, u)
            ])
            (λ p a ne. (a, get_or-set_other s.rows s.current p (index (get_or s.y j (pos 0))) 0 ne))
            (λ k q. record { p = s.current; act = ac; is = get_or-set_same s.rows s.current (index (get_or s.y j (pos 0))) 0 (omega (arith, lr, cn)) ∙ ap index q });
      })
      by_out false e false eb = rw (e, eb) (record {
        count_n = o.count_n;
        fresh-cur = omega (arith, fr);
        cur-count = omega arith;
        len_rows = simp length-set o.len_rows;
        len_v = lv;
        turns = more-turns n s.current s.turn some o.turns;
        queue = queue-ok n (λ p. Active s.fresh s.current count p) (λ p. Active (s.fresh + 1) (s.current + 1) count p) s.rows (set s.rows s.fresh (index (get_or s.y j (pos 0)))) s.x s.y o.queue s.current ac j hj s.fresh
            (λ p a. elim (ℕ_discrete p s.fresh) [
              | yes q ↦ inr (q, taken-pos (get_or s.y j (pos 0)) e ∙ ap pos (sym (ap (λ (z : ℕ). get_or (set s.rows s.fresh (index (get_or s.y j (pos 0)))) z 0) q ∙ get_or-set_same s.rows s.fresh (index (get_or s.y j (pos 0))) 0 (omega (arith, lr, cn, fr)))))
              | no u ↦ inl (
                get_or-set_other s.rows s.fresh p (index (get_or s.y j (pos 0))) 0 u,
                ⊎_elim (λ (w : p < s.fresh + 1). inl (below-ne w u)) (λ (w : (s.current + 1 ≤ p) × (p < count)). inr (omega (arith, w.0), w.1)) a,
                λ q. ⊎_elim (λ (w : p < s.fresh + 1). omega (arith, fr, below-ne w u)) (λ (w : (s.current + 1 ≤ p) × (p < count)). omega (arith, w.0)) a,
              )
            ])
            (λ p a ne. (
              ⊎_elim (λ (w : p < s.fresh). inl (omega arith)) (λ (w : (s.current ≤ p) × (p < count)). inr (omega (arith, w.0), w.1)) a,
              get_or-set_other s.rows s.fresh p (index (get_or s.y j (pos 0))) 0 (λ q. ⊎_elim (λ (w : p < s.fresh). omega arith) (λ (w : (s.current ≤ p) × (p < count)). omega (arith, w.0, fr)) a),
            ))
            (λ k q. record { p = s.fresh; act = inl (omega arith); is = get_or-set_same s.rows s.fresh (index (get_or s.y j (pos 0))) 0 (omega (arith, lr, cn, fr)) ∙ ap index q });
      })

  -- ---- a turn

  abbrev pub TwoOk : Two O.C → Type 0
  TwoOk t = (t.j1 < n) × ((t.j2 ≡ free) ⊎ Seat n t.j2)

  pub two_ok : (i : ℕ) (v : List O.C) → TwoOk (two O n cost i v)
  unfolding two two_step
  two_ok i v =
      walk-ind (two_step O n cost i v) (λ _ t. TwoOk t) 1 n (record { j1 = 0; j2 = free; v1 = O.sub (cost_at O n cost i 0) (get_or v 0 O.none); v2 = O.large }) some (some, inl refl)
      (λ j t l u o. pick_ind TwoOk (O.lt (O.sub (cost_at O n cost i j) (get_or v j O.none)) t.v2) _ _
      (pick_ind TwoOk (O.le t.v1 (O.sub (cost_at O n cost i j) (get_or v j O.none))) _ _ (o.0, inr (record { at = j; below = u; is = refl })) (u, inr (record { at = t.j1; below = o.0; is = refl })))
      o)

  pick-keeps : (b : Two O.C) (s : Carr O.C) → TwoOk b → s.current < count → CarrOk n count s
      → CarrOk n count (carr_pick O n cost (get_or s.rows s.current 0) b s)
  unfolding carr_pick
  pick-keeps b s t hc o =
      let i : ℕ = get_or s.rows s.current 0 in
      let P : Carr O.C → Type 0 = λ r. CarrOk n count r in
      let low : O.C = O.sub (get_or s.v b.j1 O.none) (O.sub b.v2 b.v1) in
      let plain : P (carr_seat i b.j1 false s.v s) = seat-keeps b.j1 false s.v s t.0 hc o.len_v o never in
      pick-by P (ltb (s.turn + 1) ((s.current + 1) * n)) _ _
      (λ e. pick_ind P (O.lt low (get_or s.v b.j1 O.none)) _ _
      (seat-keeps b.j1 true (set s.v b.j1 low) s t.0 hc (simp length-set o.len_v) o (λ _. ltb-true _ _ e))
      (pick-by P (not (is_free (get_or s.y b.j1 (pos 0))) && not (is_free b.j2)) _ _
      (λ e2. seat-keeps (index b.j2) false s.v s (other (not-true _ (and_right (not (is_free (get_or s.y b.j1 (pos 0)))) (not (is_free b.j2)) e2))) hc o.len_v o never)
      (λ _. plain)))
      (λ _. plain)
    where
      other : is_free b.j2 ≡ false → index b.j2 < n
      other e = seat-below n b.j2 (index b.j2) (taken-pos b.j2 e) t.1

  pub step_keeps : (s : Carr O.C) → s.current < count → CarrOk n count s → CarrOk n count (carr_step O n cost s)
  unfolding carr_step
  step_keeps s hc o = pick-keeps (two O n cost (get_or s.rows s.current 0) s.v) s (two_ok (get_or s.rows s.current 0) s.v) hc o

  -- ---- the turns suffice

  done_at : (c t : ℕ) → c ≤ count → t < (c + 1) * n → count * n ≤ t → c ≡ count
  done_at c t h l u = elim (ℕ_discrete c count) [
    | yes e ↦ e
    | no ne ↦ let a : (c + 1) * n ≤ count * n = mul-le-mul_right n (omega arith) in absurd (omega arith)
  ]

  pub runs-keep : (m : ℕ) (s : Carr O.C) → CarrOk n count s → count * n ≤ m + s.turn
      → CarrOk n count (runs (carr_more count) (carr_step O n cost) m s) × ((runs (carr_more count) (carr_step O n cost) m s).current ≡ count)
  unfolding runs carr_more
  runs-keep zero s o h = (o, done_at s.current s.turn o.cur-count o.turns (omega arith))
  runs-keep (suc m) s o h =
      pick-by (λ (t : Carr O.C). CarrOk n count t × (t.current ≡ count)) (ltb s.current count) _ _
      (λ e. runs-keep m (carr_step O n cost s) (step_keeps s (ltb-true _ _ e) o) (omega (arith, step-turn O n cost s)))
      (λ e. (o, omega (arith, ltb-false s.current count e, o.cur-count)))

module _ (O : Ops) (n : ℕ) (cost : List O.C) (some : 0 < n) (s : Kept O.C) (l : Left n s) where
  pub pass-starts : CarrOk n s.count {C = O.C} (record { rows = s.rows; current = 0; fresh = 0; turn = 0; x = s.x; y = s.y; v = s.v })
  pass-starts = record {
    count_n = l.count_n;
    fresh-cur = omega arith;
    cur-count = omega arith;
    len_rows = l.len_rows;
    len_v = l.len_v;
    turns = omega (arith, native.Mathlib.Nat.one-mul n);
    queue = same-places n (λ p. p < s.count) (λ p. Active 0 0 s.count p) s.rows s.x s.y (λ p a. inr (omega arith, a)) (λ p a. ⊎_elim (λ (u : p < 0). omega arith) (λ (u : (0 ≤ p) × (p < s.count)). u.1) a) l.queue;
  }

  pass-runs : CarrOk n s.count (carr_runs O n cost s) × ((carr_runs O n cost s).current ≡ s.count)
  unfolding carr_runs
  pass-runs = runs-keep O n cost some s.count _ _ pass-starts (omega arith)

  pub pass-keeps : Left n (carr_dence O n cost s)
  unfolding carr_dence
  pass-keeps =
      let r = pass-runs in
      record {
        count_n = omega (arith, r.0.fresh-cur, r.0.cur-count, l.count_n);
        len_rows = r.0.len_rows;
        len_v = r.0.len_v;
        queue = same-places n _ (λ p. p < _) _ _ _ (λ p a. ⊎_elim (λ u. u) (λ u. omega (arith, r.1, u.0, u.1)) a) (λ p a. inl a) r.0.queue;
      }

  pub pass-ends : carr_more s.count (carr_runs O n cost s) ≡ false
  unfolding carr_more
  pass-ends = le-ltb (carr_runs O n cost s).current s.count (omega (arith, pass-runs.1))
