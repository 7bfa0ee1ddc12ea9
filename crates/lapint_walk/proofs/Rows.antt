-- `carr_dence` over whole numbers keeps `Good`. Assumes nothing.
use mathlib.Core.Path.{◌≡◌, refl, sym, ◌∙◌, ap}
use mathlib.Core.Bool.{Bool, true, false, not, ◌&&◌}
use mathlib.Core.List.{List}
use mathlib.Core.Logic.{inr, ◌⊎◌}
use Prim.Native.Nat.{ℕ, zero, suc, ◌+◌, ◌*◌, ◌<◌}
use borrow.Author.Tests.{ltb-true, not-true}
use lib.Dec.{ltb}
use lib.IntN.{ℤ, pos, ◌-ℤ◌}
use lib.Signed.{lt_z, le_z}
use lib.ListN.{get_or, length, length-set, set}
use lib.Seq.{get_or-set_other, get_or-set_same}
use native.Mathlib.Decide.{ℕ_discrete}
use native.Mathlib.Nat.{le_refl}
use native.Mathlib.Omega.{arith}
use Rattle.lapjv_walk.specs.Carr.{Carr, carr_dence, carr_more, carr_pick, carr_runs, carr_seat, carr_step, Two, two, two_step}
use Rattle.lapjv_walk.specs.Ccrt.{Kept}
use Rattle.lapjv_walk.specs.Holds.{Left, Seat}
use Rattle.lapjv_walk.specs.Loops.{runs}
use Rattle.lapjv_walk.specs.Marks.{free, index, is_free}
use Rattle.lapjv_walk.specs.Ops.{cost_at}
use Rattle.lapjv_walk.proofs.Carr.{Active, CarrOk, pass-starts, step_keeps, two_ok}
use Rattle.lapjv_walk.proofs.Cases.{and_right, pick-by, pick_ind, pos_inj, pos-free, seat-below, taken-pos}
use Rattle.lapjv_walk.proofs.Loops.{walk-ind}
use Rattle.lapint_walk.specs.Wholes.{wholes}
use Rattle.lapint_walk.specs.Holds.{Prices, Small}
use Rattle.lapint_walk.proofs.Bits.{rc-small}
use Rattle.lapint_walk.proofs.Numbers.{Le, Top, Equal, minus, lt_yes, lt_not, le_yes, le_not}
use Rattle.lapint_walk.proofs.Good.{Costs, Good, rc, same, seat-good, val, waits-open}

-- the best column and the next, of the columns before k
pub record TwoIs (n : ℕ) (cost v : List ℤ) (i k : ℕ) (t : Two ℤ) : Type 0 where
  pub j1-k : t.j1 < k
  pub v1-is : t.v1 ≡ rc n cost v i t.j1
  pub least : (q : ℕ) → q < k → Le t.v1 (rc n cost v i q)
  pub next : (q : ℕ) → q < k → (q ≡ t.j1 → ⊥) → Le t.v2 (rc n cost v i q)
  pub rising : Le t.v1 t.v2
  pub v2-top : Top 1_000_000_000_000 t.v2
  pub j2-is : (q : ℕ) → t.j2 ≡ pos q → t.v2 ≡ rc n cost v i q

module _ (n : ℕ) (cost v : List ℤ) (i : ℕ) where
  two-step : (k : ℕ) (t : Two ℤ) → TwoIs n cost v i k t → TwoIs n cost v i (suc k) (two_step wholes n cost i v k t)
  unfolding two_step
  two-step k t o =
      let c : ℤ = rc n cost v i k in
      let P : Two ℤ → Type 0 = λ s. TwoIs n cost v i (suc k) s in
      pick-by P (lt_z c t.v2) _ _
      (λ e. pick-by P (le_z t.v1 c) _ _
      (λ f. record {
        j1-k = omega (arith, o.j1-k);
        v1-is = o.v1-is;
        least = λ q h. elim (ℕ_discrete q k) [ yes a ↦ rw a (le_yes t.v1 c f) | no u ↦ o.least q (omega arith) ];
        next = λ q h ne. elim (ℕ_discrete q k) [ yes a ↦ rw a (le_refl _) | no u ↦ omega (arith, o.next q (omega arith) ne, lt_yes c t.v2 e) ];
        rising = le_yes t.v1 c f;
        v2-top = omega (arith, lt_yes c t.v2 e, o.v2-top);
        j2-is = λ q a. ap (λ (z : ℕ). rc n cost v i z) (pos_inj k q a);
      })
      (λ f. record {
        j1-k = omega arith;
        v1-is = refl;
        least = λ q h. elim (ℕ_discrete q k) [ yes a ↦ rw a (le_refl _) | no u ↦ omega (arith, o.least q (omega arith), le_not t.v1 c f) ];
        next = λ q h ne. o.least q (omega arith);
        rising = omega (arith, le_not t.v1 c f);
        v2-top = omega (arith, o.rising, o.v2-top);
        j2-is = λ q a. o.v1-is ∙ ap (λ (z : ℕ). rc n cost v i z) (pos_inj t.j1 q a);
      }))
      (λ e. record {
        j1-k = omega (arith, o.j1-k);
        v1-is = o.v1-is;
        least = λ q h. elim (ℕ_discrete q k) [ yes a ↦ rw a (omega (arith, lt_not c t.v2 e, o.rising)) | no u ↦ o.least q (omega arith) ];
        next = λ q h ne. elim (ℕ_discrete q k) [ yes a ↦ rw a (lt_not c t.v2 e) | no u ↦ o.next q (omega arith) ne ];
        rising = o.rising;
        v2-top = o.v2-top;
        j2-is = o.j2-is;
      })

  pub two_is : 0 < n → Le (rc n cost v i 0) wholes.large → TwoIs n cost v i n (two wholes n cost i v)
  unfolding two
  two_is some h =
      walk-ind (two_step wholes n cost i v) (λ k t. TwoIs n cost v i k t) 1 n (record { j1 = 0; j2 = free; v1 = rc n cost v i 0; v2 = wholes.large }) some
      (record {
        j1-k = omega arith;
        v1-is = refl;
        least = λ q l. let z : q ≡ 0 = omega arith in rw z (le_refl _);
        next = λ q l ne. absurd (ne (omega arith));
        rising = omega arith;
        v2-top = omega arith;
        j2-is = λ q a. absurd (pos-free q (sym a));
      })
      (λ k t _ _ o. two-step k t o)

-- both are small numbers
pub two-small : (n : ℕ) (cost v : List ℤ) (i : ℕ) → Costs n cost → Prices n v → 0 < n → i < n → Small (two wholes n cost i v).v1 × Small (two wholes n cost i v).v2
unfolding two two_step
two-small n cost v i cs ps some hi =
    let P : Two ℤ → Type 0 = λ t. Small t.v1 × Small t.v2 in
    walk-ind (two_step wholes n cost i v) (λ k t. P t) 1 n (record { j1 = 0; j2 = free; v1 = rc n cost v i 0; v2 = wholes.large }) some
    (rc-small n cost v cs ps i 0 hi some, record { top = omega arith; low = omega arith })
    (λ k t _ hk p. pick_ind P (lt_z (rc n cost v i k) t.v2) _ _ (pick_ind P (le_z t.v1 (rc n cost v i k)) _ _ (p.0, rc-small n cost v cs ps i k hi hk) (rc-small n cost v cs ps i k hi hk, p.0)) p)

module _ (n : ℕ) (cost : List ℤ) (cs : Costs n cost) (i : ℕ) (hi : i < n) where
  -- the row takes its best column, whose price falls by what the next one costs more
  lower-good : (y v : List ℤ) (b : Two ℤ) → length y ≡ n → Good n cost y v → TwoIs n cost v i n b
      → Good n cost (set y b.j1 (pos i)) (set v b.j1 (val v b.j1 -ℤ (b.v2 -ℤ b.v1)))
  lower-good y v b ly g t =
      let j : ℕ = b.j1 in
      let a : ℤ = b.v2 -ℤ b.v1 in
      let w : ℤ = val v j -ℤ a in
      let hj : j < n = t.j1-k in
      let lv = g.len_v in
      let at : get_or (set v j w) j (pos 0) ≡ w = get_or-set_same v j w (pos 0) (omega arith) in
      let off : (k : ℕ) → (k ≡ j → ⊥) → get_or (set v j w) k (pos 0) ≡ get_or v k (pos 0) = λ k u. get_or-set_other v j k w (pos 0) u in
      -- w is the cost less v2
      let price : Equal b.v1 (rc n cost v i j) = same t.v1-is in
      let m1 = minus b.v2 b.v1 in
      let m2 = minus (val v j) a in
      let m3 = minus (cost_at wholes n cost i j) (val v j) in
      seat-good n cost y v (set v j w) g i j hj ly (simp length-set lv) off
      (rw at (omega (arith, t.rising)))
      (λ k hk. rw at (elim (ℕ_discrete k j) [
        | yes e ↦ rw (e, at) (omega arith)
        | no u ↦ rw (off k u) (omega (arith, t.next k hk u, minus (cost_at wholes n cost i k) (val v k)))
      ]))
      (rw at (omega (arith, t.v2-top, cs.low i j hi hj)))
      (λ f hf ne e. rw at (omega (arith, t.next f hf ne, minus (cost_at wholes n cost i f) (val v f), g.open_low f hf e, cs.low i j hi hj, cs.top i f hi hf)))

  -- the row takes column j as it is
  take-good : (y v : List ℤ) (j : ℕ) → j < n → length y ≡ n → Good n cost y v → ((k : ℕ) → k < n → Le (rc n cost v i j) (rc n cost v i k)) → Good n cost (set y j (pos i)) v
  take-good y v j hj ly g least =
      seat-good n cost y v v g i j hj ly g.len_v (λ k u. refl) (le_refl _)
      (λ k hk. omega (arith, least k hk, minus (cost_at wholes n cost i j) (val v j), minus (cost_at wholes n cost i k) (val v k)))
      (g.deep j hj)
      (λ f hf ne e. g.rest_low f j hf hj e)

module _ (n : ℕ) (cost : List ℤ) (cs : Costs n cost) (some : 0 < n) (count : ℕ) where
  seat-is : (P : List ℤ → List ℤ → Type 0) (i j : ℕ) (again : Bool) (v : List ℤ) (s : Carr ℤ) → P (set s.y j (pos i)) v → P (carr_seat i j again v s).y (carr_seat i j again v s).v
  unfolding carr_seat
  seat-is P i j again v s p = p

  pick_good : (i : ℕ) (b : Two ℤ) (s : Carr ℤ) → i < n → ((b.j2 ≡ free) ⊎ Seat n b.j2) → length s.y ≡ n → Good n cost s.y s.v → TwoIs n cost s.v i n b
      → Good n cost (carr_pick wholes n cost i b s).y (carr_pick wholes n cost i b s).v
  unfolding carr_pick
  pick_good i b s hi sj ly g t =
      let P : Carr ℤ → Type 0 = λ r. Good n cost r.y r.v in
      let G : List ℤ → List ℤ → Type 0 = λ y v. Good n cost y v in
      let low : ℤ = val s.v b.j1 -ℤ (b.v2 -ℤ b.v1) in
      let plain : P (carr_seat i b.j1 false s.v s) = seat-is G i b.j1 false s.v s (take-good n cost cs i hi s.y s.v b.j1 t.j1-k ly g (λ k hk. omega (arith, t.least k hk, same t.v1-is))) in
      pick-by P (ltb (s.turn + 1) ((s.current + 1) * n)) _ _
      (λ _. pick-by P (lt_z low (val s.v b.j1)) _ _
      (λ _. seat-is G i b.j1 true (set s.v b.j1 low) s (lower-good n cost cs i hi s.y s.v b ly g t))
      (λ f. pick-by P (not (is_free (get_or s.y b.j1 (pos 0))) && not (is_free b.j2)) _ _
      (λ e.
      let taken : is_free b.j2 ≡ false = not-true _ (and_right (not (is_free (get_or s.y b.j1 (pos 0)))) (not (is_free b.j2)) e) in
      let is : b.j2 ≡ pos (index b.j2) = taken-pos b.j2 taken in
      let hj : index b.j2 < n = seat-below n b.j2 (index b.j2) is sj in
      seat-is G i (index b.j2) false s.v s (take-good n cost cs i hi s.y s.v (index b.j2) hj ly g
      (λ k hk. omega (arith, t.least k hk, same (t.j2-is (index b.j2) is), lt_not low (val s.v b.j1) f, minus b.v2 b.v1, minus (val s.v b.j1) (b.v2 -ℤ b.v1)))))
      (λ _. plain)))
      (λ _. plain)

  pub step-good : (s : Carr ℤ) → s.current < count → CarrOk n count s → Good n cost s.y s.v → Good n cost (carr_step wholes n cost s).y (carr_step wholes n cost s).v
  unfolding carr_step
  step-good s hc o g =
      let i : ℕ = get_or s.rows s.current 0 in
      let ac : Active s.fresh s.current count s.current = inr (le_refl s.current, hc) in
      let hi : i < n = o.queue.below s.current ac in
      let f = waits-open n (λ p. Active s.fresh s.current count p) s.rows s.x s.y o.queue s.current ac in
      let below : Le (rc n cost s.v i 0) wholes.large = omega (arith, minus (cost_at wholes n cost i 0) (val s.v 0), g.rest_low f.0 0 f.1 some f.2, cs.top i 0 hi some) in
      pick_good i (two wholes n cost i s.v) s hi (two_ok wholes n cost some count i s.v).1 o.queue.pairs.len_y g (two_is n cost s.v i some below)

  runs-good : (m : ℕ) (s : Carr ℤ) → CarrOk n count s → Good n cost s.y s.v
      → Good n cost (runs (carr_more count) (carr_step wholes n cost) m s).y (runs (carr_more count) (carr_step wholes n cost) m s).v
  unfolding runs carr_more
  runs-good zero s o g = g
  runs-good (suc m) s o g =
      pick-by (λ (t : Carr ℤ). Good n cost t.y t.v) (ltb s.current count) _ _
      (λ e. runs-good m (carr_step wholes n cost s) (step_keeps wholes n cost some count s (ltb-true _ _ e) o) (step-good s (ltb-true _ _ e) o g))
      (λ _. g)

pub pass-good : (n : ℕ) (cost : List ℤ) → Costs n cost → 0 < n → (s : Kept ℤ) → Left n s → Good n cost s.y s.v → Good n cost (carr_dence wholes n cost s).y (carr_dence wholes n cost s).v
unfolding carr_dence carr_runs
pass-good n cost cs some s l g = runs-good n cost cs some s.count (s.count * n) _ (pass-starts wholes n cost some s l) g
