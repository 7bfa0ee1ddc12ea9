-- The whole walk over whole numbers: `Good` holds at its end, and so the pairing is cheapest. Assumes nothing.
use mathlib.Core.Path.{◌≡◌, sym, subst, ◌∙◌, ap}
use mathlib.Core.List.{List}
use Prim.Native.Nat.{ℕ, ◌<◌, ◌≤◌}
use lib.IntN.{ℤ, pos}
use lib.ListN.{get_or}
use native.Mathlib.Nat.{le_refl}
use native.Mathlib.Omega.{arith}
use Rattle.lapjv_walk.specs.Carr.{carr_dence}
use Rattle.lapjv_walk.specs.Ccrt.{ccrt_dense, Kept}
use Rattle.lapjv_walk.specs.Holds.{Left, Queue, Square}
use Rattle.lapjv_walk.specs.Lapjv.{augment, Ca, ca_dense, ca_step, lapjv, OneToOne, two_passes}
use Rattle.lapjv_walk.specs.Marks.{index}
use Rattle.lapjv_walk.specs.Ops.{cost_at}
use Rattle.lapjv_walk.specs.Path.{find_path_dense, Scan, search_path}
use Rattle.lapjv_walk.proofs.Ca.{After, ca-step}
use Rattle.lapjv_walk.proofs.Carr.{pass-keeps}
use Rattle.lapjv_walk.proofs.Cases.{pos_inj}
use Rattle.lapjv_walk.proofs.Loops.{walk-ind}
use Rattle.lapjv_walk.proofs.Queue.{same-places}
use Rattle.lapjv_walk.proofs.Whole.{ccrt-left, one_to_one, passes-left}
use Rattle.lapint_walk.specs.Cheapest.{Cheapest}
use Rattle.lapint_walk.specs.Wholes.{wholes}
use Rattle.lapint_walk.proofs.Columns.{ccrt-good}
use Rattle.lapint_walk.proofs.Good.{Costs, Good, val, waits-marked, waits-room}
use Rattle.lapint_walk.proofs.Levels.{Found, found}
use Rattle.lapint_walk.proofs.Numbers.{to-order}
use Rattle.lapint_walk.proofs.Prices.{back, found-good}
use Rattle.lapint_walk.proofs.Rows.{pass-good}
use Rattle.lapint_walk.proofs.Sums.{Injects, prices-settle}

module _ (n : ℕ) (cost : List ℤ) (cs : Costs n cost) where
  -- ---- ca_dense

  module _ (rows : List ℕ) (count r : ℕ) (s : Ca ℤ) (hr : r < count) (q : Queue n (λ p. After count r p) rows s.x s.y) (g : Good n cost s.y s.v) where
    step-good : Good n cost (ca_step wholes n cost (get_or rows r 0) s).y (ca_step wholes n cost (get_or rows r 0) s).v
    unfolding ca_step find_path_dense augment
    step-good =
        let start : ℕ = get_or rows r 0 in
        let ac : After count r r = (le_refl r, hr) in
        let marks = waits-marked n (λ p. After count r p) rows s.x s.y q r ac in
        let room = waits-room n (λ p. After count r p) rows s.x s.y q r ac in
        let S : Scan ℤ = search_path wholes n cost start s.y s.v in
        let F : Found n cost s.y s.v start g marks S = found n cost s.y s.v start g marks room in
        rw F.last.is
        (found-good n cost s.y s.v start g marks S F cs _
        (back n cost s.y s.v start g marks S F n s.x q.pairs.len_y (λ p i l e. (q.pairs.y_x (get_or S.cols p 0) i (F.apart.below p l) e).0)))

  pub ca-good : (s : Kept ℤ) → Left n s → Good n cost s.y s.v → (m : ℕ) → m ≤ s.count → Good n cost (ca_dense wholes n cost m s).y (ca_dense wholes n cost m s).v
  unfolding ca_dense
  ca-good s l g m h =
      (walk-ind (λ (r : ℕ) (t : Ca ℤ). ca_step wholes n cost (get_or s.rows r 0) t) (λ r t. Queue n (λ p. After s.count r p) s.rows t.x t.y × Good n cost t.y t.v) 0 m (record { x = s.x; y = s.y; v = s.v }) (omega arith)
      (same-places n (λ p. p < s.count) (λ p. After s.count 0 p) s.rows s.x s.y (λ p a. (omega arith, a)) (λ p a. a.1) l.queue, g)
      (λ r t _ u w. (ca-step wholes n cost s.rows s.count r t (omega arith) w.0, step-good s.rows s.count r t (omega arith) w.0 w.1))).1

  -- ---- the whole

  module _ (some : 0 < n) where
    passes-good : Good n cost (two_passes wholes n cost).y (two_passes wholes n cost).v
    unfolding two_passes
    passes-good =
        let a : Kept ℤ = ccrt_dense wholes n cost in
        let l = ccrt-left wholes n cost some in
        pass-good n cost cs some (carr_dence wholes n cost a) (pass-keeps wholes n cost some a l) (pass-good n cost cs some a l (ccrt-good n cost cs some))

    pub end-good : Good n cost (lapjv wholes n cost).y (ca_dense wholes n cost (two_passes wholes n cost).count (two_passes wholes n cost)).v
    unfolding lapjv
    end-good = ca-good (two_passes wholes n cost) (passes-left wholes n cost some) passes-good (two_passes wholes n cost).count (le_refl _)

-- the same of what the steps left
pub ccrt-still : (n : ℕ) (cost : List ℤ) → Costs n cost → 0 < n → (k : Kept ℤ) → ccrt_dense wholes n cost ≡ k → Good n cost k.y k.v
ccrt-still n cost cs some k e = subst (λ (s : Kept ℤ). Good n cost s.y s.v) e (ccrt-good n cost cs some)

pub carr-still : (n : ℕ) (cost : List ℤ) → Costs n cost → 0 < n → (j k : Kept ℤ) → carr_dence wholes n cost j ≡ k → Left n j → Good n cost j.y j.v → Good n cost k.y k.v
carr-still n cost cs some j k e l g = subst (λ (s : Kept ℤ). Good n cost s.y s.v) e (pass-good n cost cs some j l g)

pub cheapest : (n : ℕ) (cost : List ℤ) → Square n cost → Costs n cost → Cheapest n cost (lapjv wholes n cost).x
cheapest n cost q cs =
    let x : List ℤ = (lapjv wholes n cost).x in
    let y : List ℤ = (lapjv wholes n cost).y in
    let v : List ℤ = (ca_dense wholes n cost (two_passes wholes n cost).count (two_passes wholes n cost)).v in
    let o : OneToOne n x y = one_to_one wholes n cost q.some in
    let G : Good n cost y v = end-good n cost cs q.some in
    let at : (i : ℕ) (h : i < n) → index (get_or x i (pos 0)) ≡ (o.rows i h).j = λ i h. ap index (o.rows i h).x_is in
    let ex : Injects n (λ i. index (get_or x i (pos 0))) = record {
      below = λ i h. rw (at i h) (o.rows i h).j_n;
      inj = λ i k hi hk e. pos_inj i k (sym (o.rows i hi).y_is ∙ ap (λ (z : ℕ). get_or y z (pos 0)) (sym (at i hi) ∙ e ∙ at k hk) ∙ (o.rows k hk).y_is);
    } in
    record {
      least = λ p a. to-order _ _ (prices-settle n (λ i j. cost_at wholes n cost i j) (λ j. val v j) (λ i. index (get_or x i (pos 0))) (λ i. get_or p i 0) ex (record { below = a.below; inj = a.inj })
          (λ i j hi hj. rw (at i hi) (G.tight (o.rows i hi).j i j (o.rows i hi).j_n hj (o.rows i hi).y_is)));
    }
