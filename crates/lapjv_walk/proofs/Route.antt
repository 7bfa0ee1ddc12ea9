-- `find_path_dense`: where not all columns are taken the search finds a free one, with a chain of rows back; it and each of its scans end by themselves. Assumes nothing.
use mathlib.Core.Path.{ap, refl, subst, sym, ◌∙◌, ◌≡◌}
use mathlib.Core.Bool.{◌&&◌, Bool, false, not, true}
use mathlib.Core.List.{List}
use mathlib.Core.Logic.{inl, inr, ◌⊎◌, ⊎_elim}
use Prim.Native.Nat.{◌+◌, ◌-◌, ◌<◌, suc, zero, ℕ, ◌≤◌}
use borrow.Author.Tests.{eq-eqb, eqb-true}
use lib.Dec.{eqb}
use lib.IntN.{pos, ℤ}
use lib.ListN.{get_or, length}
use native.Mathlib.Decide.{dec_lt, ℕ_discrete}
use native.Mathlib.Nat.{le_refl}
use native.Mathlib.Omega.{arith}
use Rattle.lists.specs.Lists.{pick}
use Rattle.lists.proofs.Tab.{get_or-tab, length-tab}
use Rattle.lapjv_walk.specs.Ends.{searched}
use Rattle.lapjv_walk.specs.Holds.{Apart, Marked, Room}
use Rattle.lapjv_walk.specs.Loops.{runs}
use Rattle.lapjv_walk.specs.Marks.{free, index, is_free}
use Rattle.lapjv_walk.specs.Ops.{cost_at, Ops}
use Rattle.lapjv_walk.specs.Path.{Find, find_dense, last_free, Scan, scan_all, scan_col, scan_dense, scan_hit, scan_more, scan_row, scan_step, scan_turn, search_from, search_more, search_path, search_turn, to_scan}
use Rattle.lapjv_walk.proofs.Cases.{lt_of, not-both, pick-by, pick_ind}
use Rattle.lapjv_walk.proofs.Find.{find-from, FindOk, From}
use Rattle.lapjv_walk.proofs.Loops.{runs_done, runs-more, walk-ind}
use Rattle.lapjv_walk.proofs.Search.{Earlier, Link, more-found, more-met, more_yes, PathOk, turn-lo, turn-ok}

-- ---- the free column

-- m is the mark of a free column, at a place from a up to b
pub record FreeAt (y : List ℤ) (cols : List ℕ) (b : ℕ) (m : ℤ) : Type 0 where
  pub q : ℕ
  pub q-b : q < b
  pub is : m ≡ pos (get_or cols q 0)
  pub open' : is_free (get_or y (get_or cols q 0) (pos 0)) ≡ true

abbrev pub Last : List ℤ → List ℕ → ℕ → ℕ → ℤ → Type 0
Last y cols lo k m = ((m ≡ free) × ((q : ℕ) → lo ≤ q → q < k → is_free (get_or y (get_or cols q 0) (pos 0)) ≡ false)) ⊎ FreeAt y cols k m

module _ (y : List ℤ) where
  pub last-free : (cols : List ℕ) (lo hi : ℕ) → lo ≤ hi → Last y cols lo hi (last_free y cols lo hi)
  unfolding last_free
  last-free cols lo hi h =
      walk-ind (λ (k : ℕ) (r : ℤ). pick (is_free (get_or y (get_or cols k 0) (pos 0))) (pos (get_or cols k 0)) r) (λ k m. Last y cols lo k m) lo hi free h
      (inl (refl, λ q l u. absurd (omega arith)))
      (λ k m l u o. pick-by (λ (r : ℤ). Last y cols lo (suc k) r) (is_free (get_or y (get_or cols k 0) (pos 0))) (pos (get_or cols k 0)) m
      (λ e. inr (record { q = k; q-b = omega arith; is = refl; open' = e }))
      (λ e. ⊎_elim
      (λ (w : (m ≡ free) × ((q : ℕ) → lo ≤ q → q < k → is_free (get_or y (get_or cols q 0) (pos 0)) ≡ false)). inl (w.0, λ q a b. elim (ℕ_discrete q k) [ yes r ↦ rw r e | no r ↦ w.1 q a (omega arith) ]))
      (λ (w : FreeAt y cols k m). inr (record { q = w.q; q-b = omega (arith, w.q-b); is = w.is; open' = w.open' }))
      o))

-- what is found is nothing, or a free column
abbrev pub Hit : ℕ → List ℤ → {C : Type 0} → Scan C → Type 0
Hit n y s = (s.found ≡ free) ⊎ FreeAt y s.cols n s.found

module _ (O : Ops) (n : ℕ) (cost : List O.C) (y : List ℤ) (v : List O.C) where
  hit-free : (s : Scan O.C) → is_free s.found ≡ true → Hit n y s → s.found ≡ free
  hit-free s e (inl f) = f
  hit-free s e (inr f) = not-both (is_free s.found) e (ap is_free f.is)

  hit-step : (i : ℕ) (h mind : O.C) (k : ℕ) (s : Scan O.C) → k < n → Hit n y s → Hit n y (scan_step O n cost y v i h mind k s)
  unfolding scan_step scan_col scan_hit
  hit-step i h mind k s hk o =
      let P : Scan O.C → Type 0 = λ t. Hit n y t in
      let j : ℕ = get_or s.cols k 0 in
      let c : O.C = O.sub (O.sub (cost_at O n cost i j) (get_or v j O.none)) h in
      pick-by P (is_free s.found) _ _
      (λ e. pick_ind P (O.lt c (get_or s.d j O.none)) _ _
      (pick_ind P (O.eq c mind) _ _
      (pick-by P (is_free (get_or y j (pos 0))) _ _
      (λ f. inr (record { q = k; q-b = hk; is = refl; open' = f }))
      (λ f. inl (hit-free s e o)))
      (inl (hit-free s e o)))
      o)
      (λ e. o)

  pub hit-turn : (s : Scan O.C) → s.hi ≤ n → Hit n y s → Hit n y (scan_turn O n cost y v s)
  unfolding scan_turn scan_row
  hit-turn s hn o =
      let j : ℕ = get_or s.cols s.lo 0 in
      let i : ℕ = index (get_or y j (pos 0)) in
      let mind : O.C = get_or s.d j O.none in
      let h : O.C = O.sub (O.sub (cost_at O n cost i j) (get_or v j O.none)) mind in
      walk-ind (scan_step O n cost y v i h mind) (λ k t. Hit n y t) s.hi n (record { lo = s.lo + 1; hi = s.hi; d = s.d; cols = s.cols; pred = s.pred; found = s.found }) hn o
      (λ k t _ u p. hit-step i h mind k t u p)

  -- ---- scan_dense

  module _ (R : ℕ → Type 0) (m : Marked n y) where
    -- where it ends: all columns before hi are scanned, or one is found
    pub record Ended (from : ℕ) (r : Scan O.C) : Type 0 where
      pub path : PathOk n R y r
      pub hit : Hit n y r
      pub end : (is_free r.found ≡ false) ⊎ ((r.lo ≡ r.hi) × (from ≤ r.lo))

    not_more : (s : Scan O.C) → scan_more s ≡ false → (is_free s.found ≡ false) ⊎ (s.lo ≡ s.hi)
    unfolding scan_more
    not_more s e = go (eqb s.lo s.hi) refl e
      where
        go : (b : Bool) → eqb s.lo s.hi ≡ b → (not b && is_free s.found) ≡ false → (is_free s.found ≡ false) ⊎ (s.lo ≡ s.hi)
        go true q f = inr (eqb-true _ _ q)
        go false q f = inl f

    is-more : (s : Scan O.C) → scan_more s ≡ true → s.lo ≡ s.hi → ⊥
    unfolding scan_more
    is-more s e q = not-both (not (eqb s.lo s.hi) && is_free s.found) e (rw (eq-eqb s.lo s.hi q))

    pub scan-ends : (f : ℕ) (s : Scan O.C) → n ≤ f + s.lo → PathOk n R y s → Hit n y s → Ended s.lo (runs (scan_more) (scan_turn O n cost y v) f s)
    unfolding runs
    scan-ends zero s h p t = record { path = p; hit = t; end = inr (omega (arith, p.lo_hi, p.hi_n), le_refl s.lo) }
    scan-ends (suc f) s h p t =
        pick-by (λ (r : Scan O.C). Ended s.lo r) (scan_more s) _ _
        (λ e.
        let lt : s.lo < s.hi = lt_of p.lo_hi (is-more s e) in
        let l1 : (scan_turn O n cost y v s).lo ≡ s.lo + 1 = turn-lo O n cost y v s in
        let r = scan-ends f (scan_turn O n cost y v s) (omega arith) (turn-ok O n cost y v R m s lt p) (hit-turn s p.hi_n t) in
        record { path = r.path; hit = r.hit; end = ⊎_elim (λ u. inl u) (λ u. inr (u.0, omega (arith, u.1))) r.end })
        (λ e. record { path = p; hit = t; end = ⊎_elim (λ u. inl u) (λ u. inr (u, le_refl s.lo)) (not_more s e) })

    -- from lo < hi it goes on by one at least
    pub scan-on : (s : Scan O.C) → s.lo < s.hi → s.found ≡ free → PathOk n R y s → Ended (s.lo + 1) (scan_all O n cost y v s)
    unfolding scan_all
    scan-on s lt e p =
        let en : n - s.lo ≡ suc (n - (s.lo + 1)) = omega (arith, p.hi_n) in
        let l1 : (scan_turn O n cost y v s).lo ≡ s.lo + 1 = turn-lo O n cost y v s in
        rw (en, runs-more (scan_more) (scan_turn O n cost y v) (n - (s.lo + 1)) s (more_yes s (λ q. omega arith) e))
        (subst (λ (l : ℕ). Ended l (runs (scan_more) (scan_turn O n cost y v) (n - (s.lo + 1)) (scan_turn O n cost y v s))) l1
        (scan-ends (n - (s.lo + 1)) (scan_turn O n cost y v s) (omega (arith, p.hi_n)) (turn-ok O n cost y v R m s lt p) (hit-turn s p.hi_n (inl e))))

    -- ---- the search

    pub record Head (s : Scan O.C) : Type 0 where
      pub path : PathOk n R y (record { lo = s.lo; hi = s.lo; d = s.d; cols = s.cols; pred = s.pred; found = s.found })
      pub none : s.found ≡ free

    -- a free column is found, and every column leads back to the start
    pub record FoundOk (s : Scan O.C) : Type 0 where
      pub lo-n : s.lo < n
      pub len_d : length s.d ≡ n
      pub len_pred : length s.pred ≡ n
      pub apart : Apart n s.cols
      pub upto : ℕ
      pub link : (q : ℕ) → q < n → Link R upto y s.cols q (get_or s.pred (get_or s.cols q 0) 0)
      pub hit : FreeAt y s.cols n s.found

    module _ (s : Scan O.C) (h : Head s) (ln : s.lo < n) where
      f : Find O.C
      f = find_dense O n s.lo s.d s.cols

      fo : FindOk n s.lo n f × From n s.lo s.cols f.cols
      unfolding f
      fo = find-from O n s.lo s.d s.cols ln h.path.apart

      link' : (q : ℕ) → q < n → Link R s.lo y f.cols q (get_or s.pred (get_or f.cols q 0) 0)
      link' q hq = elim (dec_lt q s.lo) [
        | yes l ↦ rw (fo.1.kept q l) (⊎_elim (λ u. inl u)
            (λ (e : Earlier s.lo y s.cols q (get_or s.pred (get_or s.cols q 0) 0)). inr (record { p = e.p; p-q = e.p-q; p-lo = e.p-lo; is = ap (λ (z : ℕ). get_or y z (pos 0)) (fo.1.kept e.p e.p-lo) ∙ e.is }))
            (h.path.chain q hq))
        | no u ↦
            let g = fo.1.from q hq (omega arith) in
            rw g.3 (⊎_elim (λ u. inl u)
            (λ (e : Earlier s.lo y s.cols g.0 (get_or s.pred (get_or s.cols g.0 0) 0)). inr (record { p = e.p; p-q = omega (arith, e.p-lo); p-lo = e.p-lo; is = ap (λ (z : ℕ). get_or y z (pos 0)) (fo.1.kept e.p e.p-lo) ∙ e.is }))
            (h.path.chain g.0 g.2))
      ]

      t_of : ℤ → Scan O.C
      t_of z = record { lo = s.lo; hi = f.hi; d = s.d; cols = f.cols; pred = s.pred; found = z }

      t-path : (z : ℤ) → ((q : ℕ) → s.lo ≤ q → q < f.hi → is_free (get_or y (get_or f.cols q 0) (pos 0)) ≡ false) → PathOk n R y (t_of z)
      unfolding t_of
      t-path z taken = record {
        lo_hi = omega (arith, fo.0.lo_hi);
        hi_n = fo.0.hi-k;
        len_d = h.path.len_d;
        len_pred = h.path.len_pred;
        apart = fo.0.apart;
        held = λ q hq. elim (dec_lt q s.lo) [
          | yes l ↦ rw (fo.1.kept q l) (h.path.held q l)
          | no u ↦ m.seat (get_or f.cols q 0) (fo.0.apart.below q (omega (arith, fo.0.hi-k))) (taken q (omega arith) hq)
        ];
        chain = link';
      }

      pub found-path : (z : ℤ) → ((q : ℕ) → s.lo ≤ q → q < (find_dense O n s.lo s.d s.cols).hi → is_free (get_or y (get_or (find_dense O n s.lo s.d s.cols).cols q 0) (pos 0)) ≡ false)
          → PathOk n R y (record { lo = s.lo; hi = (find_dense O n s.lo s.d s.cols).hi; d = s.d; cols = (find_dense O n s.lo s.d s.cols).cols; pred = s.pred; found = z })
      unfolding f t_of
      found-path z taken = t-path z taken

      pub find-wide : s.lo ≤ (find_dense O n s.lo s.d s.cols).hi
      unfolding f
      find-wide = omega (arith, fo.0.lo_hi)

      t-found : (z : ℤ) → FreeAt y f.cols f.hi z → FoundOk (t_of z)
      unfolding t_of
      t-found z w = record { lo-n = ln; len_d = h.path.len_d; len_pred = h.path.len_pred; apart = fo.0.apart; upto = s.lo; link = link'; hit = record { q = w.q; q-b = omega (arith, w.q-b, fo.0.hi-k); is = w.is; open' = w.open' } }

      abbrev pub Next : Scan O.C → Type 0
      Next r = (Head r × (s.lo + 1 ≤ r.lo)) ⊎ FoundOk r

      go_on : (z : ℤ) → z ≡ free → ((q : ℕ) → s.lo ≤ q → q < f.hi → is_free (get_or y (get_or f.cols q 0) (pos 0)) ≡ false) → Ended (s.lo + 1) (scan_all O n cost y v (t_of z))
      unfolding t_of
      go_on z ez taken = scan-on (t_of z) fo.0.lo_hi ez (t-path z taken)

      dense-next : (z : ℤ) → z ≡ free → ((q : ℕ) → s.lo ≤ q → q < f.hi → is_free (get_or y (get_or f.cols q 0) (pos 0)) ≡ false) → Next (scan_dense O n cost y v (t_of z))
      unfolding scan_dense t_of
      dense-next z ez taken =
          let T : Scan O.C = scan_all O n cost y v (t_of z) in
          let E : Ended (s.lo + 1) T = go_on z ez taken in
          pick-by Next (is_free T.found) _ _
          (λ e. ⊎_elim (λ u. not-both _ e u)
          (λ (u : (T.lo ≡ T.hi) × (s.lo + 1 ≤ T.lo)). inl (
            record {
              path = record { lo_hi = le_refl T.lo; hi_n = omega (arith, u.0, E.path.hi_n); len_d = E.path.len_d; len_pred = E.path.len_pred; apart = E.path.apart; held = λ q l. E.path.held q (omega (arith, u.0)); chain = E.path.chain };
              none = hit-free T e E.hit;
            },
            u.1,
          ))
          E.end)
          (λ e. inr (record { lo-n = ln; len_d = E.path.len_d; len_pred = E.path.len_pred; apart = E.path.apart; upto = T.lo; link = E.path.chain; hit = ⊎_elim (λ u. not-both (is_free T.found) (ap is_free u) e) (λ u. u) E.hit }))

      pub turn-next : Next (search_turn O n cost y v s)
      unfolding search_turn to_scan f t_of
      turn-next =
          let last : ℤ = last_free y f.cols s.lo f.hi in
          pick-by Next (is_free last) _ _
          (λ e. ⊎_elim
          (λ (w : (last ≡ free) × ((q : ℕ) → s.lo ≤ q → q < f.hi → is_free (get_or y (get_or f.cols q 0) (pos 0)) ≡ false)). dense-next last w.0 w.1)
          (λ (w : FreeAt y f.cols f.hi last). not-both (is_free last) e (ap is_free w.is))
          (last-free y f.cols s.lo f.hi (omega (arith, fo.0.lo_hi))))
          (λ e. ⊎_elim
          (λ (w : (last ≡ free) × ((q : ℕ) → s.lo ≤ q → q < f.hi → is_free (get_or y (get_or f.cols q 0) (pos 0)) ≡ false)). not-both (is_free last) (ap is_free w.0) e)
          (λ (w : FreeAt y f.cols f.hi last). inr (t-found last w))
          (last-free y f.cols s.lo f.hi (omega (arith, fo.0.lo_hi))))

      -- the scan of this turn ends by itself
      pub scan-stops : scan_more (scan_all O n cost y v (to_scan O n cost y s)) ≡ false
      unfolding to_scan f t_of
      scan-stops =
          let last : ℤ = last_free y f.cols s.lo f.hi in
          ⊎_elim
          (λ (w : (last ≡ free) × ((q : ℕ) → s.lo ≤ q → q < f.hi → is_free (get_or y (get_or f.cols q 0) (pos 0)) ≡ false)).
          ⊎_elim (λ u. more-found _ u) (λ u. more-met _ u.0) (go_on last w.0 w.1).end)
          (λ (w : FreeAt y f.cols f.hi last). no-scan (t_of last) (ap is_free w.is))
          (last-free y f.cols s.lo f.hi (omega (arith, fo.0.lo_hi)))
        where
          no-scan : (t : Scan O.C) → is_free t.found ≡ false → scan_more (scan_all O n cost y v t) ≡ false
          no-scan t e = unfold scan_all in rw (runs_done scan_more (scan_turn O n cost y v) (n - t.lo) t (more-found t e)) (more-found t e)

    -- not all columns are taken, so that those before lo are not all
    module _ (room : Room n y) where
      pub lo-below : (s : Scan O.C) → Head s → s.lo < n
      lo-below s h = elim (dec_lt s.lo n) [
        | yes l ↦ l
        | no u ↦ absurd (room s.cols h.path.apart (λ q l. h.path.held q (omega arith)))
      ]

      search-runs : (g : ℕ) (s : Scan O.C) → Head s → n ≤ g + s.lo → FoundOk (runs search_more (search_turn O n cost y v) g s)
      unfolding runs search_more
      search-runs zero s h e = absurd (omega (arith, lo-below s h))
      search-runs (suc g) s h e =
          rw (ap is_free h.none)
          (⊎_elim
          (λ (w : Head (search_turn O n cost y v s) × (s.lo + 1 ≤ (search_turn O n cost y v s).lo)). search-runs g (search_turn O n cost y v s) w.0 (omega (arith, w.1)))
          (λ (w : FoundOk (search_turn O n cost y v s)). rw (runs_done search_more (search_turn O n cost y v) g (search_turn O n cost y v s) (ap is_free w.hit.is)) w)
          (turn-next s h (lo-below s h)))

      -- after any turns the search goes on as it began, or has found
      on-or-found : (g : ℕ) (s : Scan O.C) → Head s → Head (runs search_more (search_turn O n cost y v) g s) ⊎ FoundOk (runs search_more (search_turn O n cost y v) g s)
      unfolding runs search_more
      on-or-found zero s h = inl h
      on-or-found (suc g) s h =
          rw (ap is_free h.none)
          (⊎_elim
          (λ (w : Head (search_turn O n cost y v s) × (s.lo + 1 ≤ (search_turn O n cost y v s).lo)). on-or-found g (search_turn O n cost y v s) w.0)
          (λ (w : FoundOk (search_turn O n cost y v s)). inr (rw (runs_done search_more (search_turn O n cost y v) g (search_turn O n cost y v s) (ap is_free w.hit.is)) w))
          (turn-next s h (lo-below s h)))

      stops-after : (s : Scan O.C) → Head s ⊎ FoundOk s → search_more s ≡ true → scan_more (scan_all O n cost y v (to_scan O n cost y s)) ≡ false
      unfolding search_more
      stops-after s (inl h) e = scan-stops s h (lo-below s h)
      stops-after s (inr w) e = not-both (is_free s.found) e (ap is_free w.hit.is)

module _ (O : Ops) (n : ℕ) (cost : List O.C) (y : List ℤ) (v : List O.C) (m : Marked n y) (start : ℕ) (room : Room n y) where
  pub search-head : Head O n cost y v (λ i. i ≡ start) m (search_from O n cost start v)
  unfolding search_from
  search-head = record {
    none = refl;
    path = record {
      lo_hi = le_refl 0;
      hi_n = omega arith;
      len_d = length-tab _ n;
      len_pred = length-tab _ n;
      apart = record { len = length-tab _ n; below = λ i h. rw (get_or-tab (λ (j : ℕ). j) n 0 i h) h; inj = λ p q hp hq e. sym (get_or-tab (λ (j : ℕ). j) n 0 p hp) ∙ e ∙ get_or-tab (λ (j : ℕ). j) n 0 q hq };
      held = λ q l. absurd (omega arith);
      chain = λ q h. inl (rw (get_or-tab (λ (j : ℕ). j) n 0 q h) (get_or-tab (λ (_ : ℕ). start) n 0 q h));
    };
  }

  pub search-found : FoundOk O n cost y v (λ i. i ≡ start) m (search_path O n cost start y v)
  unfolding search_path
  search-found = search-runs O n cost y v (λ i. i ≡ start) m room _ (search_from O n cost start v) search-head (omega arith)

  pub scans_end : (k : ℕ) → search_more (searched O n cost k start y v) ≡ true → scan_more (scan_all O n cost y v (to_scan O n cost y (searched O n cost k start y v))) ≡ false
  unfolding searched
  scans_end k e = stops-after O n cost y v (λ i. i ≡ start) m room _ (on-or-found O n cost y v (λ i. i ≡ start) m room k (search_from O n cost start v) search-head) e
