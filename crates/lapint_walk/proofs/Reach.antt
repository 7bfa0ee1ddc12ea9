-- Distances stay small while a search goes on. Assumes nothing.
use mathlib.Core.Path.{◌≡◌, refl, sym, subst, ◌∙◌, ap}
use mathlib.Core.Bool.{true, not}
use mathlib.Core.List.{List}
use mathlib.Core.Logic.{inl, inr, ◌⊎◌}
use Prim.Native.Nat.{ℕ, zero, suc, ◌+◌, ◌-◌, ◌≤◌, ◌<◌}
use borrow.Author.Tests.{eqb-false, not-true}
use lib.Dec.{eqb}
use lib.IntN.{ℤ, pos, ◌-ℤ◌}
use lib.Signed.{lt_z}
use lib.ListN.{get_or, length, set}
use lib.Seq.{get_or-set_other, get_or-set_same}
use native.Mathlib.Decide.{ℕ_discrete}
use native.Mathlib.Nat.{le_refl}
use native.Mathlib.Omega.{arith}
use Rattle.lists.proofs.Tab.{get_or-tab}
use Rattle.lapjv_walk.specs.Holds.{Held, Marked, Room}
use Rattle.lapjv_walk.specs.Loops.{runs, walk}
use Rattle.lapjv_walk.specs.Marks.{free, index, is_free}
use Rattle.lapjv_walk.specs.Ops.{cost_at}
use Rattle.lapjv_walk.specs.Path.{Scan, scan_all, scan_col, scan_dense, scan_hit, scan_more, scan_row, scan_step, scan_turn, search_from, search_more, search_path, search_turn, to_scan}
use Rattle.lapjv_walk.proofs.Cases.{and_left, lt_of, pick-by, pick_ind}
use Rattle.lapjv_walk.proofs.Loops.{runs_done, runs-more, walk-ind, walk_more, walk_none}
use Rattle.lapjv_walk.proofs.Route.{FoundOk, Head, lo-below, search-head, turn-next}
use Rattle.lapjv_walk.proofs.Search.{free-path, path-held, row_ok, RowOk, turn-ok}
use Rattle.lapjv_walk.proofs.ToScan.{to-scan-held}
use Rattle.lapint_walk.specs.Wholes.{eq_z, wholes}
use Rattle.lapint_walk.specs.Holds.{Far}
use Rattle.lapint_walk.proofs.Numbers.{Top, Low, minus, lt_yes}
use Rattle.lapint_walk.proofs.Good.{Costs, Good, open-column, same, val}

module _ (n : ℕ) (cost y v : List ℤ) (g : Good n cost y v) (marks : Marked n y) where
  far-set : (d : List ℤ) (j : ℕ) (e : ℤ) → length d ≡ n → j < n → Top 10_000_000 e → Low 10_000_000 e → Far n d → Far n (set d j e)
  far-set d j e len hj t l f = record {
    top = λ q hq. elim (ℕ_discrete q j) [ yes r ↦ rw (r, get_or-set_same d j e (pos 0) (omega arith)) t | no u ↦ rw (get_or-set_other d j q e (pos 0) u) (f.top q hq) ];
    low = λ q hq. elim (ℕ_discrete q j) [ yes r ↦ rw (r, get_or-set_same d j e (pos 0) (omega arith)) l | no u ↦ rw (get_or-set_other d j q e (pos 0) u) (f.low q hq) ];
  }

  module _ (i c : ℕ) (mind : ℤ) (hc : c < n) (yc : get_or y c (pos 0) ≡ pos i) (mt : Top 10_000_000 mind) (ml : Low 10_000_000 mind) where
    abbrev h : ℤ
    h = cost_at wholes n cost i c -ℤ val v c -ℤ mind

    step-far : (k : ℕ) (s : Scan ℤ) → k < n → RowOk n k s → Far n s.d → Far n (scan_step wholes n cost y v i h mind k s).d
    unfolding scan_step scan_col scan_hit
    step-far k s hk o f =
        let j : ℕ = get_or s.cols k 0 in
        let hj : j < n = o.apart.below k hk in
        let e : ℤ = cost_at wholes n cost i j -ℤ val v j -ℤ h in
        let P : Scan ℤ → Type 0 = λ t. Far n t.d in
        let m1 = minus (cost_at wholes n cost i j) (val v j) in
        let m2 = minus (cost_at wholes n cost i j -ℤ val v j) h in
        let m3 = minus (cost_at wholes n cost i c) (val v c) in
        let m4 = minus (cost_at wholes n cost i c -ℤ val v c) mind in
        pick_ind P (is_free s.found) _ _ (pick-by P (lt_z e (val s.d j)) _ _
        (λ less.
        let w : Far n (set s.d j e) = far-set s.d j e o.len_d hj (omega (arith, lt_yes e (val s.d j) less, f.top j hj)) (omega (arith, g.tight c i j hc hj yc)) f in
        pick_ind P (eq_z e mind) _ _ (pick_ind P (is_free (get_or y j (pos 0))) _ _ w w) w)
        (λ _. f)) f

    row-far : (s : Scan ℤ) → s.hi ≤ n → RowOk n s.hi s → Far n s.d → Far n (walk (scan_step wholes n cost y v i h mind) s.hi n s).d
    row-far s hn o f =
        (walk-ind (scan_step wholes n cost y v i h mind) (λ k t. RowOk n k t × Far n t.d) s.hi n s hn (o, f)
        (λ k t _ hk w. (row_one k t hk w.0, step-far k t hk w.0 w.1))).1
      where
        row_one : (k : ℕ) (t : Scan ℤ) → k < n → RowOk n k t → RowOk n (suc k) (scan_step wholes n cost y v i h mind k t)
        row_one k t hk p =
            let f : ℕ → Scan ℤ → Scan ℤ = scan_step wholes n cost y v i h mind in
            let one : k + 1 ≡ suc k = omega arith in
            rw (walk_more f k k t (le_refl k), walk_none f k t, one) at (row_ok wholes n cost y v i h mind k (k + 1) t (omega arith) (omega arith) p)

  pub turn-far : (s : Scan ℤ) → s.lo < s.hi → Held n y s → Far n s.d → Far n (scan_turn wholes n cost y v s).d
  unfolding scan_turn scan_row
  turn-far s lt p f =
      let c : ℕ = get_or s.cols s.lo 0 in
      let i : ℕ = index (get_or y c (pos 0)) in
      let seat = p.held s.lo lt in
      let hc : c < n = p.apart.below s.lo (omega (arith, p.hi_n)) in
      row-far i c (val s.d c) hc (seat.is ∙ ap pos (sym (ap index seat.is))) (f.top c hc) (f.low c hc)
      (record { lo = s.lo + 1; hi = s.hi; d = s.d; cols = s.cols; pred = s.pred; found = s.found }) p.hi_n (record { hi-k = le_refl _; len_d = p.len_d; len_pred = p.len_pred; apart = p.apart }) f

  turn-held : (s : Scan ℤ) → s.lo < s.hi → Held n y s → Held n y (scan_turn wholes n cost y v s)
  turn-held s lt p = path-held (turn-ok wholes n cost y v (λ _. Unit) marks s lt (free-path p))

  more_lt : (s : Scan ℤ) → scan_more s ≡ true → s.lo ≡ s.hi → ⊥
  unfolding scan_more
  more_lt s e = eqb-false s.lo s.hi (not-true _ (and_left (not (eqb s.lo s.hi)) (is_free s.found) e))

  runs-far : (b : ℕ) (s : Scan ℤ) → Held n y s → Far n s.d → Far n (runs scan_more (scan_turn wholes n cost y v) b s).d
  unfolding runs
  runs-far zero s p f = f
  runs-far (suc b) s p f =
      pick-by (λ (t : Scan ℤ). Far n t.d) (scan_more s) _ _
      (λ e. let lt : s.lo < s.hi = lt_of p.lo_hi (more_lt s e) in runs-far b (scan_turn wholes n cost y v s) (turn-held s lt p) (turn-far s lt p f))
      (λ _. f)

  scan-far : (s : Scan ℤ) → Held n y s → Far n s.d → Far n (scan_dense wholes n cost y v s).d
  unfolding scan_dense scan_all
  scan-far s p f = let w = runs-far (n - s.lo) s p f in pick_ind (λ (t : Scan ℤ). Far n t.d) (is_free (runs scan_more (scan_turn wholes n cost y v) (n - s.lo) s).found) _ _ w w

  to-scan-d : (s : Scan ℤ) → (to_scan wholes n cost y s).d ≡ s.d
  unfolding to_scan
  to-scan-d s = refl

  pub search-far : (s : Scan ℤ) → Held n y (record { lo = s.lo; hi = s.lo; d = s.d; cols = s.cols; pred = s.pred; found = free }) → s.lo < n → Far n s.d → Far n (search_turn wholes n cost y v s).d
  unfolding search_turn
  search-far s p ln f =
      let t : Far n (to_scan wholes n cost y s).d = rw (to-scan-d s) f in
      pick-by (λ (r : Scan ℤ). Far n r.d) (is_free (to_scan wholes n cost y s).found) _ _
      (λ e. scan-far (to_scan wholes n cost y s) (to-scan-held wholes n cost y marks s p ln e) t)
      (λ _. t)

  module _ (cs : Costs n cost) (start : ℕ) (hs : start < n) (room : Room n y) where
    pub start-far : Far n (search_from wholes n cost start v).d
    unfolding search_from
    start-far =
        let f = open-column n y marks room in
        let d : (j : ℕ) → j < n → get_or (search_from wholes n cost start v).d j (pos 0) ≡ cost_at wholes n cost start j -ℤ val v j = λ j hj. get_or-tab (λ (k : ℕ). cost_at wholes n cost start k -ℤ val v k) n (pos 0) j hj in
        record {
          top = λ j hj. omega (arith, same (d j hj), minus (cost_at wholes n cost start j) (val v j), cs.top start j hs hj, g.rest_low f.0 j f.1 hj f.2);
          low = λ j hj. omega (arith, same (d j hj), minus (cost_at wholes n cost start j) (val v j), cs.low start j hs hj, g.top j hj);
        }

    abbrev HeadN : Scan ℤ → Type 0
    HeadN s = Head wholes n cost y v (λ i. i ≡ start) marks s

    -- at the end of a search
    ends-far : (b : ℕ) (s : Scan ℤ) → HeadN s → Far n s.d → Far n (runs search_more (search_turn wholes n cost y v) b s).d
    ends-far zero s h f = unfold runs in f
    ends-far (suc b) s h f =
        subst (λ (r : Scan ℤ). Far n r.d) (sym (runs-more search_more (search_turn wholes n cost y v) b s (unfold search_more in ap is_free h.none)))
        (next (search_turn wholes n cost y v s) (λ h' f'. ends-far b (search_turn wholes n cost y v s) h' f')
        (search-far s (held-free h) ln f) (turn-next wholes n cost y v (λ i. i ≡ start) marks s h ln))
      where
        ln : s.lo < n
        ln = lo-below wholes n cost y v (λ i. i ≡ start) marks room s h

        held-free : HeadN s → Held n y (record { lo = s.lo; hi = s.lo; d = s.d; cols = s.cols; pred = s.pred; found = free })
        held-free k = let p = path-held k.path in record { lo_hi = p.lo_hi; hi_n = p.hi_n; len_d = p.len_d; len_pred = p.len_pred; apart = p.apart; held = p.held }

        next : (t : Scan ℤ) → (HeadN t → Far n t.d → Far n (runs search_more (search_turn wholes n cost y v) b t).d) → Far n t.d
            → (HeadN t × (s.lo + 1 ≤ t.lo)) ⊎ FoundOk wholes n cost y v (λ i. i ≡ start) marks t → Far n (runs search_more (search_turn wholes n cost y v) b t).d
        next t ih ft (inl w) = ih w.0 ft
        next t ih ft (inr w) = subst (λ (r : Scan ℤ). Far n r.d) (sym (runs_done search_more (search_turn wholes n cost y v) b t (unfold search_more in ap is_free w.hit.is))) ft

    pub path-far : Far n (search_path wholes n cost start y v).d
    unfolding search_path
    path-far = ends-far n (search_from wholes n cost start v) (search-head wholes n cost y v marks start room) start-far
