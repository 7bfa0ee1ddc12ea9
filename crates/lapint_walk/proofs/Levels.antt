-- The search over whole numbers, level by level: it ends at a free column that is nearest, with distances that no row it scanned makes shorter. Assumes nothing.
use mathlib.Core.Path.{◌≡◌, refl, sym, subst, ◌∙◌, ap}
use mathlib.Core.Bool.{true, false, not}
use mathlib.Core.List.{List}
use mathlib.Core.Logic.{inl, inr, ◌⊎◌, ⊎_elim}
use Prim.Native.Nat.{ℕ, zero, suc, ◌+◌, ◌-◌, ◌≤◌, ◌<◌}
use borrow.Author.Tests.{eqb-false, not-true}
use lib.Dec.{eqb}
use lib.IntN.{ℤ, pos, ◌-ℤ◌}
use lib.Signed.{lt_z, le_z}
use lib.ListN.{get_or}
use native.Mathlib.Decide.{dec_lt, ℕ_discrete}
use native.Mathlib.Nat.{le_refl}
use native.Mathlib.Omega.{arith}
use Rattle.lists.proofs.Tab.{get_or-tab}
use Rattle.lapjv_walk.specs.Holds.{Apart, Marked, Room, Seat}
use Rattle.lapjv_walk.specs.Loops.{runs}
use Rattle.lapjv_walk.specs.Marks.{free, index, is_free}
use Rattle.lapjv_walk.specs.Ops.{cost_at}
use Rattle.lapjv_walk.specs.Path.{Find, find_dense, find_step, last_free, Scan, scan_all, scan_dense, scan_more, scan_row, scan_turn, search_from, search_more, search_path, search_turn, to_scan}
use Rattle.lapjv_walk.proofs.Cases.{and_left, and_right, lt_of, not-both, pick-by, pos-free, pos_inj}
use Rattle.lapjv_walk.proofs.Find.{find-from, FindOk, From, step_ok}
use Rattle.lapjv_walk.proofs.Loops.{runs_done, runs-more, walk-ind}
use Rattle.lapjv_walk.proofs.Pigeon.{at_place}
use Rattle.lapjv_walk.proofs.Route.{Ended, FreeAt, found-path, Head, last-free, lo-below, scan-on, search-head}
use Rattle.lapjv_walk.proofs.Search.{Earlier, Link, PathOk, turn-ok}
use Rattle.lapint_walk.specs.Wholes.{wholes}
use Rattle.lapint_walk.proofs.Numbers.{Le, Lt, Equal, minus, lt_yes, lt_not, le_yes, le_not}
use Rattle.lapint_walk.proofs.Good.{Good, same, val}
use Rattle.lapint_walk.proofs.Near.{Behind, Edge, ex-ind, Fair, Relaxed, Row, row_done, Short, Within}

-- ---- find_dense

-- of the columns before k: those from lo up to hi at the least distance, the others no nearer
record FindIs (lo k : ℕ) (d : List ℤ) (s : Find ℤ) : Type 0 where
  level : (q : ℕ) → lo ≤ q → q < s.hi → Equal (val d (get_or s.cols q 0)) s.mind
  above : (q : ℕ) → s.hi ≤ q → q < k → Le s.mind (val d (get_or s.cols q 0))

module _ (n lo : ℕ) (d : List ℤ) where
  find-step : (k : ℕ) (s : Find ℤ) → k < n → lo ≤ k → FindOk n lo k s → FindIs lo k d s → FindIs lo (suc k) d (find_step wholes lo d k s)
  unfolding find_step
  find-step k s hk lk p o =
      let j : ℕ = get_or s.cols k 0 in
      let e : ℤ = val d j in
      let P : Find ℤ → Type 0 = λ t. FindIs lo (suc k) d t in
      let len = p.apart.len in
      let lh = p.lo_hi in
      let hk2 = p.hi-k in
      -- any column from lo to k is no nearer than the least so far
      let any : (q : ℕ) → lo ≤ q → q < k → Le s.mind (val d (get_or s.cols q 0)) = λ q a b. elim (dec_lt q s.hi) [ yes h ↦ omega (arith, o.level q a h) | no h ↦ o.above q (omega arith) b ] in
      pick-by P (le_z e s.mind) _ _
      (λ le. pick-by P (lt_z e s.mind) _ _
      (λ lt.
      let nearer : Lt e s.mind = lt_yes e s.mind lt in
      record {
        level = λ q a b. ex-ind n s.cols len k lo hk (omega arith) (λ c. Equal (val d c) e) q (λ _. refl) (λ r. absurd (omega arith)) (λ u w. absurd (omega arith));
        above = λ q a b. ex-ind n s.cols len k lo hk (omega arith) (λ c. Le e (val d c)) q (λ r. absurd (omega arith)) (λ r. omega (arith, any lo (le_refl lo) (omega arith))) (λ u w. omega (arith, any q (omega arith) (omega arith)));
      })
      (λ ge.
      let met : Equal e s.mind = omega (arith, le_yes e s.mind le, lt_not e s.mind ge) in
      record {
        level = λ q a b. ex-ind n s.cols len k s.hi hk (omega arith) (λ c. Equal (val d c) s.mind) q (λ _. met) (λ r. let z : s.hi ≡ k = omega arith in rw z met) (λ u w. o.level q a (omega arith));
        above = λ q a b. ex-ind n s.cols len k s.hi hk (omega arith) (λ c. Le s.mind (val d c)) q (λ r. absurd (omega arith)) (λ r. o.above s.hi (le_refl _) (omega arith)) (λ u w. o.above q (omega arith) (omega arith));
      }))
      (λ gt. record { level = o.level; above = λ q a b. elim (ℕ_discrete q k) [ yes r ↦ rw r (omega (arith, le_not e s.mind gt)) | no u ↦ o.above q a (omega arith) ] })

  find-is : (cols : List ℕ) → lo < n → Apart n cols → FindIs lo n d (find_dense wholes n lo d cols)
  unfolding find_dense
  find-is cols hl a =
      let s0 : Find ℤ = record { cols = cols; hi = lo + 1; mind = val d (get_or cols lo 0) } in
      (walk-ind (find_step wholes lo d) (λ k s. FindOk n lo k s × FindIs lo k d s) (lo + 1) n s0 (omega arith) (
        record { lo_hi = omega arith; hi-k = omega arith; apart = a },
        record { level = λ q b h. let z : q ≡ lo = omega arith in rw z refl; above = λ q b h. absurd (omega arith) },
      )
      (λ k t l hk w. (step_ok wholes n lo d k t hk w.0, find-step k t hk (omega arith) w.0 w.1))).1

module _ (n : ℕ) (cost y v : List ℤ) (start : ℕ) (g : Good n cost y v) (marks : Marked n y) where
  abbrev R : ℕ → Type 0
  R i = i ≡ start

  abbrev pub PathN : Scan ℤ → Type 0
  PathN s = PathOk n (λ i. i ≡ start) y s

  -- ---- scan_dense

  -- between two scans of rows, at the level m, whose columns begin at base
  record Level (base : ℕ) (m : ℤ) (s : Scan ℤ) : Type 0 where
    base-lo : base ≤ s.lo
    wide : base < s.hi
    fair : Fair n cost y v start base s.lo s.hi m s.d s.cols s.pred
    done : (p r k : ℕ) → p < s.lo → (p < base) ⊎ (is_free s.found ≡ true) → k < n → get_or y (get_or s.cols p 0) (pos 0) ≡ pos r → Short n cost y v start s.d r (get_or s.cols p 0) k
    got : (j : ℕ) → s.found ≡ pos j → Le (val s.d j) m

  widen : (a b : ℕ) → a ≤ b → (d : List ℤ) (cols : List ℕ) (i j : ℕ) → Edge n cost y v start a d cols i j → Edge n cost y v start b d cols i j
  widen a b h d cols i j (inl w) = inl w
  widen a b h d cols i j (inr w) = inr (record { p = w.p; p-u = omega (arith, w.p-u); is = w.is; even = w.even })

  module _ (base : ℕ) (m : ℤ) where
    -- the row of the next column is scanned
    scanned : (s : Scan ℤ) → s.lo < s.hi → is_free s.found ≡ true → PathN s → Level base m s → (seat : Seat n (get_or y (get_or s.cols s.lo 0) (pos 0)))
        → Row n cost y v start base s.lo (get_or s.cols s.lo 0) (index (get_or y (get_or s.cols s.lo 0) (pos 0))) n m (scan_turn wholes n cost y v s)
    unfolding scan_turn scan_row
    scanned s lt open' p o seat =
        let c : ℕ = get_or s.cols s.lo 0 in
        let i : ℕ = index (get_or y c (pos 0)) in
        let F = o.fair in
        let hn = p.hi_n in
        let bl = o.base-lo in
        let hc : c < n = p.apart.below s.lo (omega arith) in
        let is : get_or y c (pos 0) ≡ pos i = seat.is ∙ ap pos (sym (ap index seat.is)) in
        let e : s.lo + 1 - 1 ≡ s.lo = omega arith in
        let early : Le (val s.d c) m = F.early s.lo lt in
        let late : Le m (val s.d c) = F.late s.lo bl (omega arith) in
        let t : Scan ℤ = record { lo = s.lo + 1; hi = s.hi; d = s.d; cols = s.cols; pred = s.pred; found = s.found } in
        row_done n cost y v start base s.lo c i m bl is hc (λ k hk. g.tight c i k hc hk is) (val s.d c) (omega arith) (λ i. i ≡ start) marks t hn
        (record {
          path = record {
            lo_hi = omega arith;
            hi_n = p.hi_n;
            len_d = p.len_d;
            len_pred = p.len_pred;
            apart = p.apart;
            held = p.held;
            chain = λ q hq. ⊎_elim (λ u. inl u) (λ (u : Earlier s.lo y s.cols q (get_or s.pred (get_or s.cols q 0) 0)). inr (record { p = u.p; p-q = u.p-q; p-lo = omega (arith, u.p-lo); is = u.is })) (p.chain q hq);
          };
          hi-k = le_refl _;
          some = omega arith;
          row = rw e is;
        })
        (record {
          lo-is = refl;
          at-l = refl;
          fair = record { from_start = F.from_start; edge = λ j hj. widen s.lo (s.lo + 1) (omega arith) s.d s.cols (get_or s.pred j 0) j (F.edge j hj); early = F.early; late = F.late };
          done = λ q r k hq hk y_is. o.done q r k hq (inr open') hk y_is;
          now = λ _ q hq. omega (arith, F.early q hq, g.tight c i (get_or s.cols q 0) hc (p.apart.below q (omega arith)) is);
          got = o.got;
          len_d = p.len_d;
          len_pred = p.len_pred;
        })

    after : (l c i : ℕ) (t : Scan ℤ) → base ≤ l → get_or y c (pos 0) ≡ pos i → Row n cost y v start base l c i n m t → PathN t → Level base m t
    after l c i t bl yc w q =
        let lo = w.lo-is in
        record {
          base-lo = omega arith;
          wide = omega (arith, q.lo_hi);
          fair = rw lo w.fair;
          done = λ p r k hp cond hk is. elim (ℕ_discrete p l) [
            | yes e ↦ ⊎_elim (λ (u : p < base). absurd (omega arith))
                (λ (u : is_free t.found ≡ true).
                let pl : get_or t.cols p 0 ≡ c = ap (λ (z : ℕ). get_or t.cols z 0) e ∙ w.at-l in
                let ri : i ≡ r = pos_inj i r (sym yc ∙ ap (λ (z : ℕ). get_or y z (pos 0)) (sym pl) ∙ is) in
                let a = at_place n t.cols q.apart k hk in
                rw (pl, ← ri, ← a.2) (w.now u a.0 a.1))
                cond
            | no u ↦ w.done p r k (omega arith) hk is
          ];
          got = w.got;
        }

    turn_level : (s : Scan ℤ) → s.lo < s.hi → is_free s.found ≡ true → PathN s → Level base m s → Level base m (scan_turn wholes n cost y v s)
    turn_level s lt open' p o =
        let seat = p.held s.lo lt in
        after s.lo (get_or s.cols s.lo 0) (index (get_or y (get_or s.cols s.lo 0) (pos 0))) (scan_turn wholes n cost y v s) o.base-lo
        (seat.is ∙ ap pos (sym (ap index seat.is))) (scanned s lt open' p o seat) (turn-ok wholes n cost y v (λ i. i ≡ start) marks s lt p)

    more-open : (s : Scan ℤ) → scan_more s ≡ true → (is_free s.found ≡ true) × (s.lo ≡ s.hi → ⊥)
    unfolding scan_more
    more-open s e = (and_right (not (eqb s.lo s.hi)) (is_free s.found) e, eqb-false s.lo s.hi (not-true _ (and_left (not (eqb s.lo s.hi)) (is_free s.found) e)))

    runs-level : (f : ℕ) (s : Scan ℤ) → PathN s → Level base m s → Level base m (runs scan_more (scan_turn wholes n cost y v) f s)
    unfolding runs
    runs-level zero s p o = o
    runs-level (suc f) s p o =
        pick-by (λ (t : Scan ℤ). Level base m t) (scan_more s) _ _
        (λ e.
        let w = more-open s e in
        let lt : s.lo < s.hi = lt_of p.lo_hi w.1 in
        runs-level f (scan_turn wholes n cost y v s) (turn-ok wholes n cost y v (λ i. i ≡ start) marks s lt p) (turn_level s lt w.0 p o))
        (λ _. o)

    scan-level : (s : Scan ℤ) → PathN s → Level base m s → Level base m (scan_all wholes n cost y v s)
    unfolding scan_all
    scan-level s p o = runs-level (n - s.lo) s p o

  -- ---- the search

  record HeadIs (s : Scan ℤ) : Type 0 where
    from_start : (k : ℕ) → k < n → Within (val s.d k) (cost_at wholes n cost start k) (val v k)
    edge : (j : ℕ) → j < n → Edge n cost y v start s.lo s.d s.cols (get_or s.pred j 0) j
    done : Relaxed n cost y v start s.lo s.d s.cols
    order : (p q : ℕ) → p < s.lo → s.lo ≤ q → q < n → Le (val s.d (get_or s.cols p 0)) (val s.d (get_or s.cols q 0))

  -- the search is over: the free column found is at most m away, the columns before lo at most m, the others at least m
  pub record Found (s : Scan ℤ) : Type 0 where
    pub m : ℤ
    pub hi : ℕ
    pub upto : ℕ
    pub lo_hi : s.lo < hi
    pub upto-hi : upto ≤ hi
    pub hi_n : hi ≤ n
    pub apart : Apart n s.cols
    pub held : (q : ℕ) → q < s.lo → Seat n (get_or y (get_or s.cols q 0) (pos 0))
    pub link : (q : ℕ) → q < n → Link (λ i. i ≡ start) upto y s.cols q (get_or s.pred (get_or s.cols q 0) 0)
    pub fair : Fair n cost y v start s.lo upto hi m s.d s.cols s.pred
    pub done : Relaxed n cost y v start s.lo s.d s.cols
    pub last : FreeAt y s.cols n s.found
    pub got : (j : ℕ) → s.found ≡ pos j → Le (val s.d j) m

  abbrev HeadN : Scan ℤ → Type 0
  HeadN s = Head wholes n cost y v (λ i. i ≡ start) marks s

  module _ (s : Scan ℤ) (h : HeadN s) (o : HeadIs s) (ln : s.lo < n) where
    f : Find ℤ
    f = find_dense wholes n s.lo s.d s.cols

    fo : FindOk n s.lo n f × From n s.lo s.cols f.cols
    unfolding f
    fo = find-from wholes n s.lo s.d s.cols ln h.path.apart

    fi : FindIs s.lo n s.d f
    unfolding f
    fi = find-is n s.lo s.d s.cols ln h.path.apart

    t_of : ℤ → Scan ℤ
    t_of z = record { lo = s.lo; hi = f.hi; d = s.d; cols = f.cols; pred = s.pred; found = z }

    t-fair : Fair n cost y v start s.lo s.lo f.hi f.mind s.d f.cols s.pred
    t-fair =
        let kept = fo.1.kept in
        let r = fo.1.from s.lo ln (le_refl s.lo) in
        let near : Equal (val s.d (get_or f.cols s.lo 0)) f.mind = fi.level s.lo (le_refl s.lo) fo.0.lo_hi in
        record {
          from_start = o.from_start;
          edge = λ j hj. ⊎_elim (λ w. inl w)
              (λ (w : Behind n cost y v start s.lo s.d s.cols (get_or s.pred j 0) j). inr (record { p = w.p; p-u = w.p-u; is = rw (kept w.p w.p-u) w.is; even = rw (kept w.p w.p-u) w.even }))
              (o.edge j hj);
          early = λ q hq. elim (dec_lt q s.lo) [
            | yes l ↦ rw (kept q l) (omega (arith, o.order q r.0 l r.1 r.2, same (ap (λ (c : ℕ). val s.d c) r.3)))
            | no u ↦ omega (arith, fi.level q (omega arith) hq)
          ];
          late = λ q b hq. elim (dec_lt q f.hi) [ yes l ↦ omega (arith, fi.level q b l) | no u ↦ fi.above q (omega arith) hq ];
        }

    t-done : Relaxed n cost y v start s.lo s.d f.cols
    t-done p r k hp hk is = rw (fo.1.kept p hp) (o.done p r k hp hk (rw (fo.1.kept p hp) at is))

    t-level : (z : ℤ) → ((j : ℕ) → z ≡ pos j → Le (val s.d j) f.mind) → Level s.lo f.mind (t_of z)
    unfolding t_of
    t-level z got = record { base-lo = le_refl s.lo; wide = fo.0.lo_hi; fair = t-fair; done = λ p r k hp _ hk is. t-done p r k hp hk is; got = got }

    t-link : (q : ℕ) → q < n → Link (λ i. i ≡ start) s.lo y f.cols q (get_or s.pred (get_or f.cols q 0) 0)
    t-link q hq = elim (dec_lt q s.lo) [
      | yes l ↦ rw (fo.1.kept q l) (⊎_elim (λ u. inl u)
          (λ (e : Earlier s.lo y s.cols q (get_or s.pred (get_or s.cols q 0) 0)). inr (record { p = e.p; p-q = e.p-q; p-lo = e.p-lo; is = ap (λ (z : ℕ). get_or y z (pos 0)) (fo.1.kept e.p e.p-lo) ∙ e.is }))
          (h.path.chain q hq))
      | no u ↦
          let w = fo.1.from q hq (omega arith) in
          rw w.3 (⊎_elim (λ u. inl u)
          (λ (e : Earlier s.lo y s.cols w.0 (get_or s.pred (get_or s.cols w.0 0) 0)). inr (record { p = e.p; p-q = omega (arith, e.p-lo); p-lo = e.p-lo; is = ap (λ (z : ℕ). get_or y z (pos 0)) (fo.1.kept e.p e.p-lo) ∙ e.is }))
          (h.path.chain w.0 w.2))
    ]

    -- a column of this level is free
    t-found : (z : ℤ) → FreeAt y f.cols f.hi z → Found (t_of z)
    unfolding t_of
    t-found z w = record {
      m = f.mind;
      hi = f.hi;
      upto = s.lo;
      lo_hi = fo.0.lo_hi;
      upto-hi = omega (arith, fo.0.lo_hi);
      hi_n = fo.0.hi-k;
      apart = fo.0.apart;
      held = λ q l. rw (fo.1.kept q l) (h.path.held q l);
      link = t-link;
      fair = t-fair;
      done = t-done;
      last = record { q = w.q; q-b = omega (arith, w.q-b, fo.0.hi-k); is = w.is; open' = w.open' };
      got = λ j e. let z : get_or f.cols w.q 0 ≡ j = pos_inj (get_or f.cols w.q 0) j (sym w.is ∙ e) in rw (← z) (t-fair.early w.q w.q-b);
    }

    abbrev Next : Scan ℤ → Type 0
    Next r = (HeadN r × HeadIs r × (s.lo + 1 ≤ r.lo)) ⊎ Found r

    abbrev Taken : Type 0
    Taken = (q : ℕ) → s.lo ≤ q → q < f.hi → is_free (get_or y (get_or f.cols q 0) (pos 0)) ≡ false

    t-path : (z : ℤ) → Taken → PathN (t_of z)
    unfolding f t_of
    t-path z taken = found-path wholes n cost y v (λ i. i ≡ start) marks s h ln z taken

    -- none is: their rows are scanned
    dense-next : (z : ℤ) → z ≡ free → Taken → Next (scan_dense wholes n cost y v (t_of z))
    unfolding scan_dense t_of
    dense-next z ez taken =
        let T : Scan ℤ = scan_all wholes n cost y v (t_of z) in
        let E : Ended wholes n cost y v (λ i. i ≡ start) marks (s.lo + 1) T = scan-on wholes n cost y v (λ i. i ≡ start) marks (t_of z) fo.0.lo_hi ez (t-path z taken) in
        let L : Level s.lo f.mind T = scan-level s.lo f.mind (t_of z) (t-path z taken) (t-level z (λ j e. absurd (pos-free j (sym e ∙ ez)))) in
        pick-by Next (is_free T.found) _ _
        (λ e. ⊎_elim (λ u. not-both _ e u)
        (λ (u : (T.lo ≡ T.hi) × (s.lo + 1 ≤ T.lo)). inl (
          record {
            path = record { lo_hi = le_refl T.lo; hi_n = omega (arith, u.0, E.path.hi_n); len_d = E.path.len_d; len_pred = E.path.len_pred; apart = E.path.apart; held = λ q l. E.path.held q (omega (arith, u.0)); chain = E.path.chain };
            none = ⊎_elim (λ w. w) (λ (w : FreeAt y T.cols n T.found). not-both (is_free T.found) e (ap is_free w.is)) E.hit;
          },
          record {
            from_start = L.fair.from_start;
            edge = L.fair.edge;
            done = λ p r k hp hk is. L.done p r k hp (inr e) hk is;
            order = λ p q hp hq hn. omega (arith, L.fair.early p (omega (arith, u.0)), L.fair.late q (omega (arith, u.1)) hn);
          },
          u.1,
        ))
        E.end)
        (λ e. inr (record {
          m = f.mind;
          hi = T.hi;
          upto = T.lo;
          lo_hi = L.wide;
          upto-hi = E.path.lo_hi;
          hi_n = E.path.hi_n;
          apart = E.path.apart;
          held = λ q l. E.path.held q (omega (arith, L.wide));
          link = E.path.chain;
          fair = L.fair;
          done = λ p r k hp hk is. L.done p r k (omega (arith, L.base-lo)) (inl hp) hk is;
          last = ⊎_elim (λ u. not-both (is_free T.found) (ap is_free u) e) (λ u. u) E.hit;
          got = L.got;
        }))

    turn-next : Next (search_turn wholes n cost y v s)
    unfolding search_turn to_scan f t_of
    turn-next =
        let last : ℤ = last_free y f.cols s.lo f.hi in
        pick-by Next (is_free last) _ _
        (λ e. ⊎_elim
        (λ (w : (last ≡ free) × Taken). dense-next last w.0 w.1)
        (λ (w : FreeAt y f.cols f.hi last). not-both (is_free last) e (ap is_free w.is))
        (last-free y f.cols s.lo f.hi (omega (arith, fo.0.lo_hi))))
        (λ e. ⊎_elim
        (λ (w : (last ≡ free) × Taken). not-both (is_free last) (ap is_free w.0) e)
        (λ (w : FreeAt y f.cols f.hi last). inr (t-found last w))
        (last-free y f.cols s.lo f.hi (omega (arith, fo.0.lo_hi))))

  module _ (room : Room n y) where
    more : (s : Scan ℤ) → s.found ≡ free → search_more s ≡ true
    unfolding search_more
    more s e = ap is_free e

    no_more : (s : Scan ℤ) → is_free s.found ≡ false → search_more s ≡ false
    unfolding search_more
    no_more s e = e

    over : (b : ℕ) (s t : Scan ℤ) → search_turn wholes n cost y v s ≡ t → Found t → Found (runs search_more (search_turn wholes n cost y v) b t)
    over b s t e w = subst (λ (r : Scan ℤ). Found r) (sym (runs_done search_more (search_turn wholes n cost y v) b t (no_more t (ap is_free w.last.is)))) w

    search-runs : (b : ℕ) (s : Scan ℤ) → HeadN s → HeadIs s → n ≤ b + s.lo → Found (runs search_more (search_turn wholes n cost y v) b s)
    search-runs zero s h o e = absurd (omega (arith, lo-below wholes n cost y v (λ i. i ≡ start) marks room s h))
    search-runs (suc b) s h o e =
        subst (λ (r : Scan ℤ). Found r) (sym (runs-more search_more (search_turn wholes n cost y v) b s (more s h.none)))
        (next (search_turn wholes n cost y v s) refl (λ h' o' l. search-runs b (search_turn wholes n cost y v s) h' o' (omega arith)) (turn-next s h o (lo-below wholes n cost y v (λ i. i ≡ start) marks room s h)))
      where
        next : (t : Scan ℤ) → search_turn wholes n cost y v s ≡ t → (HeadN t → HeadIs t → s.lo + 1 ≤ t.lo → Found (runs search_more (search_turn wholes n cost y v) b t)) → (HeadN t × HeadIs t × (s.lo + 1 ≤ t.lo)) ⊎ Found t
            → Found (runs search_more (search_turn wholes n cost y v) b t)
        next t q ih (inl w) = ih w.0 w.1 w.2
        next t q ih (inr w) = over b s t q w

    head-is : HeadIs (search_from wholes n cost start v)
    unfolding search_from
    head-is =
        let d : (j : ℕ) → j < n → get_or (search_from wholes n cost start v).d j (pos 0) ≡ cost_at wholes n cost start j -ℤ val v j = λ j hj. get_or-tab (λ (k : ℕ). cost_at wholes n cost start k -ℤ val v k) n (pos 0) j hj in
        record {
          from_start = λ k hk. omega (arith, same (d k hk), minus (cost_at wholes n cost start k) (val v k));
          edge = λ j hj. inl (get_or-tab (λ (_ : ℕ). start) n 0 j hj, omega (arith, same (d j hj), minus (cost_at wholes n cost start j) (val v j)));
          done = λ p r k hp. absurd (omega arith);
          order = λ p q hp. absurd (omega arith);
        }

    pub found : Found (search_path wholes n cost start y v)
    unfolding search_path
    found = search-runs n (search_from wholes n cost start v) (search-head wholes n cost y v marks start room) head-is (omega arith)
