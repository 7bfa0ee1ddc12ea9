-- `scan_dense`: hi ≤ k, the columns before hi are taken, and each column leads back to the start by rows scanned before it. Assumes nothing.
use mathlib.Core.Path.{ap, refl, sym, ◌∙◌, ◌≡◌}
use mathlib.Core.Bool.{false, not, true}
use mathlib.Core.List.{List}
use mathlib.Core.Logic.{inl, inr, ◌⊎◌, ⊎_elim}
use Prim.Native.Nat.{◌+◌, ◌-◌, ◌<◌, suc, ℕ, ◌≤◌}
use borrow.Author.Tests.{eq-eqb, ne_eqb}
use lib.Dec.{eqb}
use lib.IntN.{pos, ℤ}
use lib.ListN.{get_or, length, length-set, set}
use lib.Seq.{get_or-set_other, get_or-set_same}
use native.Mathlib.Decide.{ℕ_discrete}
use native.Mathlib.Nat.{le_refl}
use native.Mathlib.Omega.{arith}
use Rattle.lapjv_walk.specs.Holds.{Apart, Held, Marked, Seat}
use Rattle.lapjv_walk.specs.Loops.{walk}
use Rattle.lapjv_walk.specs.Marks.{free, index, is_free}
use Rattle.lapjv_walk.specs.Ops.{cost_at, Ops}
use Rattle.lapjv_walk.specs.Path.{exchanged, Scan, scan_col, scan_hit, scan_more, scan_row, scan_step, scan_turn}
use Rattle.lapjv_walk.proofs.Cases.{and-false, pick-by, pick_ind}
use Rattle.lapjv_walk.proofs.Loops.{walk-ind, walk-keeps}
use Rattle.lapjv_walk.proofs.Swap.{swap-apart}

-- the row before the column at q: one of R, as the start, or the row of a column that was scanned earlier
pub record Earlier (lo : ℕ) (y : List ℤ) (cols : List ℕ) (q i : ℕ) : Type 0 where
  pub p : ℕ
  pub p-q : p < q
  pub p-lo : p < lo
  pub is : get_or y (get_or cols p 0) (pos 0) ≡ pos i

abbrev pub Link : (ℕ → Type 0) → ℕ → List ℤ → List ℕ → ℕ → ℕ → Type 0
Link R lo y cols q i = R i ⊎ Earlier lo y cols q i

-- a state of the search from row start: the columns before hi are taken, and each column's row before it goes back to the start
pub record PathOk (n : ℕ) (R : ℕ → Type 0) (y : List ℤ) {C : Type 0} (s : Scan C) : Type 0 where
  pub lo_hi : s.lo ≤ s.hi
  pub hi_n : s.hi ≤ n
  pub len_d : length s.d ≡ n
  pub len_pred : length s.pred ≡ n
  pub apart : Apart n s.cols
  pub held : (q : ℕ) → q < s.hi → Seat n (get_or y (get_or s.cols q 0) (pos 0))
  pub chain : (q : ℕ) → q < n → Link R s.lo y s.cols q (get_or s.pred (get_or s.cols q 0) 0)

-- the same while row i, of the column before lo, is scanned at k
pub record ScanOk (n : ℕ) (R : ℕ → Type 0) (y : List ℤ) (i k : ℕ) {C : Type 0} (s : Scan C) : Type 0 where
  pub path : PathOk n R y s
  pub hi-k : s.hi ≤ k
  pub some : 0 < s.lo
  pub row : get_or y (get_or s.cols (s.lo - 1) 0) (pos 0) ≡ pos i

-- what the code of a row's scan asks: bounds alone
pub record RowOk (n k : ℕ) {C : Type 0} (s : Scan C) : Type 0 where
  pub hi-k : s.hi ≤ k
  pub len_d : length s.d ≡ n
  pub len_pred : length s.pred ≡ n
  pub apart : Apart n s.cols

pub scan≡ : {C : Type 0} {l l' h h' : ℕ} {d d' : List C} {c c' p p' : List ℕ} {f f' : ℤ} → l ≡ l' → h ≡ h' → d ≡ d' → c ≡ c' → p ≡ p' → f ≡ f'
    → ◌≡◌ {A = Scan C} (record { lo = l; hi = h; d = d; cols = c; pred = p; found = f }) (record { lo = l'; hi = h'; d = d'; cols = c'; pred = p'; found = f' })
scan≡ a b c d e f = λ i. record { lo = a i; hi = b i; d = c i; cols = d i; pred = e i; found = f i }

module _ (O : Ops) (n : ℕ) (cost : List O.C) (y : List ℤ) (v : List O.C) (i : ℕ) (h mind : O.C) where
  row_step : (k : ℕ) (s : Scan O.C) → k < n → RowOk n k s → RowOk n (suc k) (scan_step O n cost y v i h mind k s)
  unfolding scan_step scan_col scan_hit
  row_step k s hk o =
      let stay : RowOk n (suc k) s = record { hi-k = omega (arith, o.hi-k); len_d = o.len_d; len_pred = o.len_pred; apart = o.apart } in
      let j : ℕ = get_or s.cols k 0 in
      let c : O.C = O.sub (O.sub (cost_at O n cost i j) (get_or v j O.none)) h in
      let P : Scan O.C → Type 0 = λ t. RowOk n (suc k) t in
      let d' : length (set s.d j c) ≡ n = simp length-set o.len_d in
      let p' : length (set s.pred j i) ≡ n = simp length-set o.len_pred in
      pick_ind P (is_free s.found) _ _ (pick_ind P (O.lt c (get_or s.d j O.none)) _ _
      (pick_ind P (O.eq c mind) _ _
      (pick_ind P (is_free (get_or y j (pos 0))) _ _
      (record { hi-k = stay.hi-k; len_d = d'; len_pred = p'; apart = o.apart })
      (record { hi-k = omega (arith, o.hi-k); len_d = d'; len_pred = p'; apart = swap-apart n s.cols o.apart k s.hi hk (omega (arith, o.hi-k)) }))
      (record { hi-k = stay.hi-k; len_d = d'; len_pred = p'; apart = o.apart }))
      stay) stay

  pub row_ok : (a k : ℕ) (s : Scan O.C) → a ≤ k → k ≤ n → RowOk n a s → RowOk n k (walk (scan_step O n cost y v i h mind) a k s)
  row_ok a k s l u o = walk-ind (scan_step O n cost y v i h mind) (λ b t. RowOk n b t) a k s l o (λ b t _ lt p. row_step b t (omega arith) p)

  module _ (R : ℕ → Type 0) (m : Marked n y) where
    -- the column at k gets a distance and the row i before it
    lower-ok : (k : ℕ) (c : O.C) (s : Scan O.C) (f : ℤ) → k < n → ScanOk n R y i k s
        → ScanOk n R y i k (record { lo = s.lo; hi = s.hi; d = set s.d (get_or s.cols k 0) c; cols = s.cols; pred = set s.pred (get_or s.cols k 0) i; found = f })
    lower-ok k c s f hk o =
        let p = o.path in
        let a = p.apart in
        let j : ℕ = get_or s.cols k 0 in
        let jn : j < n = a.below k hk in
        let hk2 = o.hi-k in
        let some2 = o.some in
        let lh = p.lo_hi in
        record {
          path = record {
            lo_hi = p.lo_hi;
            hi_n = p.hi_n;
            len_d = simp length-set p.len_d;
            len_pred = simp length-set p.len_pred;
            apart = a;
            held = p.held;
            chain = λ q hq. elim (ℕ_discrete (get_or s.cols q 0) j) [
              | yes e ↦ inr (record { p = s.lo - 1; p-q = let qk : q ≡ k = a.inj q k hq hk e in omega arith; p-lo = omega arith; is = rw (e, get_or-set_same s.pred j i 0 (omega (arith, p.len_pred))) o.row })
              | no u ↦ rw (get_or-set_other s.pred j (get_or s.cols q 0) i 0 u) (p.chain q hq)
            ];
          };
          hi-k = o.hi-k;
          some = o.some;
          row = o.row;
        }

    -- the column at k, which is taken, joins those before hi
    join-ok : (k : ℕ) (s : Scan O.C) → k < n → ScanOk n R y i k s → is_free (get_or y (get_or s.cols k 0) (pos 0)) ≡ false
        → ScanOk n R y i (suc k) (record { lo = s.lo; hi = s.hi + 1; d = s.d; cols = exchanged s.cols k s.hi (get_or s.cols k 0); pred = s.pred; found = s.found })
    join-ok k s hk o taken =
        let p = o.path in
        let a = p.apart in
        let hk2 = o.hi-k in
        let some2 = o.some in
        let lh = p.lo_hi in
        let hin : s.hi < n = omega arith in
        let same : (q : ℕ) → q < s.hi → get_or (exchanged s.cols k s.hi (get_or s.cols k 0)) q 0 ≡ get_or s.cols q 0 = λ q h.
        get_or-set_other (set s.cols k (get_or s.cols s.hi 0)) s.hi q (get_or s.cols k 0) 0 (omega arith) ∙ get_or-set_other s.cols k q (get_or s.cols s.hi 0) 0 (omega arith) in
        let there : get_or (exchanged s.cols k s.hi (get_or s.cols k 0)) s.hi 0 ≡ get_or s.cols k 0 =
        get_or-set_same (set s.cols k (get_or s.cols s.hi 0)) s.hi (get_or s.cols k 0) 0 (simp length-set (omega (arith, a.len))) in
        let here : (k ≡ s.hi → ⊥) → get_or (exchanged s.cols k s.hi (get_or s.cols k 0)) k 0 ≡ get_or s.cols s.hi 0 = λ u.
        get_or-set_other (set s.cols k (get_or s.cols s.hi 0)) s.hi k (get_or s.cols k 0) 0 u ∙ get_or-set_same s.cols k (get_or s.cols s.hi 0) 0 (omega (arith, a.len)) in
        let other : (q : ℕ) → (q ≡ s.hi → ⊥) → (q ≡ k → ⊥) → get_or (exchanged s.cols k s.hi (get_or s.cols k 0)) q 0 ≡ get_or s.cols q 0 = λ q u w.
        get_or-set_other (set s.cols k (get_or s.cols s.hi 0)) s.hi q (get_or s.cols k 0) 0 u ∙ get_or-set_other s.cols k q (get_or s.cols s.hi 0) 0 w in
        let move : (q r x : ℕ) → Earlier s.lo y s.cols r x → r ≤ q ⊎ s.lo ≤ q → Earlier s.lo y (exchanged s.cols k s.hi (get_or s.cols k 0)) q x = λ q r x e h.
        record { p = e.p; p-q = ⊎_elim (λ u. omega (arith, e.p-q)) (λ u. omega (arith, e.p-lo)) h; p-lo = e.p-lo; is = rw (same e.p (omega (arith, e.p-lo))) e.is } in
        record {
          path = record {
            lo_hi = omega arith;
            hi_n = omega arith;
            len_d = p.len_d;
            len_pred = p.len_pred;
            apart = swap-apart n s.cols a k s.hi hk hin;
            held = λ q h. elim (ℕ_discrete q s.hi) [
              | yes e ↦ rw (e, there) (m.seat (get_or s.cols k 0) (a.below k hk) taken)
              | no u ↦ rw (same q (omega arith)) (p.held q (omega arith))
            ];
            chain = λ q hq. elim (ℕ_discrete q s.hi) [
              | yes e ↦ rw (e, there) (⊎_elim (λ u. inl u) (λ u. inr (move s.hi k (get_or s.pred (get_or s.cols k 0) 0) u (inr lh))) (p.chain k hk))
              | no u ↦ elim (ℕ_discrete q k) [
                | yes e ↦ rw (e, here (λ w. u (e ∙ w))) (⊎_elim (λ u. inl u) (λ u. inr (move k s.hi (get_or s.pred (get_or s.cols s.hi 0) 0) u (inl hk2))) (p.chain s.hi hin))
                | no w ↦ rw (other q u w) (⊎_elim (λ u. inl u) (λ u. inr (move q q (get_or s.pred (get_or s.cols q 0) 0) u (inl (le_refl q)))) (p.chain q hq))
              ]
            ];
          };
          hi-k = omega arith;
          some = o.some;
          row = rw (same (s.lo - 1) (omega arith)) o.row;
        }

    later : (k : ℕ) (s : Scan O.C) → ScanOk n R y i k s → ScanOk n R y i (suc k) s
    later k s o = record { path = o.path; hi-k = omega (arith, o.hi-k); some = o.some; row = o.row }

    hit-ok : (k : ℕ) (c : O.C) (s : Scan O.C) → k < n → ScanOk n R y i k s → ScanOk n R y i (suc k) (scan_hit O i mind y k (get_or s.cols k 0) c s)
    unfolding scan_hit
    hit-ok k c s hk o =
        let j : ℕ = get_or s.cols k 0 in
        let P : Scan O.C → Type 0 = λ t. ScanOk n R y i (suc k) t in
        pick_ind P (O.eq c mind) _ _
        (pick-by P (is_free (get_or y j (pos 0))) _ _
        (λ _. later k _ (lower-ok k c s (pos j) hk o))
        (λ e. join-ok k (record { lo = s.lo; hi = s.hi; d = set s.d j c; cols = s.cols; pred = set s.pred j i; found = s.found }) hk (lower-ok k c s s.found hk o) e))
        (later k _ (lower-ok k c s s.found hk o))

    column-ok : (k : ℕ) (s : Scan O.C) → k < n → ScanOk n R y i k s → ScanOk n R y i (suc k) (scan_step O n cost y v i h mind k s)
    unfolding scan_step scan_col
    column-ok k s hk o =
        let j : ℕ = get_or s.cols k 0 in
        let c : O.C = O.sub (O.sub (cost_at O n cost i j) (get_or v j O.none)) h in
        let P : Scan O.C → Type 0 = λ t. ScanOk n R y i (suc k) t in
        pick_ind P (is_free s.found) _ _ (pick_ind P (O.lt c (get_or s.d j O.none)) _ _ (hit-ok k c s hk o) (later k s o)) (later k s o)

    pub scan-ok : (a k : ℕ) (s : Scan O.C) → a ≤ k → k ≤ n → ScanOk n R y i a s → ScanOk n R y i k (walk (scan_step O n cost y v i h mind) a k s)
    scan-ok a k s l u o = walk-ind (scan_step O n cost y v i h mind) (λ b t. ScanOk n R y i b t) a k s l o (λ b t _ lt p. column-ok b t (omega arith) p)

  -- once a column is found, the rest of the row changes nothing
  pub found-fixed : (k : ℕ) (s : Scan O.C) → is_free s.found ≡ false → scan_step O n cost y v i h mind k s ≡ s
  unfolding scan_step
  found-fixed k s e = rw e

  -- a turn by its cases, with the cost r that it read
  module _ (k : ℕ) (s : Scan O.C) (r : O.C) (er : r ≡ cost_at O n cost i (get_or s.cols k 0)) (open' : is_free s.found ≡ true) where
    abbrev to : ℕ
    to = get_or s.cols k 0

    abbrev new : O.C
    new = O.sub (O.sub r (get_or v (get_or s.cols k 0) O.none)) h

    pub scan-skip : O.lt new (get_or s.d to O.none) ≡ false → scan_step O n cost y v i h mind k s ≡ s
    unfolding scan_step scan_col
    scan-skip e = rw (open', ← er, e)

    pub scan-lower : O.lt new (get_or s.d to O.none) ≡ true → O.eq new mind ≡ false
        → scan_step O n cost y v i h mind k s ≡ record { lo = s.lo; hi = s.hi; d = set s.d to new; cols = s.cols; pred = set s.pred to i; found = s.found }
    unfolding scan_step scan_col scan_hit
    scan-lower e e2 = rw (open', ← er, e, e2)

    pub scan-found : O.lt new (get_or s.d to O.none) ≡ true → O.eq new mind ≡ true → is_free (get_or y to (pos 0)) ≡ true
        → scan_step O n cost y v i h mind k s ≡ record { lo = s.lo; hi = s.hi; d = set s.d to new; cols = s.cols; pred = set s.pred to i; found = pos to }
    unfolding scan_step scan_col scan_hit
    scan-found e e2 e3 = rw (open', ← er, e, e2, e3)

    pub scan-join : O.lt new (get_or s.d to O.none) ≡ true → O.eq new mind ≡ true → is_free (get_or y to (pos 0)) ≡ false
        → scan_step O n cost y v i h mind k s ≡ record { lo = s.lo; hi = s.hi + 1; d = set s.d to new; cols = exchanged s.cols k s.hi to; pred = set s.pred to i; found = s.found }
    unfolding scan_step scan_col scan_hit
    scan-join e e2 e3 = rw (open', ← er, e, e2, e3)

pub free-path : {n : ℕ} {y : List ℤ} {C : Type 0} {s : Scan C} → Held n y s → PathOk n (λ _. Unit) y s
free-path h = record { lo_hi = h.lo_hi; hi_n = h.hi_n; len_d = h.len_d; len_pred = h.len_pred; apart = h.apart; held = h.held; chain = λ q hq. inl tt }

pub path-held : {n : ℕ} {R : ℕ → Type 0} {y : List ℤ} {C : Type 0} {s : Scan C} → PathOk n R y s → Held n y s
path-held h = record { lo_hi = h.lo_hi; hi_n = h.hi_n; len_d = h.len_d; len_pred = h.len_pred; apart = h.apart; held = h.held }

module _ (O : Ops) (n : ℕ) (cost : List O.C) (y : List ℤ) (v : List O.C) where
  step_lo : (i : ℕ) (h mind : O.C) (k : ℕ) (s : Scan O.C) → (scan_step O n cost y v i h mind k s).lo ≡ s.lo
  unfolding scan_step scan_col scan_hit
  step_lo i h mind k s =
      let P : Scan O.C → Type 0 = λ t. t.lo ≡ s.lo in
      let j : ℕ = get_or s.cols k 0 in
      let c : O.C = O.sub (O.sub (cost_at O n cost i j) (get_or v j O.none)) h in
      pick_ind P (is_free s.found) _ _ (pick_ind P (O.lt c (get_or s.d j O.none)) _ _ (pick_ind P (O.eq c mind) _ _ (pick_ind P (is_free (get_or y j (pos 0))) _ _ refl refl) refl) refl) refl

  -- each turn goes one column on
  pub turn-lo : (s : Scan O.C) → (scan_turn O n cost y v s).lo ≡ s.lo + 1
  unfolding scan_turn scan_row
  turn-lo s =
      let j : ℕ = get_or s.cols s.lo 0 in
      let i : ℕ = index (get_or y j (pos 0)) in
      let mind : O.C = get_or s.d j O.none in
      let h : O.C = O.sub (O.sub (cost_at O n cost i j) (get_or v j O.none)) mind in
      walk-keeps (scan_step O n cost y v i h mind) (λ t. t.lo ≡ s.lo + 1) s.hi n (record { lo = s.lo + 1; hi = s.hi; d = s.d; cols = s.cols; pred = s.pred; found = s.found }) refl
      (λ k t e. step_lo i h mind k t ∙ e)

module _ (O : Ops) (n : ℕ) (cost : List O.C) (y : List ℤ) (v : List O.C) (R : ℕ → Type 0) (m : Marked n y) where
  pub turn-ok : (s : Scan O.C) → s.lo < s.hi → PathOk n R y s → PathOk n R y (scan_turn O n cost y v s)
  unfolding scan_turn scan_row
  turn-ok s l p =
      let j : ℕ = get_or s.cols s.lo 0 in
      let i : ℕ = index (get_or y j (pos 0)) in
      let seat = p.held s.lo l in
      let e : s.lo + 1 - 1 ≡ s.lo = omega arith in
      let is : get_or y j (pos 0) ≡ pos i = seat.is ∙ ap pos (sym (ap index seat.is)) in
      (scan-ok O n cost y v i (O.sub (O.sub (cost_at O n cost i j) (get_or v j O.none)) (get_or s.d j O.none)) (get_or s.d j O.none) R m
      s.hi n (record { lo = s.lo + 1; hi = s.hi; d = s.d; cols = s.cols; pred = s.pred; found = s.found }) p.hi_n (omega arith)
      (record {
        path = record {
          lo_hi = omega arith;
          hi_n = p.hi_n;
          len_d = p.len_d;
          len_pred = p.len_pred;
          apart = p.apart;
          held = p.held;
          chain = λ q hq. ⊎_elim (λ u. inl u) (λ u. inr (record { p = u.p; p-q = u.p-q; p-lo = omega (arith, u.p-lo); is = u.is })) (p.chain q hq);
        };
        hi-k = omega arith;
        some = omega arith;
        row = rw e is;
      })).path

  -- what is found is a column, or nothing
  step-found : (i : ℕ) (h mind : O.C) (k : ℕ) (s : Scan O.C) → (s.found ≡ free) ⊎ (is_free s.found ≡ false) → ((scan_step O n cost y v i h mind k s).found ≡ free) ⊎ (is_free (scan_step O n cost y v i h mind k s).found ≡ false)
  unfolding scan_step scan_col scan_hit
  step-found i h mind k s e =
      let P : Scan O.C → Type 0 = λ t. (t.found ≡ free) ⊎ (is_free t.found ≡ false) in
      let j : ℕ = get_or s.cols k 0 in
      let c : O.C = O.sub (O.sub (cost_at O n cost i j) (get_or v j O.none)) h in
      pick_ind P (is_free s.found) _ _ (pick_ind P (O.lt c (get_or s.d j O.none)) _ _ (pick_ind P (O.eq c mind) _ _ (pick_ind P (is_free (get_or y j (pos 0))) _ _ (inr refl) e) e) e) e

  pub turn-found : (s : Scan O.C) → s.hi ≤ n → s.found ≡ free → ((scan_turn O n cost y v s).found ≡ free) ⊎ (is_free (scan_turn O n cost y v s).found ≡ false)
  unfolding scan_turn scan_row
  turn-found s hn e =
      let j : ℕ = get_or s.cols s.lo 0 in
      let i : ℕ = index (get_or y j (pos 0)) in
      let mind : O.C = get_or s.d j O.none in
      let h : O.C = O.sub (O.sub (cost_at O n cost i j) (get_or v j O.none)) mind in
      walk-ind (scan_step O n cost y v i h mind) (λ k t. (t.found ≡ free) ⊎ (is_free t.found ≡ false)) s.hi n (record { lo = s.lo + 1; hi = s.hi; d = s.d; cols = s.cols; pred = s.pred; found = s.found }) hn (inl e)
      (λ k t _ _ p. step-found i h mind k t p)

pub more_yes : {C : Type 0} (s : Scan C) → (s.lo ≡ s.hi → ⊥) → s.found ≡ free → scan_more s ≡ true
unfolding scan_more
more_yes s u e = rw (ne_eqb s.lo s.hi u, e)

pub more-met : {C : Type 0} (s : Scan C) → s.lo ≡ s.hi → scan_more s ≡ false
unfolding scan_more
more-met s e = rw (eq-eqb s.lo s.hi e)

pub more-found : {C : Type 0} (s : Scan C) → is_free s.found ≡ false → scan_more s ≡ false
unfolding scan_more
more-found s e = rw e (and-false (not (eqb s.lo s.hi)))
