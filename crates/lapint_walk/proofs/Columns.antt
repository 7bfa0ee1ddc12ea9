-- `ccrt_dense` over whole numbers: after it `Good` holds. Assumes nothing.
use mathlib.Core.Path.{◌≡◌, refl, sym, ◌∙◌, ap}
use mathlib.Core.Bool.{Bool, false}
use mathlib.Core.List.{List}
use mathlib.Core.Logic.{inl, inr, ◌⊎◌, ⊎_elim}
use Prim.Native.Nat.{ℕ, suc, ◌-◌, ◌≤◌, ◌<◌}
use borrow.Author.Tests.{eqb-true}
use lib.Dec.{eqb}
use lib.IntN.{ℤ, pos, ◌-ℤ◌}
use lib.Signed.{lt_z}
use lib.ListN.{get_or, length, length-set, set}
use lib.Seq.{get_or-set_other, get_or-set_same}
use native.Mathlib.Decide.{ℕ_discrete}
use native.Mathlib.Nat.{le_refl}
use native.Mathlib.Omega.{arith}
use Rattle.lists.proofs.Tab.{get_or-tab, length-tab}
use Rattle.lapjv_walk.specs.Ccrt.{Assign, assign, assign_from, assign_step, ccrt_dense, Collect, collect, collect_step, other_min, other_step, Reduce, reduce_columns, reduce_row, reduce_step}
use Rattle.lapjv_walk.specs.Holds.{AssignOk, Seated, SitsFrom}
use Rattle.lapjv_walk.specs.Loops.{walk}
use Rattle.lapjv_walk.specs.Marks.{free, index, is_free}
use Rattle.lapjv_walk.specs.Ops.{cost_at}
use Rattle.lapjv_walk.proofs.Assign.{assign-ok}
use Rattle.lapjv_walk.proofs.Cases.{not-both, pick-by, pick_ind, pos-free, pos_inj, seat-below}
use Rattle.lapjv_walk.proofs.Loops.{walk-ind}
use Rattle.lapjv_walk.proofs.Whole.{columns-ok}
use Rattle.lapint_walk.specs.Wholes.{wholes}
use Rattle.lapint_walk.specs.Holds.{Prices, Small}
use Rattle.lapint_walk.proofs.Bits.{good-prices, rc-low}
use Rattle.lapint_walk.proofs.Numbers.{Le, Top, Low, Equal, minus, lt_yes, lt_not}
use Rattle.lapint_walk.proofs.Good.{Costs, Good, has-good, rc, same, val}

-- ---- the column reduction

-- column j, after the first m rows
record ColIs (n : ℕ) (cost : List ℤ) (m j : ℕ) (s : Reduce ℤ) : Type 0 where
  least : (i : ℕ) → i < m → Le (val s.v j) (cost_at wholes n cost i j)
  from : 0 < m → cost_at wholes n cost (index (get_or s.y j (pos 0))) j ≡ val s.v j
  begins : m ≡ 0 → val s.v j ≡ wholes.large

record Sized (n : ℕ) (s : Reduce ℤ) : Type 0 where
  len_v : length s.v ≡ n
  len_y : length s.y ≡ n

module _ (n : ℕ) (cost : List ℤ) (cs : Costs n cost) (i : ℕ) (hi : i < n) where
  size_step : (j : ℕ) (s : Reduce ℤ) → Sized n s → Sized n (reduce_step wholes n cost i j s)
  unfolding reduce_step
  size_step j s o = pick_ind (λ (t : Reduce ℤ). Sized n t) (lt_z (cost_at wholes n cost i j) (val s.v j)) _ _ (record { len_v = simp length-set o.len_v; len_y = simp length-set o.len_y }) o

  col-other : (j q m : ℕ) (s : Reduce ℤ) → (q ≡ j → ⊥) → ColIs n cost m q s → ColIs n cost m q (reduce_step wholes n cost i j s)
  unfolding reduce_step
  col-other j q m s u o =
      let c : ℤ = cost_at wholes n cost i j in
      let ev : get_or (set s.v j c) q (pos 0) ≡ val s.v q = get_or-set_other s.v j q c (pos 0) u in
      let ey : get_or (set s.y j (pos i)) q (pos 0) ≡ get_or s.y q (pos 0) = get_or-set_other s.y j q (pos i) (pos 0) u in
      pick_ind (λ (t : Reduce ℤ). ColIs n cost m q t) (lt_z c (val s.v j)) _ _
      (record { least = λ k h. rw ev (o.least k h); from = λ h. rw (ev, ey) (o.from h); begins = λ h. rw ev (o.begins h) })
      o

  col-step : (j : ℕ) (s : Reduce ℤ) → j < n → Sized n s → ColIs n cost i j s → ColIs n cost (suc i) j (reduce_step wholes n cost i j s)
  unfolding reduce_step
  col-step j s hj z o =
      let c : ℤ = cost_at wholes n cost i j in
      let ev : get_or (set s.v j c) j (pos 0) ≡ c = get_or-set_same s.v j c (pos 0) (omega (arith, z.len_v)) in
      let ey : get_or (set s.y j (pos i)) j (pos 0) ≡ pos i = get_or-set_same s.y j (pos i) (pos 0) (omega (arith, z.len_y)) in
      pick-by (λ (t : Reduce ℤ). ColIs n cost (suc i) j t) (lt_z c (val s.v j)) _ _
      (λ e. record {
        least = λ k h. rw ev (elim (ℕ_discrete k i) [ yes a ↦ rw a (le_refl _) | no u ↦ omega (arith, o.least k (omega arith), lt_yes c (val s.v j) e) ]);
        from = λ h. rw (ev, ey) refl;
        begins = λ h. absurd (omega arith);
      })
      (λ e. record {
        least = λ k h. elim (ℕ_discrete k i) [ yes a ↦ rw a (lt_not c (val s.v j) e) | no u ↦ o.least k (omega arith) ];
        from = λ h. elim (ℕ_discrete i 0) [ yes a ↦ absurd (omega (arith, lt_not c (val s.v j) e, same (o.begins a), cs.top i j hi hj)) | no u ↦ o.from (omega arith) ];
        begins = λ h. absurd (omega arith);
      })

  row_is : (s : Reduce ℤ) → Sized n s × ((q : ℕ) → q < n → ColIs n cost i q s) → Sized n (reduce_row wholes n cost i s) × ((q : ℕ) → q < n → ColIs n cost (suc i) q (reduce_row wholes n cost i s))
  unfolding reduce_row
  row_is s o =
      let r = walk-ind (reduce_step wholes n cost i) (λ k t. Sized n t × ((q : ℕ) → q < n → (q < k → ColIs n cost (suc i) q t) × (k ≤ q → ColIs n cost i q t))) 0 n s (omega arith)
      (o.0, λ q h. ((λ l. absurd (omega arith)), (λ l. o.1 q h)))
      (λ j t _ hj p. (
        size_step j t p.0,
        λ q h. (
          (λ l. elim (ℕ_discrete q j) [ yes a ↦ rw a (col-step j t hj p.0 ((p.1 j hj).1 (le_refl j))) | no u ↦ col-other j q (suc i) t u ((p.1 q h).0 (omega arith)) ]),
          (λ l. col-other j q i t (omega arith) ((p.1 q h).1 (omega arith))),
        ),
      )) in
      (r.0, λ q h. (r.1 q h).0 h)

columns-are : (n : ℕ) (cost : List ℤ) → Costs n cost → Sized n (reduce_columns wholes n cost) × ((q : ℕ) → q < n → ColIs n cost n q (reduce_columns wholes n cost))
unfolding reduce_columns
columns-are n cost cs =
    walk-ind (reduce_row wholes n cost) (λ i t. Sized n t × ((q : ℕ) → q < n → ColIs n cost i q t)) 0 n _ (omega arith) (
      record { len_v = length-tab (λ _. wholes.large) n; len_y = length-tab (λ _. pos 0) n },
      λ q h. record { least = λ i l. absurd (omega arith); from = λ l. absurd (omega arith); begins = λ _. get_or-tab (λ _. wholes.large) n (pos 0) q h },
    )
    (λ i t _ hi p. row_is n cost cs i hi t p)

-- ---- rows to columns: a column keeps its row or is freed

module _ (n : ℕ) (y : List ℤ) where
  keeps-step : (j : ℕ) (s : Assign) → j < n → (length s.y ≡ n) × ((q : ℕ) → (get_or s.y q (pos 0) ≡ get_or y q (pos 0)) ⊎ (get_or s.y q (pos 0) ≡ free))
      → (length (assign_step j s).y ≡ n) × ((q : ℕ) → (get_or (assign_step j s).y q (pos 0) ≡ get_or y q (pos 0)) ⊎ (get_or (assign_step j s).y q (pos 0) ≡ free))
  unfolding assign_step
  keeps-step j s hj p =
      pick_ind (λ (t : Assign). (length t.y ≡ n) × ((q : ℕ) → (get_or t.y q (pos 0) ≡ get_or y q (pos 0)) ⊎ (get_or t.y q (pos 0) ≡ free)))
      (is_free (get_or s.x (index (get_or s.y j (pos 0))) (pos 0))) _ _
      p (
        simp length-set p.0,
        λ q. elim (ℕ_discrete q j) [
          | yes a ↦ inr (rw a (get_or-set_same s.y j free (pos 0) (omega (arith, p.0))))
          | no u ↦ rw (get_or-set_other s.y j q free (pos 0) u) (p.1 q)
        ],
      )

  keeps : length y ≡ n → (q : ℕ) → (get_or (assign n y).y q (pos 0) ≡ get_or y q (pos 0)) ⊎ (get_or (assign n y).y q (pos 0) ≡ free)
  unfolding assign assign_from
  keeps ly = (walk-ind (λ (k : ℕ) (t : Assign). assign_step (n - suc k) t) (λ k t. (length t.y ≡ n) × ((q : ℕ) → (get_or t.y q (pos 0) ≡ get_or y q (pos 0)) ⊎ (get_or t.y q (pos 0) ≡ free))) 0 n _ (omega arith)
      (ly, λ q. inl refl)
      (λ k t _ hk p. keeps-step (n - suc k) t (omega arith) p)).1

-- ---- the rows left over, and prices that fall

-- the least reduced cost of row i away from column j, of the columns before k
record MinIs (n : ℕ) (cost v : List ℤ) (i j k : ℕ) (m : ℤ) : Type 0 where
  least : (q : ℕ) → q < k → (q ≡ j → ⊥) → Le m (rc n cost v i q)
  some : Low 0 m
  most : Top 1_000_000_000_000 m

module _ (n : ℕ) (cost v : List ℤ) (i j : ℕ) (all : (q : ℕ) → q < n → Low 0 (rc n cost v i q)) where
  min-step : (k : ℕ) (m : ℤ) → k < n → MinIs n cost v i j k m → MinIs n cost v i j (suc k) (other_step wholes n cost i j v k m)
  unfolding other_step
  min-step k m hk o =
      let c : ℤ = rc n cost v i k in
      let P : ℤ → Type 0 = λ r. MinIs n cost v i j (suc k) r in
      pick-by P (eqb k j) _ _
      (λ e. record { least = λ q h u. elim (ℕ_discrete q k) [ yes a ↦ absurd (u (a ∙ eqb-true k j e)) | no w ↦ o.least q (omega arith) u ]; some = o.some; most = o.most })
      (λ _. pick-by P (lt_z c m) _ _
      (λ e. record {
        least = λ q h u. elim (ℕ_discrete q k) [ yes a ↦ rw a (le_refl _) | no w ↦ omega (arith, o.least q (omega arith) u, lt_yes c m e) ];
        some = all k hk;
        most = omega (arith, lt_yes c m e, o.most);
      })
      (λ e. record { least = λ q h u. elim (ℕ_discrete q k) [ yes a ↦ rw a (lt_not c m e) | no w ↦ o.least q (omega arith) u ]; some = o.some; most = o.most }))

  min-is : MinIs n cost v i j n (other_min wholes n cost i j v)
  unfolding other_min
  min-is = walk-ind (other_step wholes n cost i j v) (λ k m. MinIs n cost v i j k m) 0 n wholes.large (omega arith)
      (record { least = λ q h u. absurd (omega arith); some = omega arith; most = omega arith })
      (λ k m _ hk p. min-step k m hk p)

-- it is from -2,000,000 to the start value
pub min-small : (n : ℕ) (cost v : List ℤ) (i j : ℕ) → Costs n cost → Prices n v → i < n → Small (other_min wholes n cost i j v)
unfolding other_min other_step
min-small n cost v i j cs ps hi =
    let r = walk-ind (other_step wholes n cost i j v) (λ k m. Top 1_000_000_000_000 m × Low 2_000_000 m) 0 n wholes.large (omega arith) (omega arith, omega arith)
    (λ k m _ hk p. pick_ind (λ (z : ℤ). Top 1_000_000_000_000 z × Low 2_000_000 z) (eqb k j) _ _ p
    (pick-by (λ (z : ℤ). Top 1_000_000_000_000 z × Low 2_000_000 z) (lt_z (rc n cost v i k) m) _ _ (λ e. (omega (arith, lt_yes (rc n cost v i k) m e, p.0), rc-low n cost v cs ps i k hi hk)) (λ _. p))) in
    record { top = omega (arith, r.0); low = omega (arith, r.1) }

-- while the rows from k on have not been looked at, their columns have their costs for prices
record Going (n : ℕ) (cost y : List ℤ) (k : ℕ) (v : List ℤ) : Type 0 where
  good : Good n cost y v
  fresh : (j i : ℕ) → j < n → k ≤ i → get_or y j (pos 0) ≡ pos i → val v j ≡ cost_at wholes n cost i j

module _ (n : ℕ) (cost : List ℤ) (cs : Costs n cost) (a : Assign) (ao : AssignOk n 0 a) where
  later : (k : ℕ) (v : List ℤ) → Going n cost a.y k v → Going n cost a.y (suc k) v
  later k v o = record { good = o.good; fresh = λ j i hj h e. o.fresh j i hj (omega arith) e }

  falls : (k : ℕ) (v : List ℤ) → k < n → Going n cost a.y k v → (j : ℕ) → j < n → get_or a.y j (pos 0) ≡ pos k → Going n cost a.y (suc k) (set v j (val v j -ℤ other_min wholes n cost k j v))
  falls k v hk o j hj yj =
      let g = o.good in
      let lv = g.len_v in
      let m : ℤ = other_min wholes n cost k j v in
      let w : ℤ = val v j -ℤ m in
      let at : get_or (set v j w) j (pos 0) ≡ w = get_or-set_same v j w (pos 0) (omega arith) in
      let off : (q : ℕ) → (q ≡ j → ⊥) → get_or (set v j w) q (pos 0) ≡ get_or v q (pos 0) = λ q u. get_or-set_other v j q w (pos 0) u in
      let price : Equal (val v j) (cost_at wholes n cost k j) = same (o.fresh j k hj (le_refl k) yj) in
      let M : MinIs n cost v k j n m = min-is n cost v k j (λ q hq. omega (arith, g.tight j k q hj hq yj, price, minus (cost_at wholes n cost k q) (val v q))) in
      let mw = minus (val v j) m in
      record {
        good = has-good n cost a.y a.y v (set v j w) g k j yj (λ q u. refl) (simp length-set lv) off
            (rw at (omega (arith, M.some)))
            (λ q hq. rw at (elim (ℕ_discrete q j) [
              | yes e ↦ rw (e, at) (omega arith)
              | no u ↦ rw (off q u) (omega (arith, M.least q hq u, minus (cost_at wholes n cost k q) (val v q)))
            ]))
            (rw at (omega (arith, M.most, cs.low k j hk hj)))
            (λ f hf ne e. rw at (omega (arith, M.least f hf ne, minus (cost_at wholes n cost k f) (val v f), g.open_low f hf e, cs.low k j hk hj, cs.top k f hk hf)));
        fresh = λ q i hq h e. elim (ℕ_discrete q j) [
          | yes r ↦ absurd (let z : k ≡ i = pos_inj k i (sym yj ∙ ap (λ (t : ℕ). get_or a.y t (pos 0)) (sym r) ∙ e) in omega arith)
          | no u ↦ off q u ∙ o.fresh q i hq (omega arith) e
        ];
      }

  collect-step : (k : ℕ) (s : Collect ℤ) → k < n → Going n cost a.y k s.v → Going n cost a.y (suc k) (collect_step wholes n cost a.x a.unique k s).v
  unfolding collect_step
  collect-step k s hk o =
      let P : Collect ℤ → Type 0 = λ t. Going n cost a.y (suc k) t.v in
      pick-by P (is_free (get_or a.x k (pos 0))) _ _
      (λ _. later k s.v o)
      (λ e. pick_ind P (get_or a.unique k false) _ _
      (⊎_elim
      (λ u. not-both (is_free (get_or a.x k (pos 0))) (ap is_free u) e)
      (λ (t : SitsFrom n 0 a.x a.y k). let z : index (get_or a.x k (pos 0)) ≡ t.j = ap index t.x_is in rw z (falls k s.v hk o t.j t.j_n t.y_is))
      (ao.x_y k hk))
      (later k s.v o))

  -- after any rows, with any list for the rows left over
  collect-way : (rows : List ℕ) (v : List ℤ) → Going n cost a.y 0 v → (k : ℕ) → k ≤ n → Good n cost a.y (walk (collect_step wholes n cost a.x a.unique) 0 k (record { rows = rows; count = 0; v = v })).v
  collect-way rows v o k h = (walk-ind (collect_step wholes n cost a.x a.unique) (λ b t. Going n cost a.y b t.v) 0 k (record { rows = rows; count = 0; v = v }) (omega arith) o (λ b t _ hb p. collect-step b t (omega arith) p)).good

  collect-good : (v : List ℤ) → Going n cost a.y 0 v → Good n cost a.y (collect wholes n cost a v).v
  unfolding collect
  collect-good v o = (walk-ind (collect_step wholes n cost a.x a.unique) (λ k t. Going n cost a.y k t.v) 0 n _ (omega arith) o (λ k t _ hk p. collect-step k t hk p)).good

-- ---- the whole

module _ (n : ℕ) (cost : List ℤ) (cs : Costs n cost) (some : 0 < n) where
  start-going : Going n cost (assign n (reduce_columns wholes n cost).y).y 0 (reduce_columns wholes n cost).v
  start-going =
      let r : Reduce ℤ = reduce_columns wholes n cost in
      let a : Assign = assign n r.y in
      let sy : Seated n r.y = (columns-ok wholes n cost some).1 in
      let ao : AssignOk n 0 a = assign-ok n r.y sy in
      let C = columns-are n cost cs in
      let back : (j i : ℕ) → get_or a.y j (pos 0) ≡ pos i → get_or r.y j (pos 0) ≡ pos i = λ j i e.
      ⊎_elim (λ (u : get_or a.y j (pos 0) ≡ get_or r.y j (pos 0)). sym u ∙ e) (λ (u : get_or a.y j (pos 0) ≡ free). absurd (pos-free i (sym e ∙ u))) (keeps n r.y C.0.len_y j) in
      let price : (j i : ℕ) → j < n → get_or r.y j (pos 0) ≡ pos i → val r.v j ≡ cost_at wholes n cost i j = λ j i hj e.
      sym ((C.1 j hj).from some) ∙ ap (λ (z : ℤ). cost_at wholes n cost (index z) j) e in
      let low : (j : ℕ) → j < n → Low 1_000_000 (val r.v j) = λ j hj. let t = sy.seat j hj in omega (arith, same (price j t.at hj t.is), cs.low t.at j t.below hj) in
      record {
        good = record {
          len_v = C.0.len_v;
          tight = λ j i k hj hk e. omega (arith, same (price j i hj (back j i e)), (C.1 k hk).least i (seat-below n (get_or a.y j (pos 0)) i e (ao.high j hj)));
          top = λ j hj. omega (arith, (C.1 j hj).least 0 some, cs.top 0 j some hj);
          deep = λ j hj. omega (arith, low j hj);
          open_low = λ f hf _. low f hf;
          rest_low = λ f j _ hj _. omega (arith, low j hj);
        };
        fresh = λ j i hj _ e. price j i hj (back j i e);
      }

  pub ccrt-good : Good n cost (ccrt_dense wholes n cost).y (ccrt_dense wholes n cost).v
  unfolding ccrt_dense
  ccrt-good =
      let r : Reduce ℤ = reduce_columns wholes n cost in
      collect-good n cost cs (assign n r.y) (assign-ok n r.y (columns-ok wholes n cost some).1) r.v start-going

  -- the prices while the rows left over are collected
  pub collect-prices : (x y : List ℤ) (u : List Bool) (v w : List ℤ) (rows : List ℕ) → reduce_columns wholes n cost ≡ record { v = v; y = w } → assign n w ≡ record { x = x; y = y; unique = u }
      → (k : ℕ) → k ≤ n → Prices n (walk (collect_step wholes n cost x u) 0 k (record { rows = rows; count = 0; v = v })).v
  collect-prices x y u v w rows er ea k h =
      let sy : Seated n w = rw er at (columns-ok wholes n cost some).1 in
      let ao = rw ea at (assign-ok n w sy) in
      let go : Going n cost y 0 v = rw ea at (rw er at start-going) in
      good-prices (collect-way n cost cs (record { x = x; y = y; unique = u }) ao rows v go k h)
