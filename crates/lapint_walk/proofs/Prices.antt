-- The prices after a search: each column's row still has no cheaper column, and neither has the row before each column that is at most m away. Assumes nothing.
use mathlib.Core.Path.{◌≡◌, refl, sym, ◌∙◌, ap}
use mathlib.Core.Bool.{false, true}
use mathlib.Core.List.{List}
use mathlib.Core.Logic.{inl, inr, ◌⊎◌, ⊎_elim}
use Prim.Native.Nat.{ℕ, zero, suc, ◌+◌, ◌≤◌, ◌<◌}
use borrow.Author.Tests.{eq-eqb}
use lib.IntN.{ℤ, pos, ◌+ℤ◌, ◌-ℤ◌}
use lib.ListN.{get_or, length, length-set, set}
use lib.Seq.{get_or-set_other, get_or-set_same}
use native.Mathlib.Decide.{dec_lt, ℕ_discrete}
use native.Mathlib.Nat.{le_refl}
use native.Mathlib.Omega.{arith}
use Rattle.lapjv_walk.specs.Holds.{Apart, Marked}
use Rattle.lapjv_walk.specs.Lapjv.{hop, hop_more, Trail}
use Rattle.lapjv_walk.specs.Loops.{runs, walk}
use Rattle.lapjv_walk.specs.Marks.{is_free}
use Rattle.lapjv_walk.specs.Ops.{cost_at}
use Rattle.lapjv_walk.specs.Path.{raise, raise_step, Scan}
use Rattle.lapjv_walk.proofs.Cases.{not-both, pick-by, pos_inj}
use Rattle.lapjv_walk.proofs.Loops.{runs_done, walk-ind}
use Rattle.lapjv_walk.proofs.Pigeon.{at_place}
use Rattle.lapjv_walk.proofs.Search.{Earlier}
use Rattle.lapint_walk.specs.Holds.{Prices, Small}
use Rattle.lapint_walk.specs.Wholes.{wholes}
use Rattle.lapint_walk.proofs.Bits.{price-only}
use Rattle.lapint_walk.proofs.Numbers.{up, down, Le, Low, Equal, LeMinus, minus, plus}
use Rattle.lapint_walk.proofs.Good.{Costs, Good, same, val}
use Rattle.lapint_walk.proofs.Near.{Edge}
use Rattle.lapint_walk.proofs.Levels.{Found}

-- w - v is d - m
abbrev pub Shift : ℤ → ℤ → ℤ → ℤ → Type 0
Shift w v d m = up w + down v + down d + up m ≡ down w + up v + up d + down m

-- the prices of the columns at places before k have changed
record Raised (n : ℕ) (v d : List ℤ) (cols : List ℕ) (mind : ℤ) (k : ℕ) (w : List ℤ) : Type 0 where
  len : length w ≡ n
  inner : (p : ℕ) → p < k → Shift (val w (get_or cols p 0)) (val v (get_or cols p 0)) (val d (get_or cols p 0)) mind
  outer : (j : ℕ) → ((p : ℕ) → p < k → get_or cols p 0 ≡ j → ⊥) → val w j ≡ val v j

module _ (n : ℕ) (v d : List ℤ) (cols : List ℕ) (a : Apart n cols) (lo : ℕ) (ln : lo ≤ n) (lv : length v ≡ n) where
  raise-step : (mind : ℤ) (k : ℕ) (w : List ℤ) → k < n → Raised n v d cols mind k w → Raised n v d cols mind (suc k) (raise_step wholes mind d cols k w)
  unfolding raise_step
  raise-step mind k w hk o =
      let j : ℕ = get_or cols k 0 in
      let hj : j < n = a.below k hk in
      let e : ℤ = val w j +ℤ (val d j -ℤ mind) in
      let apart : (p : ℕ) → p < k → get_or cols p 0 ≡ j → ⊥ = λ p h r. let z : p ≡ k = a.inj p k (omega arith) hk r in omega arith in
      let here : get_or (set w j e) j (pos 0) ≡ e = get_or-set_same w j e (pos 0) (omega (arith, o.len)) in
      let there : (q : ℕ) → (q ≡ j → ⊥) → get_or (set w j e) q (pos 0) ≡ val w q = λ q u. get_or-set_other w j q e (pos 0) u in
      record {
        len = simp length-set o.len;
        inner = λ p h. elim (ℕ_discrete p k) [
          | yes r ↦ rw (r, here) (omega (arith, same (o.outer j apart), plus (val w j) (val d j -ℤ mind), minus (val d j) mind))
          | no u ↦ rw (there (get_or cols p 0) (apart p (omega arith))) (o.inner p (omega arith))
        ];
        outer = λ q u. there q (λ r. u k (omega arith) (sym r)) ∙ o.outer q (λ p h. u p (omega arith));
      }

  -- the next column's price is as it was
  pub raised_at : (mind : ℤ) (k : ℕ) → k < n → val (walk (raise_step wholes mind d cols) 0 k v) (get_or cols k 0) ≡ val v (get_or cols k 0)
  raised_at mind k hk =
      (walk-ind (raise_step wholes mind d cols) (λ b w. Raised n v d cols mind b w) 0 k v (omega arith)
      (record { len = lv; inner = λ p h. absurd (omega arith); outer = λ j u. refl })
      (λ b w _ hb o. raise-step mind b w (omega arith) o)).outer (get_or cols k 0) (λ p h e. let z : p ≡ k = a.inj p k (omega arith) hk e in omega arith)

  pub raised-small : (mind : ℤ) → Prices n v → (k : ℕ) → k < lo → Small (val (walk (raise_step wholes mind d cols) 0 k v) (get_or cols k 0))
  raised-small mind p k h = let hk : k < n = omega arith in rw (raised_at mind k hk) (price-only p (get_or cols k 0) (a.below k hk))

  raised : Raised n v d cols (val d (get_or cols lo 0)) lo (raise wholes lo d cols v)
  unfolding raise
  raised = walk-ind (raise_step wholes (val d (get_or cols lo 0)) d cols) (λ k w. Raised n v d cols (val d (get_or cols lo 0)) k w) 0 lo v (omega arith)
      (record { len = lv; inner = λ p h. absurd (omega arith); outer = λ j u. refl })
      (λ k w _ hk o. raise-step (val d (get_or cols lo 0)) k w (omega arith) o)

-- column j had its price changed, and is at a place before lo; or it has not, and is at least m away
pub record Inner (lo : ℕ) (cols : List ℕ) (dj m wj vj : ℤ) (j : ℕ) : Type 0 where
  pub q : ℕ
  pub q-lo : q < lo
  pub is : get_or cols q 0 ≡ j
  pub near : Le dj m
  pub shift : Shift wj vj dj m

stops : (start : ℕ) (pred : List ℕ) (t : Trail) → get_or pred t.j 0 ≡ start → hop_more start (hop pred t) ≡ false
unfolding hop hop_more
stops start pred t e = rw (eq-eqb (get_or pred t.j 0) start e)

module _ (n : ℕ) (cost y v : List ℤ) (start : ℕ) (g : Good n cost y v) (marks : Marked n y) (s : Scan ℤ) (F : Found n cost y v start g marks s) where
  w : List ℤ
  w = raise wholes s.lo s.d s.cols v

  rz : Raised n v s.d s.cols (val s.d (get_or s.cols s.lo 0)) s.lo w
  unfolding w
  rz = raised n v s.d s.cols F.apart s.lo (omega (arith, F.lo_hi, F.hi_n)) g.len_v

  pub prices-len : length (raise wholes s.lo s.d s.cols v) ≡ n
  unfolding w
  prices-len = rz.len

  level : Equal F.m (val s.d (get_or s.cols s.lo 0))
  level = omega (arith, F.fair.early s.lo F.lo_hi, F.fair.late s.lo (le_refl s.lo) (omega (arith, F.lo_hi, F.hi_n)))

  abbrev Moved : ℕ → Type 0
  Moved j = Inner s.lo s.cols (val s.d j) F.m (val w j) (val v j) j ⊎ (Le F.m (val s.d j) × (val w j ≡ val v j))

  moved : (j : ℕ) → j < n → Moved j
  moved j hj = by_place (at_place n s.cols F.apart j hj)
    where
      by_place : (q : ℕ) × (q < n) × (get_or s.cols q 0 ≡ j) → Moved j
      by_place a = elim (dec_lt a.0 s.lo) [
        | yes l ↦ inl (record {
          q = a.0;
          q-lo = l;
          is = a.2;
          near = rw a.2 at (F.fair.early a.0 (omega (arith, F.lo_hi)));
          shift = let c : ℕ = get_or s.cols a.0 0 in let z : Shift (val w c) (val v c) (val s.d c) F.m = omega (arith, rz.inner a.0 l, level) in rw a.2 at z;
        })
        | no u ↦ inr (
          rw a.2 at (F.fair.late a.0 (omega arith) a.1),
          rz.outer j (λ p h e. let z : p ≡ a.0 = F.apart.inj p a.0 (omega (arith, a.1)) a.1 (e ∙ sym a.2) in omega arith),
        )
      ]

  falls : (j : ℕ) → j < n → Le (val w j) (val v j)
  falls j hj = go (moved j hj)
    where
      go : Moved j → Le (val w j) (val v j)
      go (inl a) = omega (arith, a.near, a.shift)
      go (inr a) = omega (arith, same a.1)

  -- a column at most m away
  near : (j : ℕ) → j < n → Le (val s.d j) F.m → Shift (val w j) (val v j) (val s.d j) F.m
  near j hj h = go (moved j hj)
    where
      go : Moved j → Shift (val w j) (val v j) (val s.d j) F.m
      go (inl a) = a.shift
      go (inr a) = omega (arith, a.0, same a.1)

  -- any column: its price has fallen by what it is nearer than m, at least
  far : (k : ℕ) → k < n → up (val w k) + down (val v k) + down (val s.d k) + up F.m ≤ down (val w k) + up (val v k) + up (val s.d k) + down F.m
  far k hk = go (moved k hk)
    where
      go : Moved k → up (val w k) + down (val v k) + down (val s.d k) + up F.m ≤ down (val w k) + up (val v k) + up (val s.d k) + down F.m
      go (inl a) = omega (arith, a.shift)
      go (inr a) = omega (arith, a.0, same a.1)

  -- each column's row has no cheaper column
  old-tight : (j i k : ℕ) → j < n → k < n → get_or y j (pos 0) ≡ pos i → LeMinus (cost_at wholes n cost i j) (val w j) (cost_at wholes n cost i k) (val w k)
  old-tight j i k hj hk e = go (moved j hj)
    where
      go : Moved j → LeMinus (cost_at wholes n cost i j) (val w j) (cost_at wholes n cost i k) (val w k)
      go (inl a) =
          let short = rw a.is at (F.done a.q i k a.q-lo hk (ap (λ (z : ℕ). get_or y z (pos 0)) a.is ∙ e)) in
          omega (arith, short, a.shift, far k hk)
      go (inr a) = omega (arith, g.tight j i k hj hk e, same a.1, falls k hk)

  -- nor has the row before a column at most m away
  edge-tight : (j k : ℕ) → j < n → k < n → Le (val s.d j) F.m → LeMinus (cost_at wholes n cost (get_or s.pred j 0) j) (val w j) (cost_at wholes n cost (get_or s.pred j 0) k) (val w k)
  edge-tight j k hj hk h = go (F.fair.edge j hj)
    where
      go : Edge n cost y v start F.upto s.d s.cols (get_or s.pred j 0) j → LeMinus (cost_at wholes n cost (get_or s.pred j 0) j) (val w j) (cost_at wholes n cost (get_or s.pred j 0) k) (val w k)
      go (inl a) = rw a.0 (omega (arith, a.1, near j hj h, F.fair.from_start k hk, far k hk))
      go (inr a) =
          let c : ℕ = get_or s.cols a.p 0 in
          let pn : a.p < F.hi = omega (arith, a.p-u, F.upto-hi) in
          let hc : c < n = F.apart.below a.p (omega (arith, F.hi_n)) in
          omega (arith, a.even, near j hj h, near c hc (F.fair.early a.p pn), old-tight c (get_or s.pred j 0) k hc hk a.is)

  -- ---- the way back

  -- column c has its row, or the row before it, if it is at most m away
  abbrev pub Took : ℕ → List ℤ → Type 0
  Took c z = (get_or z c (pos 0) ≡ get_or y c (pos 0)) ⊎ ((get_or z c (pos 0) ≡ pos (get_or s.pred c 0)) × Le (val s.d c) F.m)

  -- the rows of the columns at places before q are still there
  abbrev Seats : ℕ → List ℤ → Type 0
  Seats q x = (p r : ℕ) → p < q → get_or y (get_or s.cols p 0) (pos 0) ≡ pos r → get_or x r (pos 0) ≡ pos (get_or s.cols p 0)

  took_one : (j : ℕ) (z : List ℤ) → j < n → length z ≡ n → Le (val s.d j) F.m → ((c : ℕ) → c < n → Took c z) → (c : ℕ) → c < n → Took c (set z j (pos (get_or s.pred j 0)))
  took_one j z hj lz h t c hc = elim (ℕ_discrete c j) [
    | yes e ↦ inr (rw e (get_or-set_same z j (pos (get_or s.pred j 0)) (pos 0) (omega arith)), rw e h)
    | no u ↦ rw (get_or-set_other z j c (pos (get_or s.pred j 0)) (pos 0) u) (t c hc)
  ]

  trail : (b q row : ℕ) (x z : List ℤ) → q < n → length z ≡ n → Le (val s.d (get_or s.cols q 0)) F.m → Seats q x → ((c : ℕ) → c < n → Took c z)
      → (c : ℕ) → c < n → Took c (runs (hop_more start) (hop s.pred) b (record { row = row; j = get_or s.cols q 0; x = x; y = z })).y
  unfolding runs hop
  trail zero q row x z hq lz h seats t c hc = t c hc
  trail (suc b) q row x z hq lz h seats t c hc =
      let j : ℕ = get_or s.cols q 0 in
      let i : ℕ = get_or s.pred j 0 in
      let hj : j < n = F.apart.below q hq in
      let S : Trail = record { row = row; j = j; x = x; y = z } in
      pick-by (λ (r : Trail). Took c r.y) (hop_more start S) _ _
      (λ _. ⊎_elim
      (λ (e : i ≡ start).
      rw (runs_done (hop_more start) (hop s.pred) b (hop s.pred S) (stops start s.pred S e))
      (took_one j z hj lz h t c hc))
      (λ (E : Earlier F.upto y s.cols q i).
      let hp : E.p < n = omega (arith, E.p-q) in
      let xi : get_or x i (pos 0) ≡ pos (get_or s.cols E.p 0) = seats E.p i E.p-q E.is in
      rw xi
      (trail b E.p i (set x i (pos j)) (set z j (pos i)) hp (simp length-set lz) (F.fair.early E.p (omega (arith, E.p-lo, F.upto-hi)))
      (λ p r l e. get_or-set_other x i r (pos j) (pos 0)
      (λ ri. let same_place : p ≡ E.p = F.apart.inj p E.p (omega arith) hp (pos_inj (get_or s.cols p 0) (get_or s.cols E.p 0) (sym (seats p r (omega (arith, E.p-q)) e) ∙ ap (λ (k : ℕ). get_or x k (pos 0)) ri ∙ xi)) in omega arith)
      ∙ seats p r (omega (arith, E.p-q)) e)
      (took_one j z hj lz h t) c hc))
      (F.link q hq))
      (λ _. t c hc)

  -- from the free column found, within any turns
  pub back : (b : ℕ) (x : List ℤ) → length y ≡ n → Seats n x → (c : ℕ) → c < n → Took c (runs (hop_more start) (hop s.pred) b (record { row = n; j = get_or s.cols F.last.q 0; x = x; y = y })).y
  back b x ly seats = trail b F.last.q n x y F.last.q-b ly (F.got (get_or s.cols F.last.q 0) F.last.is) (λ p r l e. seats p r (omega (arith, F.last.q-b)) e) (λ c hc. inl refl)

  -- ---- what holds of the new prices and any marks so taken

  -- a free column's price is as it was
  free_stays : (f : ℕ) → f < n → is_free (get_or y f (pos 0)) ≡ true → val w f ≡ val v f
  free_stays f hf e = go (moved f hf)
    where
      go : Moved f → val w f ≡ val v f
      go (inl a) = not-both (is_free (get_or y f (pos 0))) e (ap is_free (ap (λ (k : ℕ). get_or y k (pos 0)) (sym a.is) ∙ (F.held a.q a.q-lo).is))
      go (inr a) = a.1

  module _ (cs : Costs n cost) where
    low3 : (j : ℕ) → j < n → Low 3_000_000 (val w j)
    low3 j hj = go (moved j hj)
      where
        f : ℕ
        f = get_or s.cols F.last.q 0

        hf : f < n
        hf = F.apart.below F.last.q F.last.q-b

        go : Moved j → Low 3_000_000 (val w j)
        go (inl a) =
            let t = F.held a.q a.q-lo in
            let yj : get_or y j (pos 0) ≡ pos t.at = ap (λ (k : ℕ). get_or y k (pos 0)) (sym a.is) ∙ t.is in
            omega (arith, old-tight j t.at f hj hf yj, same (free_stays f hf F.last.open'), g.open_low f hf F.last.open', cs.low t.at j t.below hj, cs.top t.at f t.below hf)
        go (inr a) = omega (arith, g.rest_low f j hf hj F.last.open', same a.1)

    pub found-good : (z : List ℤ) → ((c : ℕ) → c < n → Took c z) → Good n cost z (raise wholes s.lo s.d s.cols v)
    unfolding w
    found-good z t = record {
      len_v = rz.len;
      tight = λ j i k hj hk e. ⊎_elim
          (λ (a : get_or z j (pos 0) ≡ get_or y j (pos 0)). old-tight j i k hj hk (sym a ∙ e))
          (λ (a : (get_or z j (pos 0) ≡ pos (get_or s.pred j 0)) × Le (val s.d j) F.m). let r : get_or s.pred j 0 ≡ i = pos_inj (get_or s.pred j 0) i (sym a.0 ∙ e) in rw (← r) (edge-tight j k hj hk a.1))
          (t j hj);
      top = λ j hj. omega (arith, falls j hj, g.top j hj);
      deep = λ j hj. omega (arith, low3 j hj);
      open_low = λ f hf e.
          let was : is_free (get_or y f (pos 0)) ≡ true = ⊎_elim
          (λ (a : get_or z f (pos 0) ≡ get_or y f (pos 0)). ap is_free (sym a) ∙ e)
          (λ (a : (get_or z f (pos 0) ≡ pos (get_or s.pred f 0)) × Le (val s.d f) F.m). not-both (is_free (get_or z f (pos 0))) e (ap is_free a.0))
          (t f hf) in
          omega (arith, same (free_stays f hf was), g.open_low f hf was);
      rest_low = λ f j _ hj _. low3 j hj;
    }
