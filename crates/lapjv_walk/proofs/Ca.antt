-- `ca_dense`: each row that waits gets a column, by a search and a way back that end by themselves. Assumes nothing.
use mathlib.Core.Path.{ap, refl, sym, ◌∙◌, ◌≡◌}
use mathlib.Core.Bool.{false}
use mathlib.Core.List.{List}
use mathlib.Core.Logic.{inl, inr, ◌⊎◌, ⊎_elim}
use Prim.Native.Nat.{◌<◌, suc, ℕ, ◌≤◌}
use borrow.Author.Tests.{ne_eqb}
use lib.IntN.{pos, ℤ}
use lib.ListN.{get_or}
use native.Mathlib.Nat.{le_refl}
use native.Mathlib.Omega.{arith}
use Rattle.lapjv_walk.specs.Ccrt.{Kept}
use Rattle.lapjv_walk.specs.Ends.{RowEnds}
use Rattle.lapjv_walk.specs.Holds.{Left, Marked, Paired, Queue, Room, Seat, Waits}
use Rattle.lapjv_walk.specs.Lapjv.{augment, Ca, ca_dense, ca_step, hop_more}
use Rattle.lapjv_walk.specs.Marks.{free, index, is_free}
use Rattle.lapjv_walk.specs.Ops.{Ops}
use Rattle.lapjv_walk.specs.Path.{find_path_dense, Scan, search_more, search_path}
use Rattle.lapjv_walk.proofs.Cases.{lt_of, open_free, seat-below}
use Rattle.lapjv_walk.proofs.Loops.{walk-ind}
use Rattle.lapjv_walk.proofs.Pairing.{marked, some-free}
use Rattle.lapjv_walk.proofs.Pigeon.{at_place}
use Rattle.lapjv_walk.proofs.Queue.{same-places}
use Rattle.lapjv_walk.proofs.Route.{FoundOk, scans_end, search-found}
use Rattle.lapjv_walk.proofs.Search.{Earlier}
use Rattle.lapjv_walk.proofs.Trail.{augment-ok, opened}

apart-at : {p r : ℕ} → suc r ≤ p → p ≡ r → ⊥
apart-at h e = omega arith

no_row : {n i : ℕ} → n ≡ i → i < n → ⊥
no_row e h = omega arith

-- the places not yet reached
abbrev pub After : ℕ → ℕ → ℕ → Type 0
After count r p = (r ≤ p) × (p < count)

module _ (O : Ops) (n : ℕ) (cost : List O.C) (rows : List ℕ) (count : ℕ) where
  module _ (r : ℕ) (s : Ca O.C) (hr : r < count) (q : Queue n (λ p. After count r p) rows s.x s.y) where
    ac : After count r r
    ac = (le_refl r, hr)

    ws : Waits (λ p. After count r p) rows (get_or rows r 0)
    ws = record { p = r; act = ac; is = refl }

    pub start-below : get_or rows r 0 < n
    start-below = q.below r ac

    pub columns-marked : Marked n s.y
    columns-marked = marked n (λ k. Waits (λ p. After count r p) rows k) s.x s.y q.pairs

    pub columns-left : Room n s.y
    columns-left cols a held = some-free n (λ k. Waits (λ p. After count r p) rows k) s.x s.y q.pairs (get_or rows r 0) start-below ws (λ p. get_or cols p 0) a.below a.inj held

    pub row-found : FoundOk O n cost s.y s.v (λ i. i ≡ get_or rows r 0) columns-marked (search_path O n cost (get_or rows r 0) s.y s.v)
    row-found = search-found O n cost s.y s.v columns-marked (get_or rows r 0) columns-left

    way_back : Paired n (λ k. Waits (λ p. After count (suc r) p) rows k) (ca_step O n cost (get_or rows r 0) s).x (ca_step O n cost (get_or rows r 0) s).y
        × (hop_more (get_or rows r 0) (augment n (find_path_dense O n cost (get_or rows r 0) s.y s.v).pred (get_or rows r 0) (index (find_path_dense O n cost (get_or rows r 0) s.y s.v).last) s.x s.y) ≡ false)
    unfolding augment find_path_dense ca_step
    way_back =
        let f : Scan O.C = search_path O n cost (get_or rows r 0) s.y s.v in
        let F = row-found in
        let c : ℕ = get_or f.cols F.hit.q 0 in
        let of : get_or s.y c (pos 0) ≡ free = open_free n (get_or s.y c (pos 0)) F.hit.open' (q.pairs.marks c (F.apart.below F.hit.q F.hit.q-b)) in
        let e = augment-ok n (λ k. Waits (λ p. After count r p) rows k) (λ k. Waits (λ p. After count (suc r) p) rows k) (get_or rows r 0) start-below ws
        (λ (w : Waits (λ p. After count (suc r) p) rows (get_or rows r 0)). apart-at w.act.0 (q.inj w.p r (omega (arith, w.act.0), w.act.1) ac w.is))
        (λ i (w : Waits (λ p. After count (suc r) p) rows i). record { p = w.p; act = (omega (arith, w.act.0), w.act.1); is = w.is })
        (λ i ne (w : Waits (λ p. After count r p) rows i). record { p = w.p; act = (lt_of w.act.0 (λ e. ne (sym w.is ∙ ap (λ (z : ℕ). get_or rows z 0) (sym e))), w.act.1); is = w.is })
        f.pred f.cols F.apart s.y F.upto F.link n F.hit.q n s.x s.y (ne_eqb n (get_or rows r 0) (λ e. no_row e start-below)) F.hit.q-b F.hit.q-b
        (opened n (λ k. Waits (λ p. After count r p) rows k) s.x s.y c q.pairs of) (λ p l. refl) in
        rw F.hit.is (e.pairs, e.stops)

    pub ca-step : Queue n (λ p. After count (suc r) p) rows (ca_step O n cost (get_or rows r 0) s).x (ca_step O n cost (get_or rows r 0) s).y
    ca-step = record {
      below = λ p a. q.below p (omega (arith, a.0), a.1);
      inj = λ p p' a b e. q.inj p p' (omega (arith, a.0), a.1) (omega (arith, b.0), b.1) e;
      pairs = way_back.0;
    }

    pub row_ends : RowEnds O n cost (get_or rows r 0) s
    unfolding search_more
    row_ends = record { search_ends = ap is_free row-found.hit.is; scans_end = scans_end O n cost s.y s.v columns-marked (get_or rows r 0) columns-left; trail_ends = way_back.1 }

-- after the first m rows the others wait
pub queue-at : (O : Ops) (n : ℕ) (cost : List O.C) (s : Kept O.C) → Left n s → (m : ℕ) → m ≤ s.count
    → Queue n (λ p. After s.count m p) s.rows (ca_dense O n cost m s).x (ca_dense O n cost m s).y
unfolding ca_dense
queue-at O n cost s l m h =
    walk-ind (λ (r : ℕ) (t : Ca O.C). ca_step O n cost (get_or s.rows r 0) t) (λ r t. Queue n (λ p. After s.count r p) s.rows t.x t.y) 0 m _ (omega arith)
    (same-places n (λ p. p < s.count) (λ p. After s.count 0 p) s.rows s.x s.y (λ p a. (omega arith, a)) (λ p a. a.1) l.queue)
    (λ r t _ u p. ca-step O n cost s.rows s.count r t (omega arith) p)

-- what the way back asks: the row before each column is one of n, and so is the column of each row
module _ (O : Ops) (n : ℕ) (cost : List O.C) (y : List ℤ) (v : List O.C) (m : Marked n y) (start : ℕ) (hs : start < n) (room : Room n y) where
  pub pred-below : (j : ℕ) → j < n → get_or (search_path O n cost start y v).pred j 0 < n
  pred-below j hj =
      let f : Scan O.C = search_path O n cost start y v in
      let F = search-found O n cost y v m start room in
      let w = at_place n f.cols F.apart j hj in
      rw (← w.2)
      (⊎_elim
      (λ (e : get_or f.pred (get_or f.cols w.0 0) 0 ≡ start). rw e hs)
      (λ (E : Earlier F.upto y f.cols w.0 (get_or f.pred (get_or f.cols w.0 0) 0)).
      let c : ℕ = get_or f.cols E.p 0 in
      seat-below n (get_or y c (pos 0)) (get_or f.pred (get_or f.cols w.0 0) 0) E.is (inr (m.seat c (F.apart.below E.p (omega (arith, E.p-q, w.1))) (ap is_free E.is))))
      (F.link w.0 w.1))

pub column-below : (n : ℕ) (z : ℤ) → 0 < n → (z ≡ free) ⊎ Seat n z → index z < n
column-below n z h (inl e) = rw e h
column-below n z h (inr s) = rw s.is s.below
