-- A row of `ca_dense` from what its search left: what the way back asks, and the whole. Assumes nothing.
use mathlib.Core.Path.{ap, refl, sym, ◌∙◌, ◌≡◌}
use mathlib.Core.Bool.{false}
use mathlib.Core.List.{List}
use Prim.Native.Nat.{◌<◌, ℕ, ◌≤◌}
use lib.IntN.{pos, ℤ}
use lib.ListN.{length}
use Rattle.lapjv_walk.specs.Ends.{RowEnds}
use Rattle.lapjv_walk.specs.Holds.{Marked, Ranged, Room}
use Rattle.lapjv_walk.specs.Lapjv.{augment, Ca, ca_step, hop_more}
use Rattle.lapjv_walk.specs.Marks.{num_at}
use Rattle.lapjv_walk.specs.Ops.{Ops}
use Rattle.lapjv_walk.specs.Path.{find_path_dense, Route}
use Rattle.lapjv_walk.proofs.Ca.{pred-below}
use Rattle.lapjv_walk.proofs.Cases.{pos_inj}
use Rattle.lapjv_walk.proofs.Route.{search-found}

pub ca≡ : {C : Type 0} {x x' y y' : List ℤ} {v v' : List C} → x ≡ x' → y ≡ y' → v ≡ v' → ◌≡◌ {A = Ca C} (record { x = x; y = y; v = v }) (record { x = x'; y = y'; v = v' })
ca≡ a b c = λ i. record { x = a i; y = b i; v = c i }

module _ (O : Ops) (n : ℕ) (cost : List O.C) (start : ℕ) (hs : start < n) (x y : List ℤ) (v : List O.C) (m : Marked n y) (room : Room n y) (pred : List ℕ) (last : ℕ) (v' : List O.C)
    (e : find_path_dense O n cost start y v ≡ record { pred = pred; last = pos last; v = v' }) where
  pub last-below : last < n
  unfolding find_path_dense
  last-below =
      let F = search-found O n cost y v m start room in
      rw (pos_inj last _ (sym (ap (λ (r : Route O.C). r.last) e) ∙ F.hit.is)) (F.apart.below F.hit.q F.hit.q-b)

  pub pred-long : length pred ≡ n
  unfolding find_path_dense
  pred-long = sym (ap (λ (r : Route O.C). length r.pred) e) ∙ (search-found O n cost y v m start room).len_pred

  pub pred-ranged : (j : ℕ) → j < n → num_at pred j < n
  unfolding find_path_dense
  pred-ranged j h = rw (sym (ap (λ (r : Route O.C). r.pred) e)) (pred-below O n cost y v m start hs room j h)

  pub trail-over : RowEnds O n cost start (record { x = x; y = y; v = v }) → hop_more start (augment n pred start last x y) ≡ false
  trail-over r = rw e at r.trail_ends

  -- all that the way back asks
  pub back-asked : n ≤ 64 → Ranged n x → RowEnds O n cost start (record { x = x; y = y; v = v })
      → (n ≤ 64) × (start < n) × (last < n) × (length pred ≡ n) × ((j : ℕ) → j < n → num_at pred j < n) × Ranged n x × (length y ≡ n) × (hop_more start (augment n pred start last x y) ≡ false)
  back-asked most r ends = (most, hs, last-below, pred-long, pred-ranged, r, m.len, trail-over ends)

  pub row_is : (x' y' : List ℤ) → (augment n pred start last x y).x ≡ x' → (augment n pred start last x y).y ≡ y' → ca_step O n cost start (record { x = x; y = y; v = v }) ≡ record { x = x'; y = y'; v = v' }
  unfolding ca_step
  row_is x' y' ex ey = rw e (ca≡ ex ey refl)
