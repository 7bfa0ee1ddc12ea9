-- What the assignment's steps may ask of a type of costs: that each number which they add or take is small enough, and that each step keeps what says so. Definitions only.
use Rattle.std.specs.Prelude.{◌≡◌, Bool, List, ℕ, ◌<◌, ◌≤◌, ℤ, length}
use Rattle.lapjv_walk.specs.Marks.{free, num_at}
use Rattle.lapjv_walk.specs.Ops.{val_at, cost_at}
use Rattle.lapjv_walk.specs.Loops.{walk}
use Rattle.lapjv_walk.specs.Ccrt.{Kept, assign, reduce_columns, other_min, collect_step, ccrt_dense}
use Rattle.lapjv_walk.specs.Carr.{Carr, two, carr_step, carr_dence}
use Rattle.lapjv_walk.specs.Path.{Scan, raise_step, scan_turn, search_turn, search_from, search_path}
use Rattle.lapjv_walk.specs.Lapjv.{ca_dense}
use Rattle.lapjv_walk.specs.Holds.{Apart, Held, Left, Marked, Room}
use Rattle.lapjv_walk.proofs.Carr.{CarrOk}
use Rattle.costs.specs.OpsOn.{OpsOn, ops}

-- at costs in range (Costs), prices v in bounds (Prices), distances d in bounds (Far), numbers that may be added and taken (Small), and prices that fit the columns' rows y (Good)
pub record CostLaws {C : Type 0} (on : OpsOn C) (Small : C → Type 0) (Costs : ℕ → List C → Type 0) (Prices : ℕ → List C → Type 0) (Far : ℕ → List C → Type 0) (Good : ℕ → List C → List ℤ → List C → Type 0) : Type 0 where
  -- single numbers
  pub price_small : (n : ℕ) (v : List C) → Prices n v → (j : ℕ) → j < n → Small (val_at (ops on) v j)
  pub cost_small : (n : ℕ) (cost : List C) → Costs n cost → (i j : ℕ) → i < n → j < n → Small (cost_at (ops on) n cost i j)
  pub distance_small : (n : ℕ) (d : List C) → Far n d → (j : ℕ) → j < n → Small (val_at (ops on) d j)
  pub reduced_small : (n : ℕ) (cost v : List C) → Costs n cost → Prices n v → (i j : ℕ) → i < n → j < n → Small (on.sub (cost_at (ops on) n cost i j) (val_at (ops on) v j))
  pub height_small : (n : ℕ) (cost v d : List C) → Costs n cost → Prices n v → Far n d → (i j : ℕ) → i < n → j < n → Small (on.sub (on.sub (cost_at (ops on) n cost i j) (val_at (ops on) v j)) (val_at (ops on) d j))
  pub least_small : (n : ℕ) (cost v : List C) → Costs n cost → Prices n v → (i j : ℕ) → i < n → Small (other_min (ops on) n cost i j v)
  pub best_small : (n : ℕ) (cost v : List C) → Costs n cost → Prices n v → 0 < n → (i : ℕ) → i < n → Small (two (ops on) n cost i v).v1
  pub second_small : (n : ℕ) (cost v : List C) → Costs n cost → Prices n v → 0 < n → (i : ℕ) → i < n → Small (two (ops on) n cost i v).v2
  pub raised_small : (n : ℕ) (v d : List C) (cols : List ℕ) (mind : C) → Apart n cols → length v ≡ n → Prices n v → (lo k : ℕ) → lo ≤ n → k < lo → Small (val_at (ops on) (walk (raise_step (ops on) mind d cols) 0 k v) (num_at cols k))
  -- prices
  pub good_prices : (n : ℕ) (cost : List C) (y : List ℤ) (v : List C) → Good n cost y v → Prices n v
  pub reduced_good : (n : ℕ) (cost : List C) → Costs n cost → 0 < n → Good n cost (ccrt_dense (ops on) n cost).y (ccrt_dense (ops on) n cost).v
  pub collect_prices : (n : ℕ) (cost : List C) → Costs n cost → 0 < n → (x y : List ℤ) (u : List Bool) (v : List C) (w : List ℤ) (rows : List ℕ) → reduce_columns (ops on) n cost ≡ record { v = v; y = w } → assign n w ≡ record { x = x; y = y; unique = u }
      → (k : ℕ) → k ≤ n → Prices n (walk (collect_step (ops on) n cost x u) 0 k (record { rows = rows; count = 0; v = v })).v
  pub turn_good : (n : ℕ) (cost : List C) → Costs n cost → 0 < n → (count : ℕ) (s : Carr C) → s.current < count → CarrOk n count s → Good n cost s.y s.v → Good n cost (carr_step (ops on) n cost s).y (carr_step (ops on) n cost s).v
  pub pass_good : (n : ℕ) (cost : List C) → Costs n cost → 0 < n → (s : Kept C) → Left n s → Good n cost s.y s.v → Good n cost (carr_dence (ops on) n cost s).y (carr_dence (ops on) n cost s).v
  pub rows_good : (n : ℕ) (cost : List C) → Costs n cost → (s : Kept C) → Left n s → Good n cost s.y s.v → (m : ℕ) → m ≤ s.count → Good n cost (ca_dense (ops on) n cost m s).y (ca_dense (ops on) n cost m s).v
  -- distances
  pub start_far : (n : ℕ) (cost : List C) (y : List ℤ) (v : List C) → Good n cost y v → Marked n y → Costs n cost → (start : ℕ) → start < n → Room n y → Far n (search_from (ops on) n cost start v).d
  pub scan_far : (n : ℕ) (cost : List C) (y : List ℤ) (v : List C) → Good n cost y v → Marked n y → (s : Scan C) → s.lo < s.hi → Held n y s → Far n s.d → Far n (scan_turn (ops on) n cost y v s).d
  pub search_far : (n : ℕ) (cost : List C) (y : List ℤ) (v : List C) → Good n cost y v → Marked n y → (s : Scan C) → Held n y (record { lo = s.lo; hi = s.lo; d = s.d; cols = s.cols; pred = s.pred; found = free }) → s.lo < n → Far n s.d → Far n (search_turn (ops on) n cost y v s).d
  pub path_far : (n : ℕ) (cost : List C) (y : List ℤ) (v : List C) → Good n cost y v → Marked n y → Costs n cost → (start : ℕ) → start < n → Room n y → Far n (search_path (ops on) n cost start y v).d
