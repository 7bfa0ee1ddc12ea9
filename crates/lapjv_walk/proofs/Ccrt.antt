-- `ccrt_dense`, the column reduction: sizes, and marks in range. Assumes nothing.
use mathlib.Core.Path.{◌∙◌, ◌≡◌}
use mathlib.Core.Bool.{Bool, false, true}
use mathlib.Core.List.{List}
use Prim.Native.Nat.{◌<◌, ℕ}
use lib.IntN.{pos, ℤ}
use lib.ListN.{get_or, length, length-set, set}
use lib.Seq.{get_or-set_other, get_or-set_same}
use native.Mathlib.Decide.{ℕ_discrete}
use native.Mathlib.Omega.{arith}
use Rattle.lapjv_walk.specs.Ccrt.{Assign, assign_step, Reduce, reduce_row, reduce_step}
use Rattle.lapjv_walk.specs.Holds.{Seated}
use Rattle.lapjv_walk.specs.Loops.{walk}
use Rattle.lapjv_walk.specs.Marks.{free, index, is_free}
use Rattle.lapjv_walk.specs.Ops.{cost_at, Ops}
use Rattle.lapjv_walk.proofs.Cases.{pick_ind}
use Rattle.lapjv_walk.proofs.Loops.{walk-ind}

pub record ReduceOk (n : ℕ) {C : Type 0} (s : Reduce C) : Type 0 where
  pub len_v : length s.v ≡ n
  pub len_y : length s.y ≡ n

pub reduce≡ : {C : Type 0} {v v' : List C} {y y' : List ℤ} → v ≡ v' → y ≡ y' → ◌≡◌ {A = Reduce C} (record { v = v; y = y }) (record { v = v'; y = y' })
reduce≡ p q = λ i. record { v = p i; y = q i }

-- a store of a seat keeps all seated
pub seated-set : (n : ℕ) (y : List ℤ) (j i : ℕ) → j < n → i < n → Seated n y → Seated n (set y j (pos i))
seated-set n y j i hj hi s = record {
  len = simp length-set s.len;
  seat = λ k hk. elim (ℕ_discrete k j) [
    | yes e ↦ record { at = i; below = hi; is = rw e (get_or-set_same y j (pos i) (pos 0) (omega (arith, s.len))) }
    | no u ↦ record { at = (s.seat k hk).at; below = (s.seat k hk).below; is = get_or-set_other y j k (pos i) (pos 0) u ∙ (s.seat k hk).is }
  ];
}

module _ (O : Ops) (n : ℕ) (cost : List O.C) where
  reduce-step : (i j : ℕ) (s : Reduce O.C) → ReduceOk n s → ReduceOk n (reduce_step O n cost i j s)
  unfolding reduce_step
  reduce-step i j s o =
      pick_ind (λ (t : Reduce O.C). ReduceOk n t) (O.lt (cost_at O n cost i j) (get_or s.v j O.none))
      (record { v = set s.v j (cost_at O n cost i j); y = set s.y j (pos i) }) s
      (record { len_v = simp length-set o.len_v; len_y = simp length-set o.len_y }) o

  pub reduce-ok : (i k : ℕ) (s : Reduce O.C) → ReduceOk n s → ReduceOk n (walk (reduce_step O n cost i) 0 k s)
  reduce-ok i k s o = walk-ind (reduce_step O n cost i) (λ _ t. ReduceOk n t) 0 k s (omega arith) o (λ j t _ _ p. reduce-step i j t p)

  seated-step : (i j : ℕ) (s : Reduce O.C) → i < n → j < n → Seated n s.y → Seated n (reduce_step O n cost i j s).y
  unfolding reduce_step
  seated-step i j s hi hj o =
      pick_ind (λ (t : Reduce O.C). Seated n t.y) (O.lt (cost_at O n cost i j) (get_or s.v j O.none))
      (record { v = set s.v j (cost_at O n cost i j); y = set s.y j (pos i) }) s
      (seated-set n s.y j i hj hi o) o

  pub row-seated : (i : ℕ) (s : Reduce O.C) → i < n → Seated n s.y → Seated n (reduce_row O n cost i s).y
  unfolding reduce_row
  row-seated i s hi o = walk-ind (reduce_step O n cost i) (λ _ t. Seated n t.y) 0 n s (omega arith) o (λ j t _ hj p. seated-step i j t hi hj p)

-- a turn of the third loop by its cases, with the row r that it read
module _ (j : ℕ) (s : Assign) (r : ℕ) (er : r ≡ index (get_or s.y j (pos 0))) where
  pub assign-take : is_free (get_or s.x r (pos 0)) ≡ true → assign_step j s ≡ record { x = set s.x r (pos j); y = s.y; unique = s.unique }
  unfolding assign_step
  assign-take e = rw (← er, e)

  pub assign-clear : is_free (get_or s.x r (pos 0)) ≡ false → assign_step j s ≡ record { x = s.x; y = set s.y j free; unique = set s.unique r false }
  unfolding assign_step
  assign-clear e = rw (← er, e)

pub assign≡ : {x x' y y' : List ℤ} {u u' : List Bool} → x ≡ x' → y ≡ y' → u ≡ u' → ◌≡◌ {A = Assign} (record { x = x; y = y; unique = u }) (record { x = x'; y = y'; unique = u' })
assign≡ p q r = λ i. record { x = p i; y = q i; unique = r i }

-- the first n of a repeat
