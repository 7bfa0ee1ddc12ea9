-- Costs in range: one more of them, and what it means of every row and column. Assumes nothing.
use mathlib.Core.Path.{◌≡◌, refl}
use mathlib.Core.Bool.{Bool, true, false, not}
use mathlib.Core.List.{List}
use Prim.Native.Nat.{ℕ, zero, suc, ◌+◌, ◌*◌, ◌<◌}
use borrow.Author.Tests.{not-true}
use lib.IntN.{ℤ, pos, negsuc}
use lib.Signed.{lt_z, le_z}
use lib.ListN.{get_or, length}
use native.Mathlib.Decide.{ℕ_discrete}
use native.Mathlib.Omega.{arith}
use Rattle.lapjv_walk.specs.Holds.{Square}
use Rattle.lapjv_walk.specs.Ops.{cost_at}
use Rattle.lapjv_walk.proofs.Cases.{and_left, and_right, not-both}
use Rattle.lapjv_walk.proofs.Cells.{cell}
use Rattle.lapint_walk.specs.Wholes.{wholes}
use Rattle.lapint_walk.specs.Holds.{Costs}
use Rattle.lapint_walk.proofs.Numbers.{le_yes, lt_not}
use Rattle.lapint.specs.Answer.{all_in_range, cost_in_range}

each-in-range : (cost : List ℤ) (k : ℕ) → all_in_range cost k ≡ true → (i : ℕ) → i < k → cost_in_range (get_or cost i (pos 0)) ≡ true
each-in-range cost zero e i h = absurd (omega arith)
each-in-range cost (suc k) e i h = elim (ℕ_discrete i k) [
  | yes r ↦ rw r (and_right (all_in_range cost k) (cost_in_range (get_or cost k (pos 0))) e)
  | no u ↦ each-in-range cost k (and_left (all_in_range cost k) (cost_in_range (get_or cost k (pos 0))) e) i (omega arith)
]

-- one that isn't
pub one-out : (cost : List ℤ) (k n : ℕ) → k < n → cost_in_range (get_or cost k (pos 0)) ≡ false → all_in_range cost n ≡ false
one-out cost k n h e = go (all_in_range cost n) refl
  where
    go : (b : Bool) → all_in_range cost n ≡ b → all_in_range cost n ≡ false
    go false d = d
    go true d = not-both (cost_in_range (get_or cost k (pos 0))) (each-in-range cost n d k h) e

module _ (n : ℕ) (cost : List ℤ) (q : Square n cost) (e : all_in_range cost (length cost) ≡ true) where
  at : (i j : ℕ) → i < n → j < n → cost_in_range (cost_at wholes n cost i j) ≡ true
  at i j hi hj = each-in-range cost (length cost) e (i * n + j) (omega (arith, cell n i j hi hj, q.len))

  pub in-range-costs : Costs n cost
  in-range-costs = record {
    top = λ i j hi hj. omega (arith, le_yes (cost_at wholes n cost i j) (pos 1_000_000) (and_right (not (lt_z (cost_at wholes n cost i j) (negsuc 999_999))) (le_z (cost_at wholes n cost i j) (pos 1_000_000)) (at i j hi hj)));
    low = λ i j hi hj. omega (arith, lt_not (cost_at wholes n cost i j) (negsuc 999_999) (not-true _ (and_left (not (lt_z (cost_at wholes n cost i j) (negsuc 999_999))) (le_z (cost_at wholes n cost i j) (pos 1_000_000)) (at i j hi hj))));
  }
