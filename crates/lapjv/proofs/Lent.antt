-- What the tests' calls on lent lists ask: three rows and columns, and the first row left over. Assumes nothing.
use mathlib.Core.Path.{sym, ◌≡◌}
use mathlib.Core.List.{List}
use Prim.Native.Nat.{◌<◌, ℕ}
use lib.IntN.{ℤ}
use lib.ListN.{length}
use native.Mathlib.Omega.{arith}
use Rattle.lapjv_walk.specs.Ccrt.{ccrt_dense, Kept}
use Rattle.lapjv_walk.specs.Holds.{Square}
use Rattle.lapjv_walk.specs.Lapjv.{ca_dense}
use Rattle.lapjv_walk.specs.Marks.{num_at}
use Rattle.lapjv_walk.proofs.Loops.{walk_none}
use Rattle.costs.specs.OpsOn.{OpsOn, ops}
use Rattle.costs.specs.Laws.{CostLaws}
use Rattle.lapjv_ca.proofs.Rows.{RowGiven, row-given}
use Rattle.lapjv.proofs.Whole.{columns-leave}

pub three-square : {C : Type 0} (cost : List C) → length cost ≡ 9 → Square 3 cost
three-square cost e = record { some = omega arith; most = omega arith; len = e }

-- right after the columns' reduction
pub first-given : {C : Type 0} {on : OpsOn C} {Small : C → Type 0} {Costs Prices Far : ℕ → List C → Type 0} {Good : ℕ → List C → List ℤ → List C → Type 0} → CostLaws on Small Costs Prices Far Good
    → (n : ℕ) (cost : List C) → Square n cost → Costs n cost → (k : Kept C) → ccrt_dense (ops on) n cost ≡ k → 0 < k.count → RowGiven on Good n cost (num_at k.rows 0) (record { x = k.x; y = k.y; v = k.v })
unfolding ca_dense
first-given laws n cost q h k e some = let l = columns-leave laws n cost q h k e in row-given laws n cost q h k l.0 l.1 0 (record { x = k.x; y = k.y; v = k.v }) (sym (walk_none _ _ _)) some
