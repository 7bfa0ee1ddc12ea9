-- Document 01, item 2, `ccrt_dense`: column reduction, rows to columns, the rows left over. Definitions only.
use Rattle.std.specs.Prelude.{Bool, true, false, List, ℕ, suc, ◌+◌, ◌-◌, eqb, ℤ, pos, get_or, set}
use Rattle.lists.specs.Lists.{pick, tab}
use Rattle.lapjv_walk.specs.Marks.{free, is_free, index, mark_at}
use Rattle.lapjv_walk.specs.Ops.{Ops, val_at, cost_at}
use Rattle.lapjv_walk.specs.Loops.{walk}

-- each column's least cost, and the row that has it
pub record Reduce (C : Type 0) : Type 0 where
  pub v : List C
  pub y : List ℤ

pub record Assign : Type 0 where
  pub x : List ℤ
  pub y : List ℤ
  pub unique : List Bool

-- the free rows, how many, and the prices
pub record Collect (C : Type 0) : Type 0 where
  pub rows : List ℕ
  pub count : ℕ
  pub v : List C

-- between the steps: the rows left over, how many, the pairs and the prices
pub record Kept (C : Type 0) : Type 0 where
  pub rows : List ℕ
  pub count : ℕ
  pub x : List ℤ
  pub y : List ℤ
  pub v : List C

-- column j takes its row, unless a column behind it has: then it stays free, and the row isn't its column's alone
unfoldable pub assign_step : ℕ → Assign → Assign
assign_step j s =
    let i : ℕ = index (mark_at s.y j) in
    pick (is_free (mark_at s.x i))
    (record { x = set s.x i (pos j); y = s.y; unique = s.unique })
    (record { x = s.x; y = set s.y j free; unique = set s.unique i false })

-- from the last column to the first
unfoldable pub assign_from : ℕ → Assign → Assign
assign_from n s = walk (λ k t. assign_step (n - suc k) t) 0 n s

unfoldable pub assign : ℕ → List ℤ → Assign
assign n y = assign_from n (record { x = tab (λ _. free) n; y = y; unique = tab (λ _. true) n })

module _ (O : Ops) (n : ℕ) (cost : List O.C) where
  unfoldable pub reduce_step : ℕ → ℕ → Reduce O.C → Reduce O.C
  reduce_step i j s =
      let c : O.C = cost_at O n cost i j in
      pick (O.lt c (val_at O s.v j)) (record { v = set s.v j c; y = set s.y j (pos i) }) s

  unfoldable pub reduce_row : ℕ → Reduce O.C → Reduce O.C
  reduce_row i s = walk (reduce_step i) 0 n s

  unfoldable pub reduce_columns : Reduce O.C
  reduce_columns = walk reduce_row 0 n (record { v = tab (λ _. O.large) n; y = tab (λ _. pos 0) n })

  unfoldable pub other_step : ℕ → ℕ → List O.C → ℕ → O.C → O.C
  other_step i j v k m = pick (eqb k j) m (let c : O.C = O.sub (cost_at O n cost i k) (val_at O v k) in pick (O.lt c m) c m)

  -- the least reduced cost of row i away from column j
  unfoldable pub other_min : ℕ → ℕ → List O.C → O.C
  other_min i j v = walk (other_step i j v) 0 n O.large

  -- row i: free, or its column's alone, whose price it then lowers
  unfoldable pub collect_step : List ℤ → List Bool → ℕ → Collect O.C → Collect O.C
  collect_step x unique i s =
      let j : ℕ = index (mark_at x i) in
      pick (is_free (mark_at x i))
      (record { rows = set s.rows s.count i; count = s.count + 1; v = s.v })
      (pick (get_or unique i false)
      (record { rows = s.rows; count = s.count; v = set s.v j (O.sub (val_at O s.v j) (other_min i j s.v)) })
      s)

  unfoldable pub collect : Assign → List O.C → Collect O.C
  collect a v = walk (collect_step a.x a.unique) 0 n (record { rows = tab (λ _. 0) n; count = 0; v = v })

  unfoldable pub ccrt_dense : Kept O.C
  ccrt_dense =
      let r : Reduce O.C = reduce_columns in
      let a : Assign = assign n r.y in
      let c : Collect O.C = collect a r.v in
      record { rows = c.rows; count = c.count; x = a.x; y = a.y; v = c.v }
