-- Document 02, 2.3: what holds between the steps of the walk over whole numbers, beside what holds for any costs (lapjv_walk, Holds.antt): why its pairing is
-- cheapest, and that no 64-bit operation of it overflows. Definitions only.
--
-- The walk keeps a price for each column. The reduced cost of a row at a column is its cost there less the column's price. `Good` holds after each step: every
-- column that has a row is one at which that row's reduced cost is least. When all rows have columns, any other one-to-one pairing, summed at reduced costs, is
-- at least the walk's; both sums take off every price once, so it is at least the walk's at the costs as they stand (proofs/Sums.antt, `prices-settle`).
--
-- The bounds, in millions:
--
--   cost          -1 .. 1           what is accepted
--   price         .. 1              it begins as its column's least cost, and only falls
--                 -1 ..             of a free column: it isn't lowered before the column has a row
--                 -3 ..             of any column, while a column f is free: its row's reduced cost is at most that at f, so at most 1 - (-1)
--                 -1,000,001 ..     always: a lowered price is a cost less a second best reduced cost, which is at most the start value
--   reduced cost  -2 .. 1,000,002   a cost less a price
--   distance      -10 .. 10         a search runs while a column is free
--
-- Each is within 2^40, and no operation of the code has more than three of them: none leaves 2^62, where 64 bits go to 2^63.
--
-- The start value must be above every reduced cost that is met while a row waits, 4 million at most: `two` looks at a column only where its reduced cost is
-- below the second best so far, which begins as the start value. At the f64s' start value, 1,000,000, a row whose reduced costs are all above it takes column 0,
-- whatever it costs (Example.antt).
use Rattle.std.specs.Prelude.{◌≡◌, true, List, ℕ, ◌<◌, ℤ, pos, ◌-ℤ◌, length}
use Rattle.lapjv_walk.specs.Marks.{is_free, mark_at}
use Rattle.lapjv_walk.specs.Ops.{cost_at, val_at}
use Rattle.lapint_walk.specs.Wholes.{wholes}
use Rattle.lapint_walk.specs.Parts.{Top, Low, LeMinus}

-- costs from -1,000,000 to 1,000,000
pub record Costs (n : ℕ) (cost : List ℤ) : Type 0 where
  pub top : (i j : ℕ) → i < n → j < n → Top 1_000_000 (cost_at wholes n cost i j)
  pub low : (i j : ℕ) → i < n → j < n → Low 1_000_000 (cost_at wholes n cost i j)

abbrev pub val : List ℤ → ℕ → ℤ
val v j = val_at wholes v j

-- the reduced cost of row i at column j
abbrev pub rc : ℕ → List ℤ → List ℤ → ℕ → ℕ → ℤ
rc n cost v i j = cost_at wholes n cost i j -ℤ val v j

-- the columns' rows y and their prices v
pub record Good (n : ℕ) (cost y v : List ℤ) : Type 0 where
  pub len_v : length v ≡ n
  -- the row of column j has no column of smaller reduced cost. Of rows that wait nothing is asked
  pub tight : (j i k : ℕ) → j < n → k < n → mark_at y j ≡ pos i → LeMinus (cost_at wholes n cost i j) (val v j) (cost_at wholes n cost i k) (val v k)
  pub top : (j : ℕ) → j < n → Top 1_000_000 (val v j)
  pub deep : (j : ℕ) → j < n → Low 1_000_001_000_000 (val v j)
  -- while a column f is free. A bound by what each step takes off would grow with the steps
  pub open_low : (f : ℕ) → f < n → is_free (mark_at y f) ≡ true → Low 1_000_000 (val v f)
  pub rest_low : (f j : ℕ) → f < n → j < n → is_free (mark_at y f) ≡ true → Low 3_000_000 (val v j)

-- the bounds of `Good` alone
pub record Prices (n : ℕ) (v : List ℤ) : Type 0 where
  pub top : (j : ℕ) → j < n → Top 1_000_000 (val v j)
  pub low : (j : ℕ) → j < n → Low 1_000_001_000_000 (val v j)

-- every distance is from -10,000,000 to 10,000,000
pub record Far (n : ℕ) (d : List ℤ) : Type 0 where
  pub top : (j : ℕ) → j < n → Top 10_000_000 (val d j)
  pub low : (j : ℕ) → j < n → Low 10_000_000 (val d j)

-- from -2^40 to 2^40
pub record Small (z : ℤ) : Type 0 where
  pub top : Top 1_099_511_627_776 z
  pub low : Low 1_099_511_627_776 z
