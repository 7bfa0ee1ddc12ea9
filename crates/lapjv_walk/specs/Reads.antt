-- Document 02, 2.12: how many cost entries the walk reads. A read is one `cost_at` of Ccrt, Carr and Path, where the Rust has `cost[i][j]`; each step's reads, in their order. Definitions only.
use Rattle.std.specs.Prelude.{Bool, false, List, ℕ, ◌+◌, ◌-◌, ◌*◌, ℤ, get_or}
use Rattle.lists.specs.Lists.{pick}
use Rattle.lapjv_walk.specs.Marks.{is_free, index, mark_at, num_at}
use Rattle.lapjv_walk.specs.Ops.{Ops, val_at, cost_at}
use Rattle.lapjv_walk.specs.Loops.{walk, walk_sum, runs_sum}
use Rattle.lapjv_walk.specs.Ccrt.{Assign, Kept, assign, reduce_columns, ccrt_dense}
use Rattle.lapjv_walk.specs.Carr.{carr_runs, carr_dence}
use Rattle.lapjv_walk.specs.Path.{Scan, scan_more, search_more, scan_step, scan_turn, to_scan, search_turn, search_from}
use Rattle.lapjv_walk.specs.Lapjv.{ca_step, two_passes}

-- ---- `ccrt_dense`

-- row i, where it is its column's alone: its other columns
unfoldable pub alone_reads : ℕ → List ℤ → List Bool → ℕ → ℕ
alone_reads n x unique i = pick (is_free (mark_at x i)) 0 (pick (get_or unique i false) (n - 1) 0)

unfoldable pub collect_reads : ℕ → List ℤ → List Bool → ℕ
collect_reads n x unique = walk (λ i r. r + alone_reads n x unique i) 0 n 0

-- ---- `scan_dense`

-- a column tried, as long as none is found
unfoldable pub try_reads : {C : Type 0} → ℕ → Scan C → ℕ
try_reads k s = pick (is_free s.found) 1 0

module _ (O : Ops) (n : ℕ) (cost : List O.C) where
  -- every cost once, then the rows that are their column's alone
  unfoldable pub ccrt_reads : ℕ
  ccrt_reads =
      let a : Assign = assign n (reduce_columns O n cost).y in
      n * n + collect_reads n a.x a.unique

  -- `carr_dence`: a row in each turn
  unfoldable pub carr_reads : Kept O.C → ℕ
  carr_reads s = (carr_runs O n cost s).turn * n

  -- row i against the columns from hi on
  unfoldable pub scan_row_reads : List ℤ → List O.C → ℕ → O.C → O.C → Scan O.C → ℕ
  scan_row_reads y v i h mind s = walk_sum (scan_step O n cost y v i h mind) try_reads s.hi n s

  -- the next column's own cost, then its row's
  unfoldable pub scan_turn_reads : List ℤ → List O.C → Scan O.C → ℕ
  scan_turn_reads y v s =
      let j : ℕ = num_at s.cols s.lo in
      let i : ℕ = index (mark_at y j) in
      let mind : O.C = val_at O s.d j in
      1 + scan_row_reads y v i (O.sub (O.sub (cost_at O n cost i j) (val_at O v j)) mind) mind (record { lo = s.lo + 1; hi = s.hi; d = s.d; cols = s.cols; pred = s.pred; found = s.found })

  unfoldable pub scan_reads : List ℤ → List O.C → Scan O.C → ℕ
  scan_reads y v s = runs_sum scan_more (scan_turn O n cost y v) (scan_turn_reads y v) (n - s.lo) s

  -- ---- `find_path_dense`

  unfoldable pub search_turn_reads : List ℤ → List O.C → Scan O.C → ℕ
  search_turn_reads y v s = pick (is_free (to_scan O n cost y s).found) (scan_reads y v (to_scan O n cost y s)) 0

  unfoldable pub search_reads : ℕ → List ℤ → List O.C → ℕ
  search_reads start y v = runs_sum search_more (search_turn O n cost y v) (search_turn_reads y v) n (search_from O n cost start v)

  -- row start's costs, then the search's
  unfoldable pub find_path_reads : ℕ → List ℤ → List O.C → ℕ
  find_path_reads start y v = n + search_reads start y v

  -- ---- `ca_dense`, the first m rows of those left over; and `lapjv`

  unfoldable pub ca_reads : ℕ → Kept O.C → ℕ
  ca_reads m s = walk_sum (λ r t. ca_step O n cost (num_at s.rows r) t) (λ r t. find_path_reads (num_at s.rows r) t.y t.v) 0 m (record { x = s.x; y = s.y; v = s.v })

  unfoldable pub lapjv_reads : ℕ
  lapjv_reads = ccrt_reads + carr_reads (ccrt_dense O n cost) + carr_reads (carr_dence O n cost (ccrt_dense O n cost)) + ca_reads (two_passes O n cost).count (two_passes O n cost)
