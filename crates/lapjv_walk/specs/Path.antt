-- Document 01, item 2, `find_dense`, `scan_dense` and `find_path_dense`: the shortest way from a free row to a free column. Definitions only.
use Rattle.std.specs.Prelude.{Bool, not, ◌&&◌, List, ℕ, ◌+◌, ◌-◌, eqb, ℤ, pos, set}
use Rattle.lists.specs.Lists.{pick, tab}
use Rattle.lapjv_walk.specs.Marks.{free, is_free, index, mark_at, num_at}
use Rattle.lapjv_walk.specs.Ops.{Ops, val_at, cost_at}
use Rattle.lapjv_walk.specs.Loops.{walk, runs}

-- `find_dense`: the columns, the end of those at the least distance, that distance
pub record Find (C : Type 0) : Type 0 where
  pub cols : List ℕ
  pub hi : ℕ
  pub mind : C

-- the columns in order of distance: scanned before lo, at the least distance before hi; distances, the row before each column, the free column found
pub record Scan (C : Type 0) : Type 0 where
  pub lo : ℕ
  pub hi : ℕ
  pub d : List C
  pub cols : List ℕ
  pub pred : List ℕ
  pub found : ℤ

-- `find_path_dense`: the row before each column, the free column found, the prices
pub record Route (C : Type 0) : Type 0 where
  pub pred : List ℕ
  pub last : ℤ
  pub v : List C

-- what stands at i goes to k, and j to i
abbrev pub exchanged : List ℕ → ℕ → ℕ → ℕ → List ℕ
exchanged cols k i j = set (set cols k (num_at cols i)) i j

-- the last free column of those from lo up to hi
unfoldable pub last_free : List ℤ → List ℕ → ℕ → ℕ → ℤ
last_free y cols lo hi = walk (λ k r. pick (is_free (mark_at y (num_at cols k))) (pos (num_at cols k)) r) lo hi free

unfoldable pub scan_more : {C : Type 0} → Scan C → Bool
scan_more s = not (eqb s.lo s.hi) && is_free s.found

unfoldable pub search_more : {C : Type 0} → Scan C → Bool
search_more s = is_free s.found

module _ (O : Ops) where
  -- column j joins those at the least distance
  abbrev pub find_take : ℕ → ℕ → Find O.C → Find O.C
  find_take k j s = record { cols = exchanged s.cols k s.hi j; hi = s.hi + 1; mind = s.mind }

  abbrev pub find_col : ℕ → List O.C → ℕ → ℕ → Find O.C → Find O.C
  find_col lo d k j s =
      pick (O.le (val_at O d j) s.mind)
      (pick (O.lt (val_at O d j) s.mind) (find_take k j (record { cols = s.cols; hi = lo; mind = val_at O d j })) (find_take k j s))
      s

  unfoldable pub find_step : ℕ → List O.C → ℕ → Find O.C → Find O.C
  find_step lo d k s = find_col lo d k (num_at s.cols k) s

  unfoldable pub find_dense : ℕ → ℕ → List O.C → List ℕ → Find O.C
  find_dense n lo d cols = walk (find_step lo d) (lo + 1) n (record { cols = cols; hi = lo + 1; mind = val_at O d (num_at cols lo) })

  -- column j, at a new distance c by row i: at the least distance it ends the scan if it is free, and joins if not
  unfoldable pub scan_hit : ℕ → O.C → List ℤ → ℕ → ℕ → O.C → Scan O.C → Scan O.C
  scan_hit i mind y k j c s =
      pick (O.eq c mind)
      (pick (is_free (mark_at y j))
      (record { lo = s.lo; hi = s.hi; d = set s.d j c; cols = s.cols; pred = set s.pred j i; found = pos j })
      (record { lo = s.lo; hi = s.hi + 1; d = set s.d j c; cols = exchanged s.cols k s.hi j; pred = set s.pred j i; found = s.found }))
      (record { lo = s.lo; hi = s.hi; d = set s.d j c; cols = s.cols; pred = set s.pred j i; found = s.found })

  unfoldable pub raise_step : O.C → List O.C → List ℕ → ℕ → List O.C → List O.C
  raise_step mind d cols k v =
      let j : ℕ = num_at cols k in
      set v j (O.add (val_at O v j) (O.sub (val_at O d j) mind))

  -- the prices of the columns before lo change by their distance less the least distance
  unfoldable pub raise : ℕ → List O.C → List ℕ → List O.C → List O.C
  raise lo d cols v = walk (raise_step (val_at O d (num_at cols lo)) d cols) 0 lo v

  module _ (n : ℕ) (cost : List O.C) where
    unfoldable pub scan_col : List ℤ → List O.C → ℕ → O.C → O.C → ℕ → ℕ → Scan O.C → Scan O.C
    scan_col y v i h mind k j s =
        let c : O.C = O.sub (O.sub (cost_at O n cost i j) (val_at O v j)) h in
        pick (O.lt c (val_at O s.d j)) (scan_hit i mind y k j c s) s

    -- once a column is found, the rest of the row is left alone
    unfoldable pub scan_step : List ℤ → List O.C → ℕ → O.C → O.C → ℕ → Scan O.C → Scan O.C
    scan_step y v i h mind k s = pick (is_free s.found) (scan_col y v i h mind k (num_at s.cols k) s) s

    unfoldable pub scan_row : List ℤ → List O.C → ℕ → O.C → O.C → Scan O.C → Scan O.C
    scan_row y v i h mind s = walk (scan_step y v i h mind) s.hi n s

    -- the next column at the least distance: its row against the columns not yet at that distance
    unfoldable pub scan_turn : List ℤ → List O.C → Scan O.C → Scan O.C
    scan_turn y v s =
        let j : ℕ = num_at s.cols s.lo in
        let i : ℕ = index (mark_at y j) in
        let mind : O.C = val_at O s.d j in
        scan_row y v i (O.sub (O.sub (cost_at O n cost i j) (val_at O v j)) mind) mind (record { lo = s.lo + 1; hi = s.hi; d = s.d; cols = s.cols; pred = s.pred; found = s.found })

    -- within n - lo turns
    unfoldable pub scan_all : List ℤ → List O.C → Scan O.C → Scan O.C
    scan_all y v s = runs scan_more (scan_turn y v) (n - s.lo) s

    -- where a column was found, lo and hi are as before
    unfoldable pub scan_dense : List ℤ → List O.C → Scan O.C → Scan O.C
    scan_dense y v s =
        let t : Scan O.C = scan_all y v s in
        pick (is_free t.found) t (record { lo = s.lo; hi = s.hi; d = t.d; cols = t.cols; pred = t.pred; found = t.found })

    -- the columns at the least distance, and the last free one of them
    unfoldable pub to_scan : List ℤ → Scan O.C → Scan O.C
    to_scan y s =
        let f : Find O.C = find_dense n s.lo s.d s.cols in
        record { lo = s.lo; hi = f.hi; d = s.d; cols = f.cols; pred = s.pred; found = last_free y f.cols s.lo f.hi }

    unfoldable pub search_turn : List ℤ → List O.C → Scan O.C → Scan O.C
    search_turn y v s = pick (is_free (to_scan y s).found) (scan_dense y v (to_scan y s)) (to_scan y s)

    unfoldable pub search_from : ℕ → List O.C → Scan O.C
    search_from start v = record { lo = 0; hi = 0; d = tab (λ j. O.sub (cost_at O n cost start j) (val_at O v j)) n; cols = tab (λ j. j) n; pred = tab (λ _. start) n; found = free }

    -- within n turns
    unfoldable pub search_path : ℕ → List ℤ → List O.C → Scan O.C
    search_path start y v = runs search_more (search_turn y v) n (search_from start v)

    unfoldable pub find_path_dense : ℕ → List ℤ → List O.C → Route O.C
    find_path_dense start y v =
        let s : Scan O.C = search_path start y v in
        record { pred = s.pred; last = s.found; v = raise s.lo s.d s.cols v }
