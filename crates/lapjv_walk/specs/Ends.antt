-- 'For any f64 costs it ends' (document 01, item 2): no `while` of the walk is stopped by its budget of turns; each ends because its own test fails. Definitions only.
use Rattle.std.specs.Prelude.{◌≡◌, true, false, List, ℕ, ◌<◌, ℤ}
use Rattle.lapjv_walk.specs.Marks.{index, num_at}
use Rattle.lapjv_walk.specs.Ops.{Ops}
use Rattle.lapjv_walk.specs.Loops.{runs}
use Rattle.lapjv_walk.specs.Ccrt.{ccrt_dense}
use Rattle.lapjv_walk.specs.Carr.{carr_more, carr_runs, carr_dence}
use Rattle.lapjv_walk.specs.Path.{Scan, scan_more, search_more, to_scan, scan_all, search_turn, search_from, search_path, find_path_dense}
use Rattle.lapjv_walk.specs.Lapjv.{Ca, hop_more, augment, ca_dense, two_passes}

module _ (O : Ops) (n : ℕ) (cost : List O.C) where
  -- the search after k turns
  unfoldable pub searched : ℕ → ℕ → List ℤ → List O.C → Scan O.C
  searched k start y v = runs search_more (search_turn O n cost y v) k (search_from O n cost start v)

  -- from row start: the search, each scan within it, and the way back
  pub record RowEnds (start : ℕ) (s : Ca O.C) : Type 0 where
    pub search_ends : search_more (search_path O n cost start s.y s.v) ≡ false
    pub scans_end : (k : ℕ) → search_more (searched k start s.y s.v) ≡ true → scan_more (scan_all O n cost s.y s.v (to_scan O n cost s.y (searched k start s.y s.v))) ≡ false
    pub trail_ends : hop_more start (augment n (find_path_dense O n cost start s.y s.v).pred start (index (find_path_dense O n cost start s.y s.v).last) s.x s.y) ≡ false

  -- both passes, and each row of `ca_dense`
  pub record AllEnd : Type 0 where
    pub first : carr_more (ccrt_dense O n cost).count (carr_runs O n cost (ccrt_dense O n cost)) ≡ false
    pub second : carr_more (carr_dence O n cost (ccrt_dense O n cost)).count (carr_runs O n cost (carr_dence O n cost (ccrt_dense O n cost))) ≡ false
    pub row : (m : ℕ) → m < (two_passes O n cost).count → RowEnds (num_at (two_passes O n cost).rows m) (ca_dense O n cost m (two_passes O n cost))
