-- A turn of the search, from what `find_dense` and `last_free` left. Assumes nothing.
use mathlib.Core.Path.{ap, sym, ◌∙◌, ◌≡◌}
use mathlib.Core.Bool.{false, true}
use mathlib.Core.List.{List}
use Prim.Native.Nat.{◌<◌, ℕ, ◌≤◌}
use lib.IntN.{ℤ}
use native.Mathlib.Omega.{arith}
use Rattle.lapjv_walk.specs.Holds.{Apart, Held, Marked}
use Rattle.lapjv_walk.specs.Marks.{free, is_free}
use Rattle.lapjv_walk.specs.Ops.{Ops}
use Rattle.lapjv_walk.specs.Path.{find_dense, last_free, Scan, scan_dense, search_turn, to_scan}
use Rattle.lapjv_walk.specs.Reads.{scan_reads, search_turn_reads}
use Rattle.lapjv_walk.proofs.Find.{find-from}
use Rattle.lapjv_walk.proofs.ToScan.{to-scan-free, to-scan-held}

module _ (O : Ops) (n : ℕ) (cost : List O.C) (y : List ℤ) (lo : ℕ) (d : List O.C) (cols pred : List ℕ) (h : Held n y (record { lo = lo; hi = lo; d = d; cols = cols; pred = pred; found = free })) (ln : lo < n)
    (hi : ℕ) (cols' : List ℕ) (eh : hi ≡ (find_dense O n lo d cols).hi) (ec : cols' ≡ (find_dense O n lo d cols).cols) where
  -- what `last_free` asks
  pub found-columns : (lo ≤ hi) × (hi ≤ n) × Apart n cols'
  found-columns = let f = find-from O n lo d cols ln h.apart in (omega (arith, f.0.lo_hi), omega (arith, f.0.hi-k), rw ec f.0.apart)

  module _ (z : ℤ) (ez : z ≡ last_free y cols' lo hi) (h₀ : ℕ) where
    abbrev before : Scan O.C
    before = record { lo = lo; hi = h₀; d = d; cols = cols; pred = pred; found = free }

    to-scan : to_scan O n cost y before ≡ record { lo = lo; hi = hi; d = d; cols = cols'; pred = pred; found = z }
    unfolding to_scan
    to-scan = rw (ez, eh, ec)

    -- one of the columns is free
    pub turn-finds : (v : List O.C) → is_free z ≡ false → search_turn O n cost y v (record { lo = lo; hi = h₀; d = d; cols = cols; pred = pred; found = free }) ≡ record { lo = lo; hi = hi; d = d; cols = cols'; pred = pred; found = z }
    unfolding search_turn
    turn-finds v e = rw (to-scan, e)

    pub finds-reads : (v : List O.C) → is_free z ≡ false → search_turn_reads O n cost y v (record { lo = lo; hi = h₀; d = d; cols = cols; pred = pred; found = free }) ≡ 0
    unfolding search_turn_reads
    finds-reads v e = rw (to-scan, e)

    -- none is, and what `scan_dense` asks holds
    pub turn-scans : (v : List O.C) → Marked n y → is_free z ≡ true
        → Held n y (record { lo = lo; hi = hi; d = d; cols = cols'; pred = pred; found = free })
        × (search_turn O n cost y v (record { lo = lo; hi = h₀; d = d; cols = cols; pred = pred; found = free }) ≡ scan_dense O n cost y v (record { lo = lo; hi = hi; d = d; cols = cols'; pred = pred; found = free }))
    unfolding search_turn
    turn-scans v m e =
        let ef : is_free (to_scan O n cost y before).found ≡ true = rw to-scan e in
        let fr : z ≡ free = sym (ap (λ (t : Scan O.C). t.found) to-scan) ∙ to-scan-free O n cost y m before h ln ef in
        let hh = rw to-scan at (to-scan-held O n cost y m before h ln ef) in
        (rw fr at hh, rw (to-scan, fr))

    pub scans-reads : (v : List O.C) → Marked n y → is_free z ≡ true
        → search_turn_reads O n cost y v (record { lo = lo; hi = h₀; d = d; cols = cols; pred = pred; found = free }) ≡ scan_reads O n cost y v (record { lo = lo; hi = hi; d = d; cols = cols'; pred = pred; found = free })
    unfolding search_turn_reads
    scans-reads v m e =
        let ef : is_free (to_scan O n cost y before).found ≡ true = rw to-scan e in
        let fr : z ≡ free = sym (ap (λ (t : Scan O.C). t.found) to-scan) ∙ to-scan-free O n cost y m before h ln ef in
        rw (to-scan, fr)
