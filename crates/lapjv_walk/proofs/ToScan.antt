-- What `find_dense` hands to `scan_dense`: columns that are all taken, where none of them is free. Assumes nothing.
use mathlib.Core.Path.{ap, refl, ◌≡◌}
use mathlib.Core.Bool.{false, true}
use mathlib.Core.List.{[], List}
use mathlib.Core.Logic.{⊎_elim}
use Prim.Native.Nat.{◌<◌, ℕ, ◌≤◌}
use lib.IntN.{pos, ℤ}
use lib.ListN.{get_or}
use Rattle.lapjv_walk.specs.Holds.{Held, Marked}
use Rattle.lapjv_walk.specs.Marks.{free, is_free}
use Rattle.lapjv_walk.specs.Ops.{Ops}
use Rattle.lapjv_walk.specs.Path.{Find, find_dense, last_free, Scan, to_scan}
use Rattle.lapjv_walk.proofs.Cases.{not-both}
use Rattle.lapjv_walk.proofs.Route.{find-wide, found-path, FreeAt, Head, last-free}
use Rattle.lapjv_walk.proofs.Search.{free-path, path-held}

-- what `scan_dense` asks holds of the columns that `find_dense` brought, where none of them is free
pub to-scan-held : (O : Ops) (n : ℕ) (cost : List O.C) (y : List ℤ) → Marked n y → (s : Scan O.C) → Held n y (record { lo = s.lo; hi = s.lo; d = s.d; cols = s.cols; pred = s.pred; found = free }) → s.lo < n
    → is_free (to_scan O n cost y s).found ≡ true → Held n y (to_scan O n cost y s)
unfolding to_scan
to-scan-held O n cost y m s h ln e =
    let f : Find O.C = find_dense O n s.lo s.d s.cols in
    let t : Scan O.C = record { lo = s.lo; hi = s.hi; d = s.d; cols = s.cols; pred = s.pred; found = free } in
    let head : Head O n cost y [] (λ _. Unit) m t = record { path = free-path h; none = refl } in
    ⊎_elim
    (λ (w : (last_free y f.cols s.lo f.hi ≡ free) × ((q : ℕ) → s.lo ≤ q → q < f.hi → is_free (get_or y (get_or f.cols q 0) (pos 0)) ≡ false)). path-held (found-path O n cost y [] (λ _. Unit) m t head ln (last_free y f.cols s.lo f.hi) w.1))
    (λ (w : FreeAt y f.cols f.hi (last_free y f.cols s.lo f.hi)). not-both (is_free (last_free y f.cols s.lo f.hi)) e (ap is_free w.is))
    (last-free y f.cols s.lo f.hi (find-wide O n cost y [] (λ _. Unit) m t head ln))

-- and then no column is found yet
pub to-scan-free : (O : Ops) (n : ℕ) (cost : List O.C) (y : List ℤ) → Marked n y → (s : Scan O.C) → Held n y (record { lo = s.lo; hi = s.lo; d = s.d; cols = s.cols; pred = s.pred; found = free }) → s.lo < n
    → is_free (to_scan O n cost y s).found ≡ true → (to_scan O n cost y s).found ≡ free
unfolding to_scan
to-scan-free O n cost y m s h ln e =
    let f : Find O.C = find_dense O n s.lo s.d s.cols in
    let t : Scan O.C = record { lo = s.lo; hi = s.hi; d = s.d; cols = s.cols; pred = s.pred; found = free } in
    let head : Head O n cost y [] (λ _. Unit) m t = record { path = free-path h; none = refl } in
    ⊎_elim
    (λ (w : (last_free y f.cols s.lo f.hi ≡ free) × ((q : ℕ) → s.lo ≤ q → q < f.hi → is_free (get_or y (get_or f.cols q 0) (pos 0)) ≡ false)). w.0)
    (λ (w : FreeAt y f.cols f.hi (last_free y f.cols s.lo f.hi)). not-both (is_free (last_free y f.cols s.lo f.hi)) e (ap is_free w.is))
    (last-free y f.cols s.lo f.hi (find-wide O n cost y [] (λ _. Unit) m t head ln))
