-- The reads of the search between two turns: so many so far, and those of the turns left make up the whole. Assumes nothing.
use mathlib.Core.Path.{refl, subst, ◌≡◌}
use mathlib.Core.Bool.{false}
use mathlib.Core.List.{List}
use Prim.Native.Nat.{◌+◌, ◌-◌, ◌<◌, suc, ℕ, ◌≤◌}
use lib.IntN.{ℤ}
use native.Mathlib.Omega.{arith}
use Rattle.lapjv_walk.specs.Loops.{runs_sum}
use Rattle.lapjv_walk.specs.Marks.{free, is_free}
use Rattle.lapjv_walk.specs.Ops.{Ops}
use Rattle.lapjv_walk.specs.Path.{Scan, search_from, search_more, search_turn}
use Rattle.lapjv_walk.specs.Reads.{search_reads, search_turn_reads}
use Rattle.lapjv_walk.proofs.Loops.{runs-sum-done, runs-sum-on}
use Rattle.lapjv_walk.proofs.Most.{path-most, search-small}
use Rattle.lapjv_walk.proofs.Search.{scan≡}

module _ (O : Ops) (n : ℕ) (cost : List O.C) (y : List ℤ) (v : List O.C) (start : ℕ) where
  pub record Spent (lo : ℕ) (d : List O.C) (cols pred : List ℕ) (reads : ℕ) : Type 0 where
    pub hi : ℕ
    pub left : ℕ
    pub enough : n ≤ left + lo
    pub total : reads + runs_sum search_more (search_turn O n cost y v) (search_turn_reads O n cost y v) left (record { lo = lo; hi = hi; d = d; cols = cols; pred = pred; found = free }) ≡ search_reads O n cost start y v

  pub spent-first : (d : List O.C) (cols pred : List ℕ) → search_from O n cost start v ≡ record { lo = 0; hi = 0; d = d; cols = cols; pred = pred; found = free } → Spent 0 d cols pred 0
  unfolding search_reads
  spent-first d cols pred e = record { hi = 0; left = n; enough = omega arith; total = rw e (omega arith) }

  module _ (lo : ℕ) (d : List O.C) (cols pred : List ℕ) (k : ℕ) (p : Spent lo d cols pred k) (low : lo < n) (r : Scan O.C) (j : ℕ)
      (er : search_turn O n cost y v (record { lo = lo; hi = p.hi; d = d; cols = cols; pred = pred; found = free }) ≡ r)
      (ej : j ≡ search_turn_reads O n cost y v (record { lo = lo; hi = p.hi; d = d; cols = cols; pred = pred; found = free })) where
    abbrev s : Scan O.C
    s = record { lo = lo; hi = p.hi; d = d; cols = cols; pred = pred; found = free }

    spent : k + j + runs_sum search_more (search_turn O n cost y v) (search_turn_reads O n cost y v) (p.left - 1) r ≡ search_reads O n cost start y v
    unfolding search_more
    spent =
        let e : p.left ≡ suc (p.left - 1) = omega (arith, p.enough) in
        runs-sum-on search_more (search_turn O n cost y v) (search_turn_reads O n cost y v) (p.left - 1) k j _ s r refl er ej (rw e at p.total)

    pub spent-small : n ≤ 64 → k + j ≤ 4160
    spent-small h = omega (arith, spent, path-most O n cost start y v, search-small n h)

    pub spent-found : is_free r.found ≡ false → k + j ≡ search_reads O n cost start y v
    unfolding search_more
    spent-found e = omega (arith, spent, runs-sum-done search_more (search_turn O n cost y v) (search_turn_reads O n cost y v) (p.left - 1) r e)

    pub spent-on : lo < r.lo → r.found ≡ free → Spent r.lo r.d r.cols r.pred (k + j)
    spent-on l e = record {
      hi = r.hi;
      left = p.left - 1;
      enough = omega (arith, p.enough);
      total = subst (λ (q : Scan O.C). k + j + runs_sum search_more (search_turn O n cost y v) (search_turn_reads O n cost y v) (p.left - 1) q ≡ search_reads O n cost start y v) (scan≡ refl refl refl refl refl e) spent;
    }
