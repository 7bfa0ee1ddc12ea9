-- The reads of a row's scan and of `scan_dense` between two turns: so many so far, and those of the turns left make up the whole. Assumes nothing.
use mathlib.Core.Path.{ap, refl, subst, sym, ◌∙◌, ◌≡◌}
use mathlib.Core.Bool.{false, true}
use mathlib.Core.List.{List}
use Prim.Native.Nat.{◌+◌, ◌-◌, ◌<◌, suc, ℕ, ◌≤◌}
use lib.IntN.{ℤ}
use native.Mathlib.Nat.{mul-le-mul_left, sub_self}
use native.Mathlib.Omega.{arith}
use Rattle.lapjv_walk.specs.Loops.{runs_sum, walk, walk_sum}
use Rattle.lapjv_walk.specs.Marks.{free, index, is_free, mark_at, num_at}
use Rattle.lapjv_walk.specs.Ops.{cost_at, Ops, val_at}
use Rattle.lapjv_walk.specs.Path.{Scan, scan_more, scan_step, scan_turn}
use Rattle.lapjv_walk.specs.Reads.{scan_reads, scan_row_reads, scan_turn_reads, try_reads}
use Rattle.lapjv_walk.proofs.Loops.{runs-sum-done, runs-sum-on, walk-sum-more, walk-sum-none, walk-sum-stop}
use Rattle.lapjv_walk.proofs.Most.{scan-most, search-small}
use Rattle.lapjv_walk.proofs.Search.{found-fixed, more-found, more-met, scan≡}

module _ (O : Ops) (n : ℕ) (cost : List O.C) (y : List ℤ) (v : List O.C) where
  abbrev pub ScanCount : Scan O.C → Scan O.C → ℕ → Type 0
  ScanCount s₀ s reads = reads + runs_sum scan_more (scan_turn O n cost y v) (scan_turn_reads O n cost y v) (n - s.lo) s ≡ scan_reads O n cost y v s₀

  pub count-first : (s₀ : Scan O.C) → ScanCount s₀ s₀ 0
  unfolding scan_reads
  count-first s₀ = omega arith

  pub count-done : (s₀ s : Scan O.C) (k : ℕ) → ScanCount s₀ s k → s.lo ≡ s.hi → k ≡ scan_reads O n cost y v s₀
  count-done s₀ s k t e = omega (arith, t, runs-sum-done scan_more (scan_turn O n cost y v) (scan_turn_reads O n cost y v) (n - s.lo) s (more-met s e))

  -- a turn's reads, with the row i and the cost c that it read
  pub turn-reads : (s : Scan O.C) (i : ℕ) (c : O.C) (k : ℕ) → i ≡ index (mark_at y (num_at s.cols s.lo)) → c ≡ cost_at O n cost i (num_at s.cols s.lo)
      → k ≡ scan_row_reads O n cost y v i (O.sub (O.sub c (val_at O v (num_at s.cols s.lo))) (val_at O s.d (num_at s.cols s.lo))) (val_at O s.d (num_at s.cols s.lo)) (record { lo = s.lo + 1; hi = s.hi; d = s.d; cols = s.cols; pred = s.pred; found = s.found })
      → 1 + k ≡ scan_turn_reads O n cost y v s
  unfolding scan_turn_reads
  turn-reads s i c k ei ec e = rw (← ei, ← ec) (ap (λ (z : ℕ). 1 + z) e)

  module _ (s₀ s : Scan O.C) (k : ℕ) (t : ScanCount s₀ s k) (low : s.lo < n) (more : scan_more s ≡ true) (r : Scan O.C) (er : scan_turn O n cost y v s ≡ r) (j : ℕ) (ej : j ≡ scan_turn_reads O n cost y v s) where
    counted : k + j + runs_sum scan_more (scan_turn O n cost y v) (scan_turn_reads O n cost y v) (n - (s.lo + 1)) r ≡ scan_reads O n cost y v s₀
    counted =
        let e : n - s.lo ≡ suc (n - (s.lo + 1)) = omega arith in
        runs-sum-on scan_more (scan_turn O n cost y v) (scan_turn_reads O n cost y v) (n - (s.lo + 1)) k j _ s r more er ej (rw e at t)

    pub count-found : is_free r.found ≡ false → k + j ≡ scan_reads O n cost y v s₀
    count-found e = omega (arith, counted, runs-sum-done scan_more (scan_turn O n cost y v) (scan_turn_reads O n cost y v) (n - (s.lo + 1)) r (more-found r e))

    pub count-on : r.lo ≡ s.lo + 1 → r.found ≡ free → ScanCount s₀ (record { lo = s.lo + 1; hi = r.hi; d = r.d; cols = r.cols; pred = r.pred; found = free }) (k + j)
    count-on el ef = subst (λ (q : Scan O.C). k + j + runs_sum scan_more (scan_turn O n cost y v) (scan_turn_reads O n cost y v) (n - (s.lo + 1)) q ≡ scan_reads O n cost y v s₀) (scan≡ el refl refl refl refl ef) counted

    pub count_small : n ≤ 64 → s₀.lo ≤ n → k + j ≤ 4160
    count_small h l =
        let p = scan-most O n cost y v s₀ l in
        omega (arith, counted, p.0, mul-le-mul_left (n + 1) p.1, search-small n h)

  -- ---- a row's scan: one for each column tried, up to the one found

  module _ (i : ℕ) (h mind : O.C) (from : ℕ) (s : Scan O.C) where
    pub tries-first : walk_sum (scan_step O n cost y v i h mind) try_reads from from s ≡ from - from
    tries-first = walk-sum-none (scan_step O n cost y v i h mind) try_reads from s ∙ sym (sub_self from)

    module _ (k : ℕ) (l : from ≤ k) (t : Scan O.C) (e : t ≡ walk (scan_step O n cost y v i h mind) from k s) (none : is_free t.found ≡ true) (so : walk_sum (scan_step O n cost y v i h mind) try_reads from k s ≡ k - from) where
      one : try_reads k (walk (scan_step O n cost y v i h mind) from k s) ≡ 1
      unfolding try_reads
      one = rw (← e, none)

      pub tries-on : walk_sum (scan_step O n cost y v i h mind) try_reads from (k + 1) s ≡ k + 1 - from
      tries-on = omega (arith, walk-sum-more (scan_step O n cost y v i h mind) try_reads from k s l, one, so)

      pub tries-found : k < n → (r : Scan O.C) → walk (scan_step O n cost y v i h mind) from (k + 1) s ≡ r → is_free r.found ≡ false → walk_sum (scan_step O n cost y v i h mind) try_reads from n s ≡ k + 1 - from
      unfolding try_reads
      tries-found kn r er f = walk-sum-stop (scan_step O n cost y v i h mind) try_reads from (k + 1) n s r (omega arith) (omega arith) (λ q. found-fixed O n cost y v i h mind q r f) (λ q. rw f) er ∙ tries-on
