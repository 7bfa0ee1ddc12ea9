-- `scan_dense` between two turns: what it asks holds, and the turns left lead where the whole scan does. Assumes nothing.
use mathlib.Core.Path.{ap, refl, subst, sym, ◌∙◌, ◌≡◌}
use mathlib.Core.Bool.{false, true}
use mathlib.Core.List.{List}
use mathlib.Core.Logic.{inl, inr, ◌⊎◌}
use Prim.Native.Nat.{◌+◌, ◌-◌, ◌<◌, suc, ℕ}
use native.Mathlib.Omega.{arith}
use lib.IntN.{ℤ}
use Rattle.lapjv_walk.specs.Marks.{free, index, is_free, mark_at, num_at}
use Rattle.lapjv_walk.specs.Ops.{cost_at, Ops, val_at}
use Rattle.lapjv_walk.specs.Loops.{runs}
use Rattle.lapjv_walk.specs.Path.{Scan, scan_all, scan_dense, scan_more, scan_row, scan_turn}
use Rattle.lapjv_walk.specs.Holds.{Held, Marked, Seat}
use Rattle.lapjv_walk.proofs.Cases.{lt_of, not-both}
use Rattle.lapjv_walk.proofs.Loops.{runs_done, runs-more}
use Rattle.lapjv_walk.proofs.Search.{free-path, more-found, more-met, more_yes, path-held, scan≡, turn-found, turn-ok}

module _ (O : Ops) (n : ℕ) (cost : List O.C) (y : List ℤ) (v : List O.C) where
  -- from s, with no column found yet, the turns left lead where the scan from s₀ does
  pub record Scans (s₀ s : Scan O.C) : Type 0 where
    pub held : Held n y s
    pub none : s.found ≡ free
    pub same : runs scan_more (scan_turn O n cost y v) (n - s.lo) s ≡ scan_all O n cost y v s₀

  pub scans-first : (s₀ : Scan O.C) → Held n y s₀ → s₀.found ≡ free → Scans s₀ s₀
  unfolding scan_all
  scans-first s₀ h e = record { held = h; none = e; same = refl }

  -- a turn, with the row i and the cost c that it read
  pub turn_is : (s r : Scan O.C) (i : ℕ) (c : O.C) → i ≡ index (mark_at y (num_at s.cols s.lo)) → c ≡ cost_at O n cost i (num_at s.cols s.lo)
      → scan_row O n cost y v i (O.sub (O.sub c (val_at O v (num_at s.cols s.lo))) (val_at O s.d (num_at s.cols s.lo))) (val_at O s.d (num_at s.cols s.lo)) (record { lo = s.lo + 1; hi = s.hi; d = s.d; cols = s.cols; pred = s.pred; found = s.found }) ≡ r
      → scan_turn O n cost y v s ≡ r
  unfolding scan_turn
  turn_is s r i c ei ec e = rw (← ei, ← ec) e

  module _ (s₀ s : Scan O.C) (g : Scans s₀ s) where
    -- all columns before hi are scanned
    pub scans-done : s.lo ≡ s.hi → scan_dense O n cost y v s₀ ≡ s
    unfolding scan_dense
    scans-done e =
        let all : scan_all O n cost y v s₀ ≡ s = sym g.same ∙ runs_done scan_more (scan_turn O n cost y v) (n - s.lo) s (more-met s e) in
        rw (all, ap is_free g.none)

    module _ (m : Marked n y) (ne : s.lo ≡ s.hi → ⊥) where
      pub lo_hi : s.lo < s.hi
      lo_hi = lt_of g.held.lo_hi ne

      pub next-column : num_at s.cols s.lo < n
      next-column = g.held.apart.below s.lo (omega (arith, lo_hi, g.held.hi_n))

      pub next_row : Seat n (mark_at y (num_at s.cols s.lo))
      next_row = g.held.held s.lo lo_hi

      module _ (r : Scan O.C) (er : scan_turn O n cost y v s ≡ r) where
        pub turn-held : Held n y r
        turn-held = subst (λ (t : Scan O.C). Held n y t) er (path-held (turn-ok O n cost y v (λ _. Unit) m s lo_hi (free-path g.held)))

        runs-rest : runs scan_more (scan_turn O n cost y v) (n - (s.lo + 1)) r ≡ scan_all O n cost y v s₀
        runs-rest =
            let e : n - s.lo ≡ suc (n - (s.lo + 1)) = omega (arith, lo_hi, g.held.hi_n) in
            ap (runs scan_more (scan_turn O n cost y v) (n - (s.lo + 1))) (sym er) ∙ sym (runs-more scan_more (scan_turn O n cost y v) (n - (s.lo + 1)) s (more_yes s ne g.none)) ∙ rw e at g.same

        -- a free column is found: lo and hi are as before
        pub scans-found : is_free r.found ≡ false → scan_dense O n cost y v s₀ ≡ record { lo = s₀.lo; hi = s₀.hi; d = r.d; cols = r.cols; pred = r.pred; found = r.found }
        unfolding scan_dense
        scans-found e =
            let all : scan_all O n cost y v s₀ ≡ r = sym runs-rest ∙ runs_done scan_more (scan_turn O n cost y v) (n - (s.lo + 1)) r (more-found r e) in
            rw (all, e)

        free_of : (z : ℤ) → (z ≡ free) ⊎ (is_free z ≡ false) → is_free z ≡ true → z ≡ free
        free_of z (inl e) t = e
        free_of z (inr e) t = not-both (is_free z) t e

        pub scans-none : is_free r.found ≡ true → r.found ≡ free
        scans-none e = free_of r.found (subst (λ (t : Scan O.C). (t.found ≡ free) ⊎ (is_free t.found ≡ false)) er (turn-found O n cost y v (λ _. Unit) m s g.held.hi_n g.none)) e

        -- none is, and the next column comes
        pub scans-on : r.lo ≡ s.lo + 1 → is_free r.found ≡ true → Scans s₀ (record { lo = s.lo + 1; hi = r.hi; d = r.d; cols = r.cols; pred = r.pred; found = free })
        scans-on el e =
            let z : r.found ≡ free = scans-none e in
            subst (λ (t : Scan O.C). Scans s₀ t) (scan≡ el refl refl refl refl z) (record { held = turn-held; none = z; same = ap (λ (k : ℕ). runs scan_more (scan_turn O n cost y v) (n - k) r) el ∙ runs-rest })
