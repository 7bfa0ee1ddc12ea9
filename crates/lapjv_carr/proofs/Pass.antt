-- A pass of `carr_dence` between two turns: what a turn asks holds, and the turns left lead where the whole pass does. Assumes nothing.
use mathlib.Core.Path.{ap, subst, sym, ◌∙◌, ◌≡◌}
use mathlib.Core.List.{List}
use mathlib.Core.Logic.{inr}
use Prim.Native.Nat.{◌*◌, ◌+◌, ◌-◌, ◌<◌, suc, ℕ, ◌≤◌}
use borrow.Author.Tests.{le-ltb, lt-ltb}
use native.Mathlib.Nat.{le_refl, mul-le-mul, mul-le-mul_right}
use native.Mathlib.Omega.{arith}
use Rattle.lapjv_walk.specs.Carr.{Carr, carr_more, carr_runs, carr_step}
use Rattle.lapjv_walk.specs.Ccrt.{Kept}
use Rattle.lapjv_walk.specs.Holds.{Left, Marked, Waits}
use Rattle.lapjv_walk.specs.Loops.{runs}
use Rattle.lapjv_walk.specs.Marks.{num_at}
use Rattle.lapjv_walk.specs.Ops.{Ops}
use Rattle.lapjv_walk.proofs.Carr.{Active, CarrOk, pass-starts, step_keeps}
use Rattle.lapjv_walk.proofs.Cells.{cells}
use Rattle.lapjv_walk.proofs.Loops.{runs_done, runs-more}
use Rattle.lapjv_walk.proofs.Pairing.{marked}

module _ (O : Ops) (n : ℕ) (cost : List O.C) (k : Kept O.C) where
  pub record Going (s : Carr O.C) : Type 0 where
    pub ok : CarrOk n k.count s
    pub same : runs (carr_more k.count) (carr_step O n cost) (k.count * n - s.turn) s ≡ carr_runs O n cost k

  module _ (some : 0 < n) where
    pub going-first : Left n k → Going (record { rows = k.rows; current = 0; fresh = 0; turn = 0; x = k.x; y = k.y; v = k.v })
    unfolding carr_runs
    going-first l = let e : k.count * n - 0 ≡ k.count * n = omega arith in record { ok = pass-starts O n cost some k l; same = rw e }

    module _ (s : Carr O.C) (g : Going s) where
      pub going_done : k.count ≤ s.current → carr_runs O n cost k ≡ s
      unfolding carr_more
      going_done h = sym g.same ∙ runs_done (carr_more k.count) (carr_step O n cost) (k.count * n - s.turn) s (le-ltb s.current k.count h)

      -- n reads a turn
      pub reads-small : n ≤ 64 → s.turn * n ≤ 266240
      reads-small m =
          let a : (s.current + 1) * n ≤ 65 * n = mul-le-mul_right n (omega (arith, g.ok.cur-count, g.ok.count_n)) in
          let b : s.turn ≤ 4160 = omega (arith, g.ok.turns) in
          mul-le-mul b m

      module _ (h : s.current < k.count) where
        pub going-turn : s.turn < k.count * n
        going-turn = let a : (s.current + 1) * n ≤ k.count * n = mul-le-mul_right n (omega arith) in omega (arith, g.ok.turns)

        pub going-small : n ≤ 64 → s.turn < 4096
        going-small m = let a : k.count * n ≤ n * n = mul-le-mul_right n g.ok.count_n in omega (arith, going-turn, cells n m)

        pub going-row : num_at s.rows s.current < n
        going-row = g.ok.queue.below s.current (inr (le_refl s.current, h))

        pub going-marked : Marked n s.y
        going-marked = marked n (λ i. Waits (λ p. Active s.fresh s.current k.count p) s.rows i) s.x s.y g.ok.queue.pairs

        pub going_on : (r : Carr O.C) → carr_step O n cost s ≡ r → r.turn ≡ s.turn + 1 → Going r
        unfolding carr_more
        going_on r e t =
            let d : k.count * n - s.turn ≡ suc (k.count * n - r.turn) = omega (arith, going-turn) in
            record {
              ok = subst (λ (z : Carr O.C). CarrOk n k.count z) e (step_keeps O n cost some k.count s h g.ok);
              same = ap (runs (carr_more k.count) (carr_step O n cost) (k.count * n - r.turn)) (sym e) ∙ sym (runs-more (carr_more k.count) (carr_step O n cost) (k.count * n - r.turn) s (lt-ltb s.current k.count h)) ∙ rw d at g.same;
            }
