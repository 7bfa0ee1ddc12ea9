-- `roots::whole_root` meets its contract. The invariant: lo's square is within a and hi's is above it; the measure is hi - lo.
use mathlib.Core.Path.{subst}
use Prim.Native.Nat.{ℕ, ◌-◌, ◌*◌, ◌≤◌, ◌<◌}
use native.Mathlib.Omega.{arith}
use Rattle.roots.specs.Roots.{IsRoot}
use Rattle.roots.proofs.Roots.{square-fits}
use Rattle.roots.proofs.whole_root.Goals as goal

pub overflow_mul-mid : goal.overflow_mul-mid
overflow_mul-mid c = record { fits = square-fits _ (omega arith) }

closed : (a lo hi : ℕ) → lo < hi → hi - lo ≤ 1 → lo * lo ≤ a → a < hi * hi → IsRoot a lo
closed a lo hi l h x y = record { low = x; high = subst (λ (z : ℕ). a < z * z) (omega arith) y }

pub returns : goal.returns
returns c =
    let v = c.loop-hi.invariant in
    closed _ c.loop-hi.lo c.loop-hi.hi v.0 c.loop-hi-test.false v.2 v.3
