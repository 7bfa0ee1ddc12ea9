-- `lapjv_path::last_free` meets its contract.
use mathlib.Core.Path.{◌≡◌}
use Prim.Native.Nat.{ℕ, ◌≤◌}
use lib.IntN.{pos, ℤ}
use Rattle.lists.specs.Lists.{pick}
use Rattle.lapjv_walk.specs.Loops.{walk}
use Rattle.lapjv_walk.specs.Marks.{free, is_free, mark_at, mark_of, num_at}
use Rattle.lapjv_path.proofs.last_free.Given as goal

abbrev pub invariant-loop-k : goal.invariant-loop-k
invariant-loop-k l = (l.lo ≤ l.k) × (mark_of l.found ≡ walk (λ (i : ℕ) (r : ℤ). pick (is_free (mark_at l.y (num_at l.cols i))) (pos (num_at l.cols i)) r) l.lo l.k free)
