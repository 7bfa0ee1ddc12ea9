-- `shortcut::count` meets its contract.
use Rattle.std.proofs.Common.{◌≡◌, Bool, ℕ, ◌<◌, ◌≤◌}
use Rattle.matching.specs.Matching.{count_of}
use Rattle.shortcut.proofs.count.Given as goal

abbrev pub invariant-loop-i : goal.invariant-loop-i
invariant-loop-i g l = (l.total ≤ l.i) × ((p : ℕ → Bool) → ((k : ℕ) (b : Bool) → k < l.n → goal.F-post g l.passes k b → b ≡ p k) → l.total ≡ count_of p l.i)
