-- `shortcut::largest` meets its contract.
use Rattle.std.proofs.Common.{◌≡◌, ℕ, ◌<◌}
use Rattle.matching.specs.Matching.{fullest}
use Rattle.shortcut.proofs.largest.Given as goal

abbrev pub invariant-loop-i : goal.invariant-loop-i
invariant-loop-i g l = (f : ℕ → ℕ) → ((j k : ℕ) → j < l.n → goal.F-post g l.number j k → k ≡ f j) → l.most ≡ fullest f l.i
