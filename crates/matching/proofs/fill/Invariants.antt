-- `matching::fill` meets its contract.
use Rattle.std.proofs.Common.{◌≡◌, ◌++◌, ℕ, ◌<◌, drop}
use Rattle.lists.specs.Lists.{tab}
use Rattle.matching.proofs.fill.Given as goal

abbrev pub invariant-loop-j : goal.invariant-loop-j
invariant-loop-j g l = (f : ℕ → g.row.T.Denot) → ((k : ℕ) (v : g.row.T.Denot) → k < l.n → goal.F-post g l.value k v → v ≡ f k) → l.out ≡ tab f l.j ++ drop l.j l.initial.out
