-- `matching::fill_rows` meets its contract.
use Rattle.std.proofs.Common.{◌≡◌, ◌++◌, ℕ, ◌*◌, ◌/◌, ◌%◌, ◌<◌, drop}
use Rattle.lists.specs.Lists.{tab}
use Rattle.matching.proofs.fill_rows.Given as goal

abbrev pub invariant-loop-i : goal.invariant-loop-i
invariant-loop-i g l =
    (f : ℕ → ℕ → g.row.T.Denot) → ((k j : ℕ) (v : g.row.T.Denot) → k < l.rows → j < l.columns → goal.F-post g l.value k j v → v ≡ f k j)
    → l.out ≡ tab (λ q. f (q / l.columns) (q % l.columns)) (l.i-counter * l.columns) ++ drop (l.i-counter * l.columns) l.initial.out
