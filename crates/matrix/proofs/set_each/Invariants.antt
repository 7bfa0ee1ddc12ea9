-- `matrix::set_each` meets its contract. The invariant: those before j are set, and those from j on are as they were.
use Rattle.std.proofs.Common.{◌≡◌, ℕ, ◌≤◌, ◌<◌, get_or}
use Rattle.std.specs.Float.{nan}
use Rattle.matrix.proofs.set_each.Given as goal

abbrev pub invariant-loop-j : goal.invariant-loop-j
invariant-loop-j g l = record {
  done : (j : ℕ) → j < l.j → goal.F-post g l.f j (get_or l.initial.out j nan) (get_or l.out j nan);
  rest : (j : ℕ) → l.j ≤ j → get_or l.out j nan ≡ get_or l.initial.out j nan;
}
