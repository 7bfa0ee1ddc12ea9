-- `lapint::all_in_range` meets its contract.
use mathlib.Core.Path.{◌≡◌}
use mathlib.Core.Bool.{true}
use Rattle.lapint.specs.Answer.{all_in_range}
use Rattle.lapint.proofs.all_in_range.Given as goal

abbrev pub invariant-loop-c : goal.invariant-loop-c
invariant-loop-c l = all_in_range l.cost l.c-index ≡ true
