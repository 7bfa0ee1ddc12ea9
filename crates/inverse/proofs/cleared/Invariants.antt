-- `inverse::cleared` meets its contract. The invariant: the rows before i are cleared, and those from i on are the pivot's.
use Rattle.std.proofs.Common.{◌≡◌, ℕ, ◌<◌, ◌≤◌, [], nat_eq, length, get_or}
use Rattle.lists.specs.Lists.{pick}
use Rattle.inverse.specs.Inverse.{row, reduced}
use Rattle.inverse.proofs.cleared.Given as goal

abbrev pub invariant-loop-i : goal.invariant-loop-i
invariant-loop-i l = record {
  long : length l.out ≡ 4;
  done : (j : ℕ) → j < l.i → get_or l.out j [] ≡ pick (nat_eq j l.c) l.t (reduced l.c l.t (row j l.m));
  rest : (j : ℕ) → l.i ≤ j → j < 4 → get_or l.out j [] ≡ l.t;
}
