-- `inverse::try_inverse` meets its contract. The invariant: m is what the first c columns leave.
use mathlib.Core.Path.{◌≡◌}
use Rattle.std.specs.Prelude.{Some}
use Rattle.inverse.specs.Inverse.{columns}
use Rattle.inverse.proofs.try_inverse.Given as goal

abbrev pub invariant-loop-c : goal.invariant-loop-c
invariant-loop-c l = columns l.c l.initial.m ≡ Some l.m
