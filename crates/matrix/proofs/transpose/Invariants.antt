-- `matrix::transpose` meets its contract. The invariant: the first j columns are written.
use Prim.Native.Nat.{◌+◌, ◌*◌, ◌/◌, ◌%◌}
use lib.Ieee.{nan}
use lib.ListN.{get_or}
use Rattle.lists.proofs.Fill.{Filled}
use Rattle.matrix.proofs.transpose.Given as goal

abbrev pub invariant-loop-j : goal.invariant-loop-j
invariant-loop-j l = Filled (λ q. get_or l.a (q % l.n * l.m + q / l.n) nan) l.initial.out l.out (l.j-counter * l.n)
