-- `matrix::product` meets its contract. The invariant: the first i rows are written.
use Prim.Native.Nat.{◌*◌, ◌/◌, ◌%◌}
use Rattle.matrix.specs.Matrix.{entry_of}
use Rattle.lists.proofs.Fill.{Filled}
use Rattle.matrix.proofs.product.Given as goal

abbrev pub invariant-loop-i : goal.invariant-loop-i
invariant-loop-i g l = Filled (λ q. entry_of l.k g.row.M l.a l.b (q / g.row.M) (q % g.row.M)) l.initial.out l.out (l.i * g.row.M)
