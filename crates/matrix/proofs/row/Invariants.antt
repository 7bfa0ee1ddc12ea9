-- `matrix::row` meets its contract. The invariant: row has the first l terms of each entry.
use Prim.Native.Nat.{◌<◌}
use mathlib.Core.Path.{◌≡◌}
use Rattle.matrix.proofs.Rows.{gathered}
use Rattle.matrix.proofs.row.Given as goal

abbrev pub invariant-loop-l : goal.invariant-loop-l
invariant-loop-l g l = record {
  some : 0 < l.l;
  so_far : l.row ≡ gathered l.k g.row.M l.a l.b l.i l.l;
}
