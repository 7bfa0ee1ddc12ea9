-- The measure is the rows that remain. The loop has added what the next row gives with none or with one in the columns so far.
use mathlib.Core.Path.{◌≡◌}
use Prim.Native.Nat.{◌-◌}
use Rattle.shortcut_counts.proofs.Columns.{up_to}
use Rattle.shortcut_counts.proofs.+count_placements.Given as goal

abbrev pub decreases-count_placements : goal.decreases-count_placements
decreases-count_placements l = l.rows

abbrev pub invariant-loop-column : goal.invariant-loop-column
invariant-loop-column l = l.n ≡ up_to (l.rows - 1) l.columns l.mask l.column
