-- `gap::replay` meets its contract.
use mathlib.Core.Path.{◌≡◌}
use Rattle.gap.specs.Line.{box_at}
use Rattle.gap.proofs.VirtualBoxes.{rest}
use Rattle.gap.proofs.replay.Given as goal

abbrev pub invariant-loop-t : goal.invariant-loop-t
invariant-loop-t l = rest (box_at l.l) l.gap 1 l.initial.k ≡ rest (box_at l.l) l.gap l.t l.k
