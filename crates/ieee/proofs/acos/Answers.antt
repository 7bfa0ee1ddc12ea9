-- `ieee::acos` meets its contract.
use Rattle.ieee.specs.Acos.{acos_of}
use Rattle.ieee.proofs.acos.Goals as goal

pub returns-then-c : goal.returns-then-c
unfolding acos_of
returns-then-c c = simp (c.acos_upper-upper.ensures, c.folded.ensures, c.if-c.true)

pub returns-else-c : goal.returns-else-c
unfolding acos_of
returns-else-c c = simp (c.acos_upper-upper.ensures, c.folded.ensures, c.if-c.false)
