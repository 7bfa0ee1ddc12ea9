use Rattle.ieee.proofs.folded.Goals as goal

pub returns-then-c : goal.returns-then-c
returns-then-c c = simp c.if-c.true

pub returns-else-c : goal.returns-else-c
returns-else-c c = simp c.if-c.false
