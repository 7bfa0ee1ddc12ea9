-- `gap::line_between` meets its contract.
use borrow.Author.Rules.{rules}
use lib.Dec.{le→leb}
use lib.Ieee.{in_float}
use Rattle.gap.specs.Line.{line_of}
use Rattle.gap.proofs.Steps.{width_is, height-is}
use Rattle.gap.proofs.line_between.Goals as goal

pub int_to_float-g : goal.int_to_float-g
unfolding in_float
int_to_float-g c = le→leb c.args.gap 16777216 (search rules)

pub returns : goal.returns
unfolding line_of
returns c = rw (c.sqrt-h2.ensures.is, c.sqrt-w2.ensures.is, c.sqrt-h.ensures.is, c.sqrt-w.ensures.is) (simp (width_is, height-is))
