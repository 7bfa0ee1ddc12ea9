-- `gap::virtual_box` meets its contract.
use borrow.Author.Rules.{rules}
use lib.Dec.{le→leb}
use lib.Ieee.{in_float}
use Rattle.gap.specs.Line.{box_at}
use Rattle.gap.proofs.virtual_box.Goals as goal

pub int_to_float-t : goal.int_to_float-t
unfolding in_float
int_to_float-t c = le→leb c.args.t 16777216 (search rules)

pub returns : goal.returns
unfolding box_at
returns c = search rules
