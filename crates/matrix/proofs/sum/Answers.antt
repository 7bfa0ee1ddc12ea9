-- `matrix::sum` meets its contract.
use borrow.Author.Rules.{rules}
use lib.Ieee.{nan}
use Rattle.lists.proofs.Each.{tab-each}
use Rattle.matrix.specs.Matrix.{sum}
use Rattle.matrix.proofs.sum.Goals as goal

pub returns : goal.returns
unfolding sum
returns c = tab-each nan _ _ _ (search rules) (λ j h. let e = c.set_each.ensures j h in search rules)
