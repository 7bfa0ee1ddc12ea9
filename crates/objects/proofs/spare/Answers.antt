-- `objects::spare` meets its contract.
use borrow.Author.Rules.{rules}
use Rattle.frame.specs.Objects.{spare_score}
use Rattle.objects.proofs.spare.Goals as goal

pub returns : goal.returns
returns c = c.passing.ensures (spare_score c.args.s) (λ x b h. search rules)
