-- `objects::first_class` meets its contract.
use borrow.Author.Rules.{rules}
use Rattle.frame.specs.Objects.{first_score}
use Rattle.objects.proofs.first_class.Goals as goal

pub returns : goal.returns
returns c = c.passing.ensures (first_score c.args.s) (λ x b h. search rules)
