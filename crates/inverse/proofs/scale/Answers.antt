-- `inverse::scale` meets its contract.
use borrow.Author.Rules.{rules}
use lib.Ieee.{Float, nan, div, binary32}
use lib.ListN.{get_or}
use Rattle.lists.proofs.Each.{tab-mapped}
use Rattle.inverse.specs.Inverse.{scaled}
use Rattle.inverse.proofs.scale.Goals as goal

pub returns : goal.returns
unfolding scaled
returns c = tab-mapped _ _ (λ (x : Float). div binary32 x (get_or c.args.a c.args.c nan)) (λ x y q h. search rules) nan nan _ _ _ c.map.ensures.items
