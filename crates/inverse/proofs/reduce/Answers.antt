-- `inverse::reduce` meets its contract.
use borrow.Author.Rules.{rules}
use Prim.Native.Nat.{ℕ}
use lib.Ieee.{nan, sub, mul, binary32}
use lib.ListN.{get_or}
use Rattle.lists.proofs.Each.{tab-made}
use Rattle.inverse.specs.Inverse.{reduced}
use Rattle.inverse.proofs.reduce.Goals as goal

pub returns : goal.returns
unfolding reduced
returns c =
    let a = c.args in
    tab-made _ _ (λ (j : ℕ). sub binary32 (get_or a.a j nan) (mul binary32 (get_or a.t j nan) (get_or a.a a.c nan))) (λ i y q h. search rules) nan _ _ c.from_fn.ensures.items
