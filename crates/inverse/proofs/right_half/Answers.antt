-- `inverse::right_half` meets its contract.
use borrow.Author.Rules.{rules}
use Prim.Native.Nat.{ℕ, ◌+◌, ◌/◌, ◌%◌}
use mathlib.Core.List.{[]}
use lib.Ieee.{nan}
use lib.ListN.{get_or}
use Rattle.lists.proofs.Each.{tab-made}
use Rattle.inverse.proofs.right_half.Goals as goal

pub returns : goal.returns
returns c = tab-made _ _ (λ (q : ℕ). get_or (get_or c.args.m (q / 4) []) (4 + q % 4) nan) (λ i y q h. search rules) nan _ _ c.from_fn.ensures.items
