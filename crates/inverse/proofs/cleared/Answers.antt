-- `inverse::cleared` meets its contract.
use Prim.Native.Nat.{◌<◌}
use native.Mathlib.Omega.{arith}
use mathlib.Core.List.{[]}
use Rattle.lists.proofs.Each.{tab-each}
use Rattle.inverse.proofs.cleared.Goals as goal

pub returns : goal.returns
returns c = rw (← c.scale-t.ensures) (tab-each [] _ _ 4 c.loop-i.invariant.long (λ j h. let k : j < c.loop-i.i = omega arith in c.loop-i.invariant.done j k))
