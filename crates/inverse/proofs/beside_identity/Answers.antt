-- `inverse::beside_identity` meets its contract.
use mathlib.Core.Path.{refl}
use lib.Ieee.{of_bits}
use Rattle.inverse.specs.Inverse.{beside, identity}
use Rattle.inverse.proofs.beside_identity.Goals as goal

pub returns : goal.returns
unfolding beside identity of_bits
returns c = refl
