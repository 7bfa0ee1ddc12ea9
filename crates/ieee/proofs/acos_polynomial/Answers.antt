-- `ieee::acos_polynomial` meets its contract.
use mathlib.Core.Path.{refl}
use lib.Ieee.{neg, of_bits, to_bits}
use Rattle.ieee.specs.Acos.{horner, nearest_to}
use Rattle.ieee.proofs.acos_polynomial.Goals as goal

pub returns : goal.returns
unfolding horner nearest_to neg of_bits to_bits
returns c = record { value = refl; nearest = tt }
