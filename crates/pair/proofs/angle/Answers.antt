-- `pair::angle` meets its contract.
use lib.Ieee.{of_bits}
use Rattle.pair.specs.Angle.{angle_of}
use Rattle.pair.proofs.angle.Goals as goal

pub returns : goal.returns
unfolding angle_of of_bits
returns c = rw (c.abs.ensures, c.acos.ensures, c.clamp.ensures)
