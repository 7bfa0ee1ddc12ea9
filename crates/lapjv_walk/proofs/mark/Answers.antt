-- `lapjv_walk::mark` meets its contract.
use mir.Syntax.{w64}
use mir.ValLaws.{to_z_pos}
use native.Mathlib.Omega.{arith}
use Rattle.lapjv_walk.proofs.mark.Goals as goal

pub returns : goal.returns
returns c = to_z_pos w64 c.args.i (omega arith)
