-- `lapjv_walk::put_mark` meets its contract.
use mir.Syntax.{w64}
use mir.ValLaws.{to_z-of_z}
use Rattle.lapjv_walk.proofs.put_mark.Goals as goal

pub returns : goal.returns
returns c = rw (to_z-of_z w64 c.mark.result (record { sfits = c.mark.type_inv }), c.mark.ensures)
