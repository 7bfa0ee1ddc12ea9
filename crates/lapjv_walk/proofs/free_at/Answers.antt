-- `lapjv_walk::free_at` meets its contract.
use lib.IntN.{pos}
use lib.ListN.{get_or}
use mir.Syntax.{w64}
use mir.ValLaws.{to_z-of_z}
use Rattle.lapjv_walk.proofs.free_at.Goals as goal

pub returns : goal.returns
returns c = rw (to_z-of_z w64 (get_or c.args.y.now c.args.j (pos 0)) (record { sfits = c.is_free-arg-1.given })) at c.is_free.ensures
