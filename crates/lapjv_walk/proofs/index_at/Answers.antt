-- `lapjv_walk::index_at` meets its contract.
use lib.IntN.{pos}
use lib.ListN.{get_or}
use mir.Syntax.{w64}
use mir.ValLaws.{to_z-of_z}
use Rattle.lapjv_walk.proofs.index_at.Goals as goal

pub index_of-requires : goal.index_of-requires
index_of-requires c = rw (to_z-of_z w64 (get_or c.args.y.now c.args.j (pos 0)) (record { sfits = c.index_of-arg-1.given })) c.requires.2

pub returns : goal.returns
returns c = rw (to_z-of_z w64 (get_or c.args.y.now c.args.j (pos 0)) (record { sfits = c.index_of-arg-1.given })) at c.index_of.ensures
