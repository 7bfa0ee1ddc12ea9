-- `update_in_lists::framed` meets its contract.
use Rattle.image.specs.Image.{image_of}
use Rattle.frame_in_lists.proofs.Looking.{Looked}
use Rattle.update_in_lists.proofs.Settling.{pairing_of, Giving, Bearing, Telling}
use Rattle.update_in_lists.proofs.framed.Given as goal

abbrev pub invariant-loop-u : goal.invariant-loop-u
invariant-loop-u l =
    Looked (image_of l.wide l.floats l.words) l.s l.table l.seen l.steps l.lasts l.olds l.from l.ahead l.u

abbrev pub invariant-loop-g : goal.invariant-loop-g
invariant-loop-g l =
    Giving (image_of l.wide l.floats l.words) l.s l.input l.boxes l.ids (pairing_of l.grants l.born l.cells) l.ahead l.initial.table l.table l.young l.g

abbrev pub invariant-loop-b : goal.invariant-loop-b
invariant-loop-b l =
    Bearing (image_of l.wide l.floats l.words) l.s l.input l.boxes l.ids l.born l.cells l.young l.table l.b

abbrev pub invariant-loop-r : goal.invariant-loop-r
invariant-loop-r l =
    Telling (image_of l.initial.wide l.initial.floats l.initial.words) l.s l.input l.initial.boxes l.initial.ids l.born l.live l.table (image_of l.wide l.floats l.words) l.boxes l.ids l.reported l.r
