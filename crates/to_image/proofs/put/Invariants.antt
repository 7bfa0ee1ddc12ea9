-- `to_image::put` meets its contract.
use mathlib.Core.Path.{◌≡◌}
use lib.ListN.{take}
use Rattle.lists.specs.Lists.{All}
use Rattle.image.specs.Image.{image_of}
use Rattle.to_image.proofs.Filling.{Full, filled_to}
use Rattle.to_image.proofs.put.Given as goal

abbrev pub invariant-loop-k : goal.invariant-loop-k
invariant-loop-k l =
    All Full (take l.k l.t.table) × (image_of l.wide l.floats l.words ≡ filled_to (image_of l.initial.wide l.initial.floats l.initial.words) (take l.k l.t.table))
