-- `to_image::put_kept` meets its contract.
use mathlib.Core.Path.{◌≡◌}
use mathlib.Core.List.{map}
use lib.ListN.{take}
use lib.Seq.{sets}
use Rattle.lists.specs.Lists.{flat}
use Rattle.image.specs.Image.{box_floats, tag_of}
use Rattle.to_image.proofs.put_kept.Given as goal

abbrev pub invariant-loop-j : goal.invariant-loop-j
invariant-loop-j l = (l.floats ≡ sets l.initial.floats l.f (flat box_floats (take l.j l.t.kept))) × (l.words ≡ sets l.initial.words l.w (take l.j (map tag_of l.t.kept)))
