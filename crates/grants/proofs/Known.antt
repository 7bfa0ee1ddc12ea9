-- What owning a value tells: how long its arrays are. Assumes nothing.
use mathlib.Core.Path.{◌≡◌}
use mathlib.Core.List.{List}
use lib.ListN.{length}
use mir.Val.{Val}
use denote.Laws.{Is}
use Rattle.objects.specs.declared.Dets.{Dets}
use Rattle.objects.specs.contracts.Dets as De
use Rattle.grants.specs.declared.Places.{Places}
use Rattle.grants.specs.contracts.Places as Pl

pub at_long : (p : Places) (vs : List Val) → Is Pl.the_row p vs → length p.at ≡ 64
at_long p vs h = h.1.1.1.0.1.0.1

pub cells-long : (d : Dets) (vs : List Val) → Is De.the_row d vs → length d.cells ≡ 320
cells-long d vs h = h.1.1.1.0.1.0.1
