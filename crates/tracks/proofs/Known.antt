-- What owning a table tells: it has 64 cells. Assumes nothing.
use mathlib.Core.Path.{◌≡◌}
use mathlib.Core.List.{List}
use lib.ListN.{length}
use mir.Val.{Val}
use denote.Laws.{Is}
use Rattle.tracks.specs.declared.Tracks.{Tracks}
use Rattle.tracks.specs.contracts.Tracks as Ts

pub tracks-long : (t : Tracks) (vs : List Val) → Is Ts.the_row t vs → length t.table ≡ 64
tracks-long t vs p = p.1.1.1.0.1.0.1
