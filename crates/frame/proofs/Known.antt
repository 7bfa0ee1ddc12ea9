-- What owning a tracker tells: its table has 64 cells. Assumes nothing.
use mathlib.Core.Path.{◌≡◌}
use mathlib.Core.List.{List}
use lib.ListN.{length}
use mir.Val.{Val}
use denote.Laws.{Is}
use Rattle.frame.specs.declared.Tracker.{Tracker}
use Rattle.frame.specs.contracts.Tracker as Tr

pub tracker-long : (t : Tracker) (vs : List Val) → Is Tr.the_row t vs → length t.table ≡ 64
tracker-long t vs p = p.1.1.1.1.1.1.0.1.0.1
