-- Document 01, item 6: the tracks on their way through a frame, as the code keeps them. Definitions only.
use Rattle.std.specs.Prelude.{List, [], ◌∷◌, ◌++◌, ℕ, suc, ◌-◌, length, take, replicate, Option}
use Rattle.object.specs.declared.Detection.{Detection}
use Rattle.frame.specs.declared.Tracked.{Tracked}
use Rattle.frame.specs.State.{blank}
use Rattle.one_track.specs.OneTrack.{given_one, newborn}
use Rattle.tracks.specs.declared.Tracks.{Tracks}

-- ---- the table

-- these tracks, and blank cells past them
unfoldable pub tracks_of : List Tracked → Tracks
tracks_of es = record { count = length es; table = es ++ replicate (64 - length es) blank }

abbrev pub tracks_in : Tracks → List Tracked
tracks_in t = take t.count t.table

-- ---- boxes and misses

-- each track in turn is given what it was granted
abbrev pub given_all : ℕ → List Tracked → List (Option Detection) → List Tracked
given_all dt [] ks = []
given_all dt (e ∷ es) [] = []
given_all dt (e ∷ es) (k ∷ ks) = given_one dt k e ∷ given_all dt es ks

-- ---- births

-- each detection in turn is born under the next id
abbrev pub born_of : ℕ → List Detection → List Tracked
born_of id [] = []
born_of id (d ∷ ds) = newborn id d ∷ born_of (suc id) ds
