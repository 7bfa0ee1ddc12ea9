-- Document 01, item 6: one track in a frame, as the code keeps it. Definitions only.
use Rattle.std.specs.Prelude.{Bool, ◌&&◌, ℕ, leb, Option, Some, None}
use Rattle.object.specs.declared.Detection.{Detection}
use Rattle.strack.specs.declared.Track.{Track}
use Rattle.strack.specs.Track.{birth_of, track_box, track_miss}
use Rattle.frame.specs.declared.Tracked.{Tracked}
use Rattle.frame.specs.Frame.{with_track}

-- the box that was granted, or a miss
abbrev pub given_to : ℕ → Option Detection → Track → Track
given_to dt None t = track_miss t
given_to dt (Some d) t = track_box dt d t

abbrev pub given_one : ℕ → Option Detection → Tracked → Tracked
given_one dt k e = with_track e (given_to dt k e.track)

-- a track's gap can be replayed and its streak counted on
unfoldable pub givable : Tracked → Bool
givable e = leb e.track.since 256 && leb e.track.streak 1000000

abbrev pub newborn : ℕ → Detection → Tracked
newborn id d = record { id = id; track = birth_of d }
