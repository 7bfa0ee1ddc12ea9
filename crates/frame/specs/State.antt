-- Document 01, 'What a call may be told': settings, the state and its rules. Definitions only.
use Rattle.std.specs.Prelude.{Bool, true, false, not, ◌&&◌, List, [], ◌∷◌, ◌++◌, ℕ, suc, ◌-◌, ◌*◌, leb, ltb, Float, length, take, replicate, None}
use Rattle.std.specs.Float.Ieee.{is_nan, le}
use Rattle.ieee.specs.Ops.{f32}
use Rattle.lists.specs.Lists.{every}
use Rattle.strack.specs.Track.{no_filter}
use Rattle.strack.specs.Rules.{own_rules}
use Rattle.frame.specs.declared.Settings.{Settings}
use Rattle.frame.specs.declared.Tracked.{Tracked}
use Rattle.frame.specs.declared.Tracker.{Tracker}

-- ---- settings

-- 0 to 1; -0 is in range, NaN is not
unfoldable pub unit_range : Float → Bool
unfolding le
unit_range x = le (f32 0) x && le x (f32 0x3f80_0000)

-- det_thresh not NaN; iou_threshold and inertia 0 to 1; max_age and min_hits 0 to 255; delta_t 0 to 8
unfoldable pub in_range : Settings → Bool
in_range s =
    not (is_nan s.det_thresh) && unit_range s.iou_threshold && unit_range s.inertia
    && leb s.max_age 255 && leb s.min_hits 255 && leb s.delta_t 8

-- ---- the table

-- what stands in a cell of the table that no track holds: nothing seen, and zeros
unfoldable pub blank : Tracked
blank = record {
  id = 0;
  track = record {
    filter = no_filter;
    saved = no_filter;
    frozen = false;
    age = 0;
    streak = 0;
    since = 0;
    last = None;
    list = None;
    direction = None;
    kept = replicate 8 None;
  };
}

-- the live tracks, in birth order
abbrev pub live : Tracker → List Tracked
live t = take t.count t.table

-- the state with these live tracks
unfoldable pub state_of : Settings → ℕ → ℕ → List Tracked → Tracker
state_of s frames issued es = record { settings = s; frames = frames; issued = issued; count = length es; table = es ++ replicate (64 - length es) blank }

-- no frames, no ids, no tracks
unfoldable pub empty_tracker : Settings → Tracker
empty_tracker s = state_of s 0 0 []

-- ---- the state rules

-- ids strictly rising, from `from` on and below `below`
abbrev pub rising : ℕ → ℕ → List Tracked → Bool
rising from below [] = true
rising from below (e ∷ es) = leb from e.id && ltb e.id below && rising (suc e.id) below es

-- age at most frames, frames since update at most max_age, and the rules of a track alone
unfoldable pub track_rules : Settings → ℕ → Tracked → Bool
track_rules s frames e = leb e.track.age frames && leb e.track.since s.max_age && own_rules e.track

-- settings in range; frames at most 1,000,000; ids issued at most 64 times frames; at most 64 tracks, ids strictly rising and below ids issued; each track's
unfoldable pub state_rules : Tracker → Bool
state_rules t =
    in_range t.settings && leb t.frames 1000000 && leb t.issued (64 * t.frames) && leb t.count 64
    && rising 0 t.issued (live t) && every (track_rules t.settings t.frames) (live t)
