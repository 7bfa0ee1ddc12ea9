-- Document 01, items 4 and 5, on the track as the code keeps it: birth, predict, a box, a miss, and the boxes before. Definitions only.
use Rattle.std.specs.Prelude.{Bool, true, false, not, ◌&&◌, List, ◌∷◌, ℕ, zero, suc, ◌+◌, Float, Option, Some, None, get_or, set, take, replicate}
use Rattle.std.specs.Option.{is_some, option_or, option_map}
use Rattle.std.specs.Float.{binary32, nan}
use Rattle.std.specs.Float.Ieee.{add, le, of_bits}
use Rattle.ieee.specs.Ops.{f32}
use Rattle.kalman_filter.specs.declared.Filter.{Filter}
use Rattle.kalman_filter.specs.declared.DetectBox.{DetectBox}
use Rattle.kalman_filter.specs.Filter.{start_of, predict_of, update_of}
use Rattle.gap.specs.Gap.{replay_of}
use Rattle.lists.specs.Lists.{pick}
use Rattle.object.specs.declared.Detection.{Detection}
use Rattle.object.specs.declared.Corners.{Corners}
use Rattle.strack.specs.declared.Direction.{Direction}
use Rattle.strack.specs.declared.Track.{Track}
use Rattle.object.specs.Object.{corners_of}
use Rattle.strack.specs.Boxes.{measure_of, box_of, direction_of}

abbrev f0 : Float
f0 = f32 0

-- ---- small parts

-- the filter of a track that is not frozen has nothing saved: zeros
unfoldable pub no_filter : Filter
unfolding of_bits
no_filter = record { x = replicate 7 f0; p = replicate 49 f0 }

-- the last box's entry in `history_obs`
abbrev pub list_entry : Option Detection → Option DetectBox
list_entry l = option_map (λ d. measure_of (corners_of d)) l

-- the box at the newest age before the others; the oldest falls off
abbrev pub shifted : Option Detection → List (Option Detection) → List (Option Detection)
shifted l kept = l ∷ take 7 kept

-- ---- birth

-- a newborn has neither last box nor list box until a later box comes
unfoldable pub birth_of : Detection → Track
birth_of b = record {
  filter = start_of (measure_of (corners_of b));
  saved = no_filter;
  frozen = false;
  age = 0;
  streak = 0;
  since = 0;
  last = None;
  list = None;
  direction = None;
  kept = replicate 8 None;
}

-- ---- predict

-- x[6] + x[2] <= 0 zeroes x[6]
unfoldable pub area_held : Filter → Filter
unfolding add le of_bits
area_held f = pick (le (add binary32 (get_or f.x 6 nan) (get_or f.x 2 nan)) f0) (record { x = set f.x 6 f0; p = f.p }) f

-- the streak falls to 0 where frames since update is above 0
abbrev pub streak_after : ℕ → ℕ → ℕ
streak_after zero streak = streak
streak_after (suc n) streak = 0

unfoldable pub track_predict : Track → Track
track_predict t = record {
  filter = predict_of (area_held t.filter);
  saved = t.saved;
  frozen = t.frozen;
  age = t.age + 1;
  streak = streak_after t.since t.streak;
  since = t.since + 1;
  last = t.last;
  list = t.list;
  direction = t.direction;
  kept = t.kept;
}

-- the box that the filter's numbers give
unfoldable pub state_box : Filter → Corners
state_box f = box_of (get_or f.x 0 nan) (get_or f.x 1 nan) (get_or f.x 2 nan) (get_or f.x 3 nan)

-- ---- the boxes before, asked after predict

-- the box dt ages ago, the oldest of dt ages first
unfoldable pub oldest_of : ℕ → List (Option Detection) → Option Detection
oldest_of zero kept = None
oldest_of (suc dt) kept = option_or (get_or kept dt None) (oldest_of dt kept)

-- find_previous_box: the last box where none of those ages has one
unfoldable pub previous_of : ℕ → Track → Option Detection
previous_of dt t = option_or (oldest_of dt t.kept) t.last

-- k_previous_obs: none before the first box
unfoldable pub k_previous_of : ℕ → Track → Option Detection
k_previous_of dt t = pick (is_some t.last) (previous_of dt t) None

-- ---- a box

abbrev pub heading_from : Option Detection → Detection → Option Direction → Option Direction
heading_from None b d = d
heading_from (Some from) b d = Some (direction_of (corners_of from) (corners_of b))

-- A box given to a track that already has a last box sets its direction from the box so found to the new one.
unfoldable pub heading_of : ℕ → Detection → Track → Option Direction
heading_of dt b t = heading_from (k_previous_of dt t) b t.direction

-- the gap from the list box, or nothing to replay
abbrev pub regained : Option DetectBox → ℕ → DetectBox → Filter → Filter
regained None gap z f = update_of z f
regained (Some z₁) gap z f = replay_of gap z₁ z f

-- Not frozen: the box is applied. Frozen: the saved filter is restored, and the gap replayed from the list box.
abbrev pub filter_after : Bool → Track → DetectBox → Filter
filter_after false t z = update_of z t.filter
filter_after true t z = regained t.list t.since z t.saved

-- the box goes into the list, also where it ends a gap (document 02, 2.5)
unfoldable pub track_box : ℕ → Detection → Track → Track
track_box dt b t =
    let z = measure_of (corners_of b) in
    record {
      filter = filter_after t.frozen t z;
      saved = no_filter;
      frozen = false;
      age = t.age;
      streak = t.streak + 1;
      since = 0;
      last = Some b;
      list = Some z;
      direction = heading_of dt b t;
      kept = shifted (Some b) t.kept;
    }

-- ---- a miss

-- A miss after a box freezes the filter.
abbrev pub saved_after : Bool → Track → Filter
saved_after true t = t.filter
saved_after false t = t.saved

unfoldable pub freezes : Track → Bool
freezes t = is_some t.last && not t.frozen

unfoldable pub track_miss : Track → Track
track_miss t = record {
  filter = t.filter;
  saved = saved_after (freezes t) t;
  frozen = is_some t.last;
  age = t.age;
  streak = t.streak;
  since = t.since;
  last = t.last;
  list = t.list;
  direction = t.direction;
  kept = shifted None t.kept;
}
