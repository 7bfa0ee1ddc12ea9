-- Document 01, items 4 and 5, and document 02, 2.5, on the track as the Rust keeps it: `history_obs` and `observations` whole.
-- Lists are newest first. Definitions only.
use Rattle.std.specs.Prelude.{Bool, true, false, Option, Some, None, List, [], ◌∷◌, ℕ, zero, suc, ◌+◌, ◌-◌, leb, eqb}
use Rattle.std.specs.Option.{is_some, option_or}
use Rattle.kalman_filter.specs.declared.Filter.{Filter}
use Rattle.kalman_filter.specs.declared.DetectBox.{DetectBox}
use Rattle.kalman_filter.specs.Filter.{start_of, predict_of, update_of}
use Rattle.gap.specs.Gap.{replay_of}
use Rattle.lists.specs.Lists.{pick}
use Rattle.object.specs.declared.Detection.{Detection}
use Rattle.strack.specs.declared.Direction.{Direction}
use Rattle.object.specs.Object.{corners_of}
use Rattle.strack.specs.Boxes.{measure_of}
use Rattle.strack.specs.Track.{area_held, streak_after, heading_from}

-- ---- `observations`, by age

pub record Dated : Type 0 where
  pub age : ℕ
  pub box : Detection

-- the box at an age
abbrev pub box_at : List Dated → ℕ → Option Detection
box_at [] a = None
box_at (o ∷ os) a = pick (eqb o.age a) (Some o.box) (box_at os a)

abbrev pub highest : ℕ → ℕ → ℕ
highest a b = pick (leb a b) b a

-- the highest age at which there is a box
abbrev pub newest_age : List Dated → ℕ
newest_age [] = 0
newest_age (o ∷ os) = highest o.age (newest_age os)

abbrev pub newest_box : List Dated → Option Detection
newest_box os = box_at os (newest_age os)

-- the box dt ages before an age; there is none before age 0
abbrev pub box_ago : List Dated → ℕ → ℕ → Option Detection
box_ago os a dt = pick (leb dt a) (box_at os (a - dt)) None

-- the oldest age first, from dt ages ago to 1
abbrev pub oldest_box : List Dated → ℕ → ℕ → Option Detection
oldest_box os a zero = None
oldest_box os a (suc dt) = option_or (box_ago os a (suc dt)) (oldest_box os a dt)

-- ---- `history_obs`

-- the newest box of the list
abbrev pub last_held : List (Option DetectBox) → Option DetectBox
last_held [] = None
last_held (None ∷ h) = last_held h
last_held (Some z ∷ h) = Some z

-- how many frames before the box that comes next it stands
abbrev pub frames_back : List (Option DetectBox) → ℕ
frames_back [] = 1
frames_back (None ∷ h) = suc (frames_back h)
frames_back (Some z ∷ h) = 1

-- ---- the track

pub record Uncut : Type 0 where
  pub filter : Filter
  pub observed : Bool
  -- what a miss after a box saves
  pub saved : Option Filter
  pub history_obs : List (Option DetectBox)
  pub age : ℕ
  pub streak : ℕ
  pub since : ℕ
  pub last : Option Detection
  pub observations : List Dated
  pub direction : Option Direction

unfoldable pub born : Detection → Uncut
born b = record {
  filter = start_of (measure_of (corners_of b));
  observed = false;
  saved = None;
  history_obs = [];
  age = 0;
  streak = 0;
  since = 0;
  last = None;
  observations = [];
  direction = None;
}

unfoldable pub predicted : Uncut → Uncut
predicted w = record {
  filter = predict_of (area_held w.filter);
  observed = w.observed;
  saved = w.saved;
  history_obs = w.history_obs;
  age = w.age + 1;
  streak = streak_after w.since w.streak;
  since = w.since + 1;
  last = w.last;
  observations = w.observations;
  direction = w.direction;
}

-- find_previous_box
unfoldable pub find_previous_box : ℕ → Uncut → Option Detection
find_previous_box dt w = option_or (oldest_box w.observations w.age dt) w.last

-- k_previous_obs, of the map and the age alone: none from an empty map
abbrev pub previous_in : ℕ → ℕ → List Dated → Option Detection
previous_in dt a [] = None
previous_in dt a (o ∷ os) = option_or (oldest_box (o ∷ os) a dt) (newest_box (o ∷ os))

unfoldable pub k_previous_obs : ℕ → Uncut → Option Detection
k_previous_obs dt w = previous_in dt w.age w.observations

-- what the filter side of the track becomes at a box
pub record Side : Type 0 where
  pub filter : Filter
  pub saved : Option Filter

-- the gap between the last box of the list and z, replayed; z is then applied once more itself
abbrev pub over_gap : Option DetectBox → ℕ → DetectBox → Filter → Filter
over_gap None gap z f = update_of z f
over_gap (Some z₁) gap z f = replay_of gap z₁ z f

-- Seen in the frame before, or never saved: z is applied. Else the saved filter is restored, and the gap replayed.
abbrev pub at_box : DetectBox → Uncut → Bool → Option Filter → Side
at_box z w true sv = record { filter = update_of z w.filter; saved = sv }
at_box z w false None = record { filter = update_of z w.filter; saved = None }
at_box z w false (Some f) = record { filter = over_gap (last_held w.history_obs) (frames_back w.history_obs) z f; saved = None }

-- a box sets the direction of a track that has a last box
abbrev pub heading_of_uncut : ℕ → Detection → Uncut → Option Direction
heading_of_uncut dt b w = heading_from (pick (is_some w.last) (find_previous_box dt w) None) b w.direction

-- the box joins the list, which stays as it grew, also where the box ends a gap (document 02, 2.5)
unfoldable pub boxed : ℕ → Detection → Uncut → Uncut
boxed dt b w =
    let z = measure_of (corners_of b) in
    let side = at_box z w w.observed w.saved in
    record {
      filter = side.filter;
      observed = true;
      saved = side.saved;
      history_obs = Some z ∷ w.history_obs;
      age = w.age;
      streak = w.streak + 1;
      since = 0;
      last = Some b;
      observations = record { age = w.age; box = b } ∷ w.observations;
      direction = heading_of_uncut dt b w;
    }

-- a miss after a box freezes the filter
abbrev pub saved_at : Bool → Uncut → Option Filter
saved_at true w = Some w.filter
saved_at false w = w.saved

unfoldable pub missed : Uncut → Uncut
missed w = record {
  filter = w.filter;
  observed = false;
  saved = saved_at w.observed w;
  history_obs = None ∷ w.history_obs;
  age = w.age;
  streak = w.streak;
  since = w.since;
  last = w.last;
  observations = w.observations;
  direction = w.direction;
}
