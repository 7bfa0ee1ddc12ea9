-- A track replayed alone from its birth box and its lines, a box or a miss for each later frame; and what the code keeps of it. Definitions only.
use Rattle.std.specs.Prelude.{Option, List, [], ◌∷◌, ℕ}
use Rattle.std.specs.Option.{is_some, unwrap_or}
use Rattle.lists.specs.Lists.{tab}
use Rattle.object.specs.declared.Detection.{Detection}
use Rattle.strack.specs.declared.Track.{Track}
use Rattle.strack.specs.Track.{no_filter, birth_of, track_predict, track_box, track_miss}
use Rattle.history.specs.Uncut.{Uncut, Dated, box_ago, last_held, born, predicted, boxed, missed}

pub data Line : Type 0 where
  miss : Line
  box : Detection → Line

abbrev pub written : ℕ → Line → Uncut → Uncut
written dt miss w = missed w
written dt (box b) w = boxed dt b w

-- the lines newest first
unfoldable pub replay : ℕ → Detection → List Line → Uncut
replay dt b [] = born b
replay dt b (l ∷ ls) = written dt l (predicted (replay dt b ls))

-- ---- what the code keeps

-- the boxes at an age and the seven before it
abbrev pub kept_at : ℕ → List Dated → List (Option Detection)
kept_at a os = tab (λ k. box_ago os a k) 8

-- at rest: as list box the last box in `history_obs`, as kept boxes those at the last 8 ages
unfoldable pub cut : Uncut → Track
cut w = record {
  filter = w.filter;
  saved = unwrap_or w.saved no_filter;
  frozen = is_some w.saved;
  age = w.age;
  streak = w.streak;
  since = w.since;
  last = w.last;
  list = last_held w.history_obs;
  direction = w.direction;
  kept = kept_at w.age w.observations;
}

-- the same lines on the track that the code keeps
abbrev pub written_cut : ℕ → Line → Track → Track
written_cut dt miss t = track_miss t
written_cut dt (box b) t = track_box dt b t

unfoldable pub replay_cut : ℕ → Detection → List Line → Track
replay_cut dt b [] = birth_of b
replay_cut dt b (l ∷ ls) = written_cut dt l (track_predict (replay_cut dt b ls))
