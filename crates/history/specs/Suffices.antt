-- The claim of this crate: what the code keeps of a track suffices, whatever boxes and misses came. Definitions only.
use Rattle.std.specs.Prelude.{◌≡◌, true, List, ℕ, ◌+◌, ◌≤◌}
use Rattle.std.specs.Option.{is_some}
use Rattle.object.specs.declared.Detection.{Detection}
use Rattle.strack.specs.Track.{previous_of, k_previous_of, track_predict}
use Rattle.strack.specs.Rules.{own_rules}
use Rattle.history.specs.Uncut.{Uncut, frames_back, find_previous_box, k_previous_obs, predicted}
use Rattle.history.specs.Replay.{Line, replay, cut, replay_cut}
use Rattle.history.specs.Sound.{Sound}

-- of one replayed track, under a delta_t
pub record Sufficient (dt : ℕ) (w : Uncut) : Type 0 where
  -- it is never seen, watched or lost
  pub sound : Sound w
  -- what is kept of it obeys the state rules that speak of one track
  pub rules : own_rules (cut w) ≡ true
  -- the next gap is the frames since the last box, the next frame included
  pub gap : is_some w.last ≡ true → frames_back w.history_obs ≡ w.since + 1
  -- eight ages suffice to find the box before
  pub previous : find_previous_box dt (predicted w) ≡ previous_of dt (track_predict (cut w))
  pub k_previous : k_previous_obs dt (predicted w) ≡ k_previous_of dt (track_predict (cut w))

pub record Suffices : Type 0 where
  -- cutting commutes with birth, predict, box and miss
  pub commutes : (dt : ℕ) → dt ≤ 8 → (b : Detection) (ls : List Line) → cut (replay dt b ls) ≡ replay_cut dt b ls
  pub each : (dt : ℕ) → dt ≤ 8 → (b : Detection) (ls : List Line) → Sufficient dt (replay dt b ls)
