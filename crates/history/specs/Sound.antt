-- What holds of every replayed track: it was never given a box, or it got one in the newest frame, or it is lost since some frames.
-- Definitions only.
use Rattle.std.specs.Prelude.{◌≡◌, true, false, List, [], ◌∷◌, ℕ, zero, suc, ◌≤◌, ◌<◌, Option, Some, None}
use Rattle.std.specs.Option.{is_some}
use Rattle.kalman_filter.specs.declared.Filter.{Filter}
use Rattle.kalman_filter.specs.declared.DetectBox.{DetectBox}
use Rattle.strack.specs.Track.{list_entry}
use Rattle.history.specs.Uncut.{Uncut, newest_age, newest_box, last_held}

-- n misses on top of a list
abbrev pub misses : ℕ → List (Option DetectBox) → List (Option DetectBox)
misses zero h = h
misses (suc n) h = None ∷ misses n h

pub data Phase (w : Uncut) : Type 0 where
  -- no box since birth: nothing in the list, nothing saved
  never : w.last ≡ None → w.observed ≡ false → w.saved ≡ None → last_held w.history_obs ≡ None → w.observations ≡ [] → w.since ≡ w.age → Phase w
  -- a box in this frame: the list has a box on top
  watched : (z : DetectBox) (h : List (Option DetectBox)) → is_some w.last ≡ true → w.observed ≡ true → w.saved ≡ None → w.history_obs ≡ Some z ∷ h → w.since ≡ 0 → 0 < w.age → Phase w
  -- the last box some frames ago: as many misses on top of the list, and the filter at the first of them saved
  lost : (n : ℕ) (f : Filter) (z : DetectBox) (h : List (Option DetectBox)) → is_some w.last ≡ true → w.observed ≡ false
      → w.saved ≡ Some f → w.history_obs ≡ misses (suc n) (Some z ∷ h) → w.since ≡ suc n → suc n < w.age → Phase w

pub record Sound (w : Uncut) : Type 0 where
  pub streak_within : w.streak ≤ w.age
  pub since_within : w.since ≤ w.age
  pub ages_within : newest_age w.observations ≤ w.age
  -- the box of highest age is the last box
  pub newest_last : newest_box w.observations ≡ w.last
  -- the last box of the list is the last box's entry
  pub list_last : last_held w.history_obs ≡ list_entry w.last
  pub phase : Phase w
