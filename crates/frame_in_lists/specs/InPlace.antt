-- What the parts of a frame in place do, on the image that the caller lends. Definitions only.
use Rattle.std.specs.Prelude.{◌≡◌, Bool, ◌&&◌, List, ℕ, ◌+◌, Float, set, Result, Ok, Err}
use Rattle.lists.specs.Lists.{pick}
use Rattle.object.specs.declared.Refusal.{Refusal}
use Rattle.object.specs.declared.Refusal.TheVariants.{UnsoundState}
use Rattle.frame.specs.declared.Settings.{Settings}
use Rattle.frame.specs.declared.Tracked.{Tracked}
use Rattle.frame.specs.Frame.{predict_tracked, unbroken, is_reported, report_of}
use Rattle.rules.specs.Rules.{total_rules, sound_at}
use Rattle.reports.specs.Written.{rect_at}
use Rattle.image.specs.declared.TrackerImage.{TrackerImage}
use Rattle.image.specs.Image.{tagged, thaw_track, meant_track, image_of, cell_at, issued_in, count_in, byte_in, frames_in, thaw_tracker, Whole, Cleared}
use Rattle.frame_in_lists.specs.declared.Ahead.{Ahead}

-- ---- before the loops

abbrev pub settings_in : TrackerImage → Settings
settings_in i = (thaw_tracker i).settings

-- use_byte means something, and the state rules that need no track hold
abbrev pub usable_totals : TrackerImage → Bool
usable_totals i = tagged (byte_in i) && total_rules (settings_in i) (frames_in i) (issued_in i) (count_in i)

-- ---- up to the rounds

abbrev pub track_in : TrackerImage → ℕ → Tracked
track_in i k = thaw_track (cell_at i k)

-- the tags of track k mean something, and it obeys the state rules, with an id from `from` on
abbrev pub usable_at : TrackerImage → ℕ → ℕ → Bool
usable_at i from k = meant_track (cell_at i k) && sound_at (settings_in i) (frames_in i) (issued_in i) from (track_in i k)

-- track k one frame ahead, Err where prediction breaks it, and the least id that the next one may have
abbrev pub step_of : TrackerImage → ℕ → Ahead
step_of i k = let p = predict_tracked (track_in i k) in record { next = (track_in i k).id + 1; tracked = pick (unbroken p) (Ok p) (Err p) }

abbrev pub ahead_of : TrackerImage → ℕ → ℕ → Result Ahead Refusal
ahead_of i from k = pick (usable_at i from k) (Ok (step_of i k)) (Err UnsoundState)

-- ---- once the pairs are known

-- the report of a track behind n others, or none: how many there are then, and the buffers
pub record ToldOf (s : Settings) (frames : ℕ) (e : Tracked) (n : ℕ) (boxes : List Float) (ids : List ℕ) (n' : ℕ) (boxes' : List Float) (ids' : List ℕ) : Type 0 where
  pub count : n' ≡ pick (is_reported s frames e.track) (n + 1) n
  pub boxes-after : boxes' ≡ pick (is_reported s frames e.track) (rect_at n (report_of e).rect boxes) boxes
  pub ids-after : ids' ≡ pick (is_reported s frames e.track) (set ids n (report_of e).id) ids

abbrev pub with_totals : ℕ → ℕ → ℕ → TrackerImage → TrackerImage
with_totals issued live frames i = image_of (set (set i.wide 0 issued) 1 live) i.floats (set i.words 4 frames)

-- i' is i with zeros past the live tracks, and these totals; i has the lengths of its types
pub record Closed (issued live frames : ℕ) (i i' : TrackerImage) : Type 0 where
  pub whole : Whole i
  pub zeroed : TrackerImage
  pub cleared : Cleared live i zeroed
  pub totals : i' ≡ with_totals issued live frames zeroed
