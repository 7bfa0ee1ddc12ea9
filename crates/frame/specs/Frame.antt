-- Document 01, item 6 and 'What a call may be told': one frame. Definitions only.
use Rattle.std.specs.Prelude.{Bool, true, false, not, ◌&&◌, ◌||◌, List, [], ◌∷◌, ◌++◌, map, ℕ, suc, ◌+◌, ◌*◌, ◌%◌, leb, ltb, eqb, Float, length, drop, Option, Some, None}
use Rattle.std.specs.Option.{unwrap_or}
use Rattle.std.specs.Float.Ieee.{is_nan}
use Rattle.ieee.specs.Ops.{f32}
use Rattle.lists.specs.Lists.{pick, keep}
use Rattle.object.specs.declared.Corners.{Corners}
use Rattle.object.specs.declared.Detection.{Detection}
use Rattle.object.specs.declared.Rect.{Rect}
use Rattle.object.specs.Object.{corners_of, rect_of}
use Rattle.object.specs.declared.Refusal.{Refusal}
use Rattle.object.specs.declared.Refusal.TheVariants.{UnsoundState, RaggedFrame, CrowdedFrame, ShortAnswer, RunOver, FullTable}
use Rattle.pair.specs.Angle.{Step}
use Rattle.strack.specs.declared.Direction.{Direction}
use Rattle.strack.specs.declared.Track.{Track}
use Rattle.strack.specs.Track.{birth_of, track_predict, track_box, track_miss, state_box, k_previous_of}
use Rattle.frame.specs.declared.Settings.{Settings}
use Rattle.frame.specs.declared.Tracked.{Tracked}
use Rattle.frame.specs.declared.Tracker.{Tracker}
use Rattle.frame.specs.State.{live, state_of, state_rules}
use Rattle.frame.specs.Objects.{Obj, objects_of}
use Rattle.frame.specs.Rounds.{View, Grant, Slot, Work, rounds}

-- ---- the call and its answer

-- what a call brings: the input, and the lengths of the two buffers
pub record Call : Type 0 where
  pub input : List Float
  pub boxes : ℕ
  pub ids : ℕ

pub record Report : Type 0 where
  pub rect : Rect
  pub id : ℕ

pub data Reply : Type 0 where
  refused : Refusal → Reply
  reports : List Report → Reply

-- a reply, and what comes after it
pub record Out (A : Type 0) : Type 0 where
  pub reply : Reply
  pub next : A

-- ---- refusals that need no pairing

pub record Test : Type 0 where
  pub fails : Bool
  pub refusal : Refusal

-- the first that fails
abbrev pub first_of : List Test → Option Refusal
first_of [] = None
first_of (t ∷ ts) = pick t.fails (Some t.refusal) (first_of ts)

abbrev test : Bool → Refusal → Test
test b r = record { fails = b; refusal = r }

-- ragged frame, crowded frame, short answer, run over: in this order
unfoldable pub early : ℕ → Call → Option Refusal
early frames c =
    first_of (test (not (eqb (length c.input % 5) 0)) RaggedFrame
    ∷ test (ltb (64 * 5) (length c.input)) CrowdedFrame
    ∷ test (ltb c.boxes 256 || ltb c.ids 64) ShortAnswer
    ∷ test (leb 1000000 frames) RunOver
    ∷ [])

-- ---- prediction

abbrev pub with_track : Tracked → Track → Tracked
with_track e t = record { id = e.id; track = t }

abbrev pub predict_tracked : Tracked → Tracked
predict_tracked e = with_track e (track_predict e.track)

-- a NaN position breaks a track
unfoldable pub has_nan : Corners → Bool
has_nan b = is_nan b.x1 || is_nan b.y1 || is_nan b.x2 || is_nan b.y2

abbrev pub unbroken : Tracked → Bool
unbroken e = not (has_nan (state_box e.track.filter))

-- the tracks left after prediction
unfoldable pub predicted_tracks : List Tracked → List Tracked
predicted_tracks es = keep unbroken (map predict_tracked es)

-- ---- what the rounds see

-- -1 five times where there is no box
abbrev pub placeholder : Detection
placeholder = let m = f32 0xbf80_0000 in record { x1 = m; y1 = m; x2 = m; y2 = m; score = m }

-- 0, 0 for an unknown direction
abbrev pub step_or : Option Direction → Step
step_or None = record { dy = f32 0; dx = f32 0 }
step_or (Some d) = record { dy = d.dy; dx = d.dx }

unfoldable pub view_of : ℕ → Track → View
view_of dt t = record {
  box = state_box t.filter;
  direction = step_or t.direction;
  last = corners_of (unwrap_or t.last placeholder);
  previous = unwrap_or (k_previous_of dt t) placeholder;
}

abbrev pub tracked_view : Settings → Tracked → View
tracked_view s e = view_of s.delta_t e.track

-- ---- grants, misses, births

abbrev pub give : ℕ → Option Grant → Track → Track
give dt None t = track_miss t
give dt (Some g) t = track_box dt g.obj.det t

abbrev pub give_all : ℕ → List Tracked → List Slot → List Tracked
give_all dt [] ss = []
give_all dt (e ∷ es) [] = []
give_all dt (e ∷ es) (s ∷ ss) = with_track e (give dt s.got e.track) ∷ give_all dt es ss

-- unpaired first-class objects are born, in order, under the next ids
abbrev pub births : ℕ → List Obj → List Tracked
births id [] = []
births id (o ∷ os) = record { id = id; track = birth_of o.det } ∷ births (suc id) os

-- ---- reports

-- from its last box, or from the filter if it has none
abbrev pub shown_box : Option Detection → Track → Corners
shown_box None t = state_box t.filter
shown_box (Some d) t = corners_of d

unfoldable pub report_of : Tracked → Report
report_of e = let b = shown_box e.track.last e.track in record { rect = rect_of b.x1 b.y1 b.x2 b.y2; id = suc e.id }

-- frames since update are 0 and either the streak is at least min_hits or the frame count, this frame included, is at most min_hits
unfoldable pub is_reported : Settings → ℕ → Track → Bool
is_reported s frames t = eqb t.since 0 && (leb s.min_hits t.streak || leb frames s.min_hits)

abbrev pub snoc_if : Bool → List Report → Report → List Report
snoc_if true rs r = rs ++ (r ∷ [])
snoc_if false rs r = rs

-- from last track to first
abbrev pub reports_of : Settings → ℕ → List Tracked → List Report
reports_of s frames [] = []
reports_of s frames (e ∷ es) = snoc_if (is_reported s frames e.track) (reports_of s frames es) (report_of e)

-- since-update > max_age ages out
abbrev pub is_young : Settings → Tracked → Bool
is_young s e = leb e.track.since s.max_age

-- ---- the frame

-- the tracks left after prediction, and the rounds over them: prediction, rounds and row 7 need no buffers
abbrev pub rounds_over : Settings → List Tracked → List Float → Work
rounds_over s es input = rounds s (map (tracked_view s) es) (objects_of input)

abbrev pub is_full : List Tracked → Work → Bool
is_full es w = ltb 64 (length es + length w.left)

-- row 7 refuses; else grants, misses, births, reports and ageing
abbrev pub settled : Tracker → List Tracked → Work → Bool → Out Tracker
settled t es w true = record { reply = refused FullTable; next = t }
settled t es w false =
    let s = t.settings in
    let all = give_all s.delta_t es w.slots ++ births t.issued w.left in
    record {
      reply = reports (reports_of s (t.frames + 1) all);
      next = state_of s (t.frames + 1) (t.issued + length w.left) (keep (is_young s) all);
    }

abbrev pub accepted_frame : Tracker → List Float → Out Tracker
accepted_frame t input =
    let es = predicted_tracks (live t) in
    let w = rounds_over t.settings es input in
    settled t es w (is_full es w)

abbrev pub frame_at : Tracker → Call → Option Refusal → Out Tracker
frame_at t c (Some r) = record { reply = refused r; next = t }
frame_at t c None = accepted_frame t c.input

-- unsound state first
unfoldable pub frame_of : Tracker → Call → Out Tracker
frame_of t c = frame_at t c (pick (state_rules t) (early t.frames c) (Some UnsoundState))

-- ---- the buffers

abbrev pub box_cells : List Report → List Float
box_cells [] = []
box_cells (r ∷ rs) = r.rect.x ∷ r.rect.y ∷ r.rect.width ∷ r.rect.height ∷ box_cells rs

abbrev pub id_cells : List Report → List ℕ
id_cells [] = []
id_cells (r ∷ rs) = r.id ∷ id_cells rs

-- A refusal writes nothing. Reports are written from the buffers' start; cells past them keep their content.
abbrev pub boxes_after : Reply → List Float → List Float
boxes_after (refused r) cells = cells
boxes_after (reports rs) cells = box_cells rs ++ drop (4 * length rs) cells

abbrev pub ids_after : Reply → List ℕ → List ℕ
ids_after (refused r) cells = cells
ids_after (reports rs) cells = id_cells rs ++ drop (length rs) cells
