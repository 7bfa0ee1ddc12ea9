-- Document 01, 'Demand 3's book': what a run comes to, from its settings, inputs and buffer lengths alone. Nothing here comes from the tracker's state.
-- Definitions only.
use Rattle.std.specs.Prelude.{Bool, true, false, not, List, [], ◌∷◌, ◌++◌, map, ℕ, suc, ◌+◌, leb, ltb, Float, length, Option, Some, None}
use Rattle.std.specs.Option.{unwrap_or}
use Rattle.lists.specs.Lists.{keep}
use Rattle.object.specs.Object.{corners_of}
use Rattle.object.specs.declared.Refusal.{Refusal}
use Rattle.object.specs.declared.Refusal.TheVariants.{FullTable}
use Rattle.strack.specs.Track.{state_box}
use Rattle.history.specs.Uncut.{Uncut, predicted, k_previous_obs}
use Rattle.history.specs.Replay as Replay
use Rattle.history.specs.Replay.{replay, cut}
use Rattle.frame.specs.declared.Settings.{Settings}
use Rattle.frame.specs.declared.Tracked.{Tracked}
use Rattle.frame.specs.declared.Tracker.{Tracker}
use Rattle.frame.specs.State.{state_of}
use Rattle.frame.specs.Objects.{Obj, objects_of}
use Rattle.frame.specs.Rounds.{View, Grant, Slot, Work, rounds}
use Rattle.frame.specs.Frame.{Call, refused, reports, Out, early, has_nan, placeholder, step_or, reports_of}

-- ---- entries

-- an object's box, score included, with its frame and its place in the frame
pub record Stamped : Type 0 where
  pub frame : ℕ
  pub obj : Obj

-- a line: a miss, or a box with the round that paired it
pub data Line : Type 0 where
  miss : Line
  box : ℕ → Stamped → Line

pub data Status : Type 0 where
  open' broken agedOut : Status

-- lines newest first
pub record Entry : Type 0 where
  pub id : ℕ
  pub birth : Stamped
  pub lines : List Line
  pub status : Status

-- frames counted, the inputs of the accepted frames (newest first), and the entries, in id order
pub record Book : Type 0 where
  pub frames : ℕ
  pub past : List (List Float)
  pub entries : List Entry

-- it starts with no frames and no ids
abbrev pub none_yet : Book
none_yet = record { frames = 0; past = []; entries = [] }

-- ---- replay: the birth box, then for each later line a predict and the line's box or miss, `history_obs` and `observations` uncut

abbrev pub line_of : Line → Replay.Line
line_of miss = Replay.miss
line_of (box k b) = Replay.box b.obj.det

abbrev pub replayed : Settings → Entry → Uncut
replayed s e = replay s.delta_t e.birth.obj.det (map line_of e.lines)

-- predicted once more
abbrev pub foreseen : Settings → Entry → Uncut
foreseen s e = predicted (replayed s e)

-- what a live track holds: its id, and what the replay leaves
unfoldable pub track_of : Settings → Entry → Tracked
track_of s e = record { id = e.id; track = cut (replayed s e) }

-- ---- status

abbrev pub is_open : Status → Bool
is_open open' = true
is_open broken = false
is_open agedOut = false

-- open entries are the live tracks
abbrev pub live : List Entry → List Entry
live es = keep (λ (e : Entry). is_open e.status) es

-- the state that a book stands for: the run's settings, the frames, the ids issued, and the tracks of the live entries
unfoldable pub book_state : Settings → Book → Tracker
book_state s b = state_of s b.frames (length b.entries) (map (track_of s) (live b.entries))

-- an open entry closes where the test passes; a closed one stays as it is
abbrev pub closed_by : Status → Status → Bool → Status
closed_by why open' true = why
closed_by why open' false = open'
closed_by why broken t = broken
closed_by why agedOut t = agedOut

abbrev pub with_status : Entry → Status → Entry
with_status e q = record { id = e.id; birth = e.birth; lines = e.lines; status = q }

-- predicted once more, a position is NaN
unfoldable pub breaks : Settings → Entry → Bool
breaks s e = has_nan (state_box (foreseen s e).filter)

abbrev pub break_entry : Settings → Entry → Entry
break_entry s e = with_status e (closed_by broken e.status (breaks s e))

-- replayed frames since update exceed max_age
unfoldable pub is_old : Settings → Entry → Bool
is_old s e = not (leb (replayed s e).since s.max_age)

abbrev pub age_entry : Settings → Entry → Entry
age_entry s e = with_status e (closed_by agedOut e.status (is_old s e))

-- ---- a call

-- what the rounds see of an entry: the replayed numbers, predicted once more
unfoldable pub view_of_entry : Settings → Entry → View
view_of_entry s e =
    let w = foreseen s e in
    record {
      box = state_box w.filter;
      direction = step_or w.direction;
      last = corners_of (unwrap_or w.last placeholder);
      previous = unwrap_or (k_previous_obs s.delta_t w) placeholder;
    }

-- a paired object's box is its entry's next line; an entry without one gets a miss
abbrev pub next_line : ℕ → Option Grant → Line
next_line n None = miss
next_line n (Some g) = box g.round (record { frame = n; obj = g.obj })

abbrev pub with_line : Entry → Line → Entry
with_line e l = record { id = e.id; birth = e.birth; lines = l ∷ e.lines; status = e.status }

-- the slots go to the open entries, in id order; `rest` takes the slots on to the entries behind
abbrev pub written : ℕ → Status → Entry → List Slot → (List Slot → List Entry) → List Entry
written n open' e [] rest = e ∷ rest []
written n open' e (a ∷ ss) rest = with_line e (next_line n a.got) ∷ rest ss
written n broken e ss rest = e ∷ rest ss
written n agedOut e ss rest = e ∷ rest ss

abbrev pub write : ℕ → List Entry → List Slot → List Entry
write n [] ss = []
write n (e ∷ es) ss = written n e.status e ss (λ r. write n es r)

-- each unpaired first-class object opens an entry under the next id
abbrev pub opened : ℕ → ℕ → List Obj → List Entry
opened n id [] = []
opened n id (o ∷ os) = record { id = id; birth = record { frame = n; obj = o }; lines = []; status = open' } ∷ opened n (suc id) os

-- the entries after frame n: lines, births, and those that age out
abbrev pub entries_after : Settings → ℕ → List Entry → Work → List Entry
entries_after s n es w = map (age_entry s) (write n es w.slots ++ opened n (length es) w.left)

-- row 7 by the book's own rounds, or the frame is accepted
abbrev pub entered : Settings → Book → List Float → List Entry → Work → Bool → Out Book
entered s b input es w true = record { reply = refused FullTable; next = b }
entered s b input es w false =
    let n = b.frames + 1 in
    let all = entries_after s n es w in
    record { reply = reports (reports_of s n (map (track_of s) (live all))); next = record { frames = n; past = input ∷ b.past; entries = all } }

abbrev pub rounds_of : Settings → List Entry → List Float → Work
rounds_of s es input = rounds s (map (view_of_entry s) (live es)) (objects_of input)

abbrev pub enter_at : Settings → Book → Call → Option Refusal → Out Book
enter_at s b c (Some r) = record { reply = refused r; next = b }
enter_at s b c None =
    let es = map (break_entry s) b.entries in
    let w = rounds_of s es c.input in
    entered s b c.input es w (ltb 64 (length (live es) + length w.left))

-- rows 3 to 6 by the book's own frames, then row 7
unfoldable pub enter : Settings → Book → Call → Out Book
enter s b c = enter_at s b c (early b.frames c)
