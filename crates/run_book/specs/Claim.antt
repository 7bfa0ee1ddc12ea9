-- What demand 3 says of a book: how often an object is written, which pairs overlapped, which frames have lines, what a status means, and how entries grow. Definitions only.
use Rattle.std.specs.Prelude.{◌≡◌, true, false, ◌&&◌, List, [], ◌∷◌, ℕ, zero, suc, ◌+◌, ◌≤◌, ◌<◌, T, eqb, Float, length}
use Rattle.std.specs.Float.Ieee.{le}
use Rattle.lists.specs.Lists.{pick, sum_of, All}
use Rattle.object.specs.declared.Corners.{Corners}
use Rattle.object.specs.Object.{corners_of}
use Rattle.pair.specs.Overlap.{overlap_of}
use Rattle.frame.specs.declared.Settings.{Settings}
use Rattle.frame.specs.Objects.{Obj}
use Rattle.frame.specs.Rounds.{View}
use Rattle.run_book.specs.Book.{Stamped, Line, miss, box, Status, open', broken, agedOut, Entry, view_of_entry, breaks, is_old}

-- ---- objects

-- the input of accepted frame n, counted from 1; the list has the newest frame first
abbrev pub input_of : List (List Float) → ℕ → List Float
input_of [] n = []
input_of (input ∷ past) n = pick (eqb n (suc (length past))) input (input_of past n)

-- 1 where the box is that of place p in frame n
abbrev pub is_at : ℕ → ℕ → Stamped → ℕ
is_at n p b = pick (eqb b.frame n && eqb b.obj.place p) 1 0

abbrev pub in_line : ℕ → ℕ → Line → ℕ
in_line n p miss = 0
in_line n p (box k b) = is_at n p b

abbrev pub in_entry : ℕ → ℕ → Entry → ℕ
in_entry n p e = is_at n p e.birth + sum_of (in_line n p) e.lines

-- how often the object at place p of frame n is written: to how many entries it has gone
unfoldable pub times_written : ℕ → ℕ → List Entry → ℕ
times_written n p es = sum_of (in_entry n p) es

-- the boxes written in an entry, its birth box last
abbrev pub boxes_of : Stamped → List Line → List Stamped
boxes_of b [] = b ∷ []
boxes_of b (miss ∷ ls) = boxes_of b ls
boxes_of b (box k o ∷ ls) = o ∷ boxes_of b ls

-- how many boxes of frame n an entry has
abbrev pub of_frame : ℕ → Stamped → ℕ
of_frame n b = pick (eqb b.frame n) 1 0

abbrev pub line_of_frame : ℕ → Line → ℕ
line_of_frame n miss = 0
line_of_frame n (box k b) = of_frame n b

unfoldable pub boxes_in_frame : ℕ → Entry → ℕ
boxes_in_frame n e = of_frame n e.birth + sum_of (line_of_frame n) e.lines

-- ---- pairs

-- what a round compares an object with: the predicted box or, in the round on last boxes, the last box
abbrev pub target_of : ℕ → View → Corners
target_of zero v = v.box
target_of (suc zero) v = v.box
target_of (suc (suc k)) v = v.last

-- an entry as it was before a line
abbrev pub as_before : ℕ → Stamped → List Line → Entry
as_before id b ls = record { id = id; birth = b; lines = ls; status = open' }

-- they overlap by the threshold or more
unfoldable pub Meets : Settings → ℕ → Obj → View → Type 0
Meets s k o v = T (le s.iou_threshold (overlap_of (corners_of o.det) (target_of k v)))

-- each box after the birth met, in its round, what the replay of the lines before it gives
abbrev pub Overlapped : Settings → ℕ → Stamped → List Line → Type 0
Overlapped s id b [] = Unit {0}
Overlapped s id b (miss ∷ ls) = Overlapped s id b ls
Overlapped s id b (box k o ∷ ls) = Meets s k o.obj (view_of_entry s (as_before id b ls)) × Overlapped s id b ls

-- ---- lines

-- the frame of an entry's newest line, or of its birth: it has a line a frame
abbrev pub last_frame : Entry → ℕ
last_frame e = e.birth.frame + length e.lines

-- After n accepted frames: a live entry has exactly one line for each frame after its birth's. A closed one has them up to its closing; the frame that closed it has
-- one if it aged out, and none if it broke.
abbrev pub Spans : ℕ → Entry → Status → Type 0
Spans n e open' = last_frame e ≡ n
Spans n e broken = last_frame e < n
Spans n e agedOut = last_frame e ≤ n

-- each box is of the frame that its line stands for
abbrev pub LineFrames : Stamped → List Line → Type 0
LineFrames b [] = Unit {0}
LineFrames b (miss ∷ ls) = LineFrames b ls
LineFrames b (box k o ∷ ls) = (o.frame ≡ b.frame + suc (length ls)) × LineFrames b ls

-- ---- status

-- broken: predicted once more, a position is NaN, and it is not old; aged out: replayed frames since update exceed max_age; live: they don't
abbrev pub Because : Settings → Entry → Status → Type 0
Because s e open' = is_old s e ≡ false
Because s e broken = (breaks s e ≡ true) × (is_old s e ≡ false)
Because s e agedOut = is_old s e ≡ true

-- each line was written while the entry, replayed to there and predicted once more, was neither broken nor old
abbrev pub Lived : Settings → ℕ → Stamped → List Line → Type 0
Lived s id b [] = Unit {0}
Lived s id b (l ∷ ls) = ((breaks s (as_before id b ls) ≡ false) × (is_old s (as_before id b ls) ≡ false)) × Lived s id b ls

-- ---- growth

-- one line more, and it is of frame n
abbrev pub OneLine : ℕ → Entry → Entry → Type 0
OneLine n e f = ((l : Line) × (f.lines ≡ l ∷ e.lines)) × (last_frame f ≡ n)

-- An open entry e in frame n, by what it then is. It breaks in the frame after its last line, and gets none; it lives on, or ages out, with exactly one line more.
abbrev pub Goes : ℕ → Entry → Entry → Status → Type 0
Goes n e f open' = OneLine n e f
Goes n e f broken = (f.lines ≡ e.lines) × (suc (last_frame f) ≡ n)
Goes n e f agedOut = OneLine n e f

-- what accepted frame n does to an entry
pub record Later (n : ℕ) (e f : Entry) : Type 0 where
  pub same_id : f.id ≡ e.id
  pub same_birth : f.birth ≡ e.birth
  pub open_goes : e.status ≡ open' → Goes n e f f.status
  pub closed_stays : (e.status ≡ open' → ⊥) → f ≡ e

-- to those that were there, and then come those born in it
abbrev pub Grown : ℕ → List Entry → List Entry → Type 0
Grown n [] fs = All (λ (f : Entry). (f.birth.frame ≡ n) × (f.lines ≡ [])) fs
Grown n (e ∷ es) [] = ⊥
Grown n (e ∷ es) (f ∷ fs) = Later n e f × Grown n es fs
