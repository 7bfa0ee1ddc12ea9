-- What holds of a book after any calls, as one record: the claim's parts that speak of the book alone, and what the induction needs beside them.
-- Definitions only.
use Rattle.std.specs.Prelude.{◌≡◌, false, List, [], ◌∷◌, map, ℕ, suc, ◌+◌, ◌*◌, ◌/◌, ◌≤◌, ◌<◌, T, Float, length, get_or}
use Rattle.std.specs.Float.{nan}
use Rattle.lists.specs.Lists.{up_from, All}
use Rattle.frame.specs.declared.Settings.{Settings}
use Rattle.frame.specs.Objects.{detection_at, first_score, spare_score}
use Rattle.run_book.specs.Book.{Stamped, Entry, Book}
use Rattle.run_book.specs.Claim.{input_of, times_written, boxes_of, boxes_in_frame, Overlapped, Spans, LineFrames, Because, Lived}

-- the score of the object at place p
abbrev pub score_at : List Float → ℕ → Float
score_at input p = get_or input (5 * p + 4) nan

-- The object at place p of frame n, whose input this is: first-class, written once; spare, at most once; any other, never.
pub record PlacedAt (s : Settings) (es : List Entry) (n : ℕ) (input : List Float) (p : ℕ) : Type 0 where
  pub first-class : p < length input / 5 → T (first_score s (score_at input p)) → times_written n p es ≡ 1
  pub spare : p < length input / 5 → T (spare_score s (score_at input p)) → times_written n p es ≤ 1
  pub dropped : first_score s (score_at input p) ≡ false → spare_score s (score_at input p) ≡ false → times_written n p es ≡ 0
  pub past_end : length input / 5 ≤ p → times_written n p es ≡ 0

-- each accepted frame's objects, newest frame first
abbrev pub Placed : Settings → List Entry → List (List Float) → Type 0
Placed s es [] = Unit {0}
Placed s es (input ∷ past) = ((p : ℕ) → PlacedAt s es (suc (length past)) input p) × Placed s es past

-- a box is what exactly the five numbers at its frame and place give
pub record Genuine (past : List (List Float)) (b : Stamped) : Type 0 where
  pub numbers : b.obj.det ≡ detection_at (input_of past b.frame) b.obj.place
  pub in_frame : b.obj.place < length (input_of past b.frame) / 5
  pub in_run : b.frame ≤ length past

-- at most one box a frame, and none of a frame to come
abbrev pub Tidy : ℕ → Entry → Type 0
Tidy n e = (k : ℕ) → (boxes_in_frame k e ≤ 1) × (n < k → boxes_in_frame k e ≡ 0)

pub record Laws (s : Settings) (b : Book) : Type 0 where
  pub counted : length b.past ≡ b.frames
  pub in_sequence : map (λ (e : Entry). e.id) b.entries ≡ up_from 0 (length b.entries)
  pub tidy : All (Tidy b.frames) b.entries
  pub unwritten : (k p : ℕ) → b.frames < k → times_written k p b.entries ≡ 0
  pub overlapped : All (λ e. Overlapped s e.id e.birth e.lines) b.entries
  pub placed : Placed s b.entries b.past
  pub genuine : All (λ e. All (Genuine b.past) (boxes_of e.birth e.lines)) b.entries
  pub caused : All (λ e. Because s e e.status) b.entries
  pub lived : All (λ e. Lived s e.id e.birth e.lines) b.entries
  pub spanned : All (λ e. Spans b.frames e e.status × LineFrames e.birth e.lines) b.entries
