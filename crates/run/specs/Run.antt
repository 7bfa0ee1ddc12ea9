-- Demand 3: a run, its book, and the one claim about every list of calls. Definitions only.
use Rattle.std.specs.Prelude.{◌≡◌, Bool, true, false, ℕ, ◌/◌, ◌≤◌, ◌<◌, T, Float, length, Result, Ok, Err, IsOk}
use mathlib.Core.List.{List, [], ◌∷◌, map, Memᴰ}
use contract.Lifetimes.{Lfts}
use Rattle.std.specs.Result.{result_unwrap_or}
use Rattle.lists.specs.Lists.{up_from}
use Rattle.object.specs.declared.Refusal.{Refusal}
use Rattle.object.specs.declared.Refusal.TheVariants.{UnsoundState}
use Rattle.object.specs.Refusal.{told_of}
use Rattle.frame.specs.declared.Settings.{Settings}
use Rattle.frame.specs.declared.Tracked.{Tracked}
use Rattle.frame.specs.declared.Tracker.{Tracker}
use Rattle.frame.specs.declared.Answer.{Answer}
use Rattle.frame.specs.declared.Made.{Made}
use Rattle.frame.specs.State as State
use Rattle.frame.specs.State.{in_range}
use Rattle.frame.specs.Objects.{detection_at, first_score, spare_score}
use Rattle.frame.specs.Frame.{Call, Reply, boxes_after, ids_after}
use Rattle.frame.specs.Contract.{number_in, outcome_of, reports_in, call_of}
use Rattle.run_book.specs.Book.{Stamped, Entry, Book, none_yet, live, track_of, book_state, enter}
use Rattle.run_book.specs.Claim.{input_of, times_written, boxes_of, boxes_in_frame, Overlapped, Spans, LineFrames, Because, Lived, Grown}
use Rattle.run_book.specs.Laws.{score_at}
use Rattle.run.specs.Lent as lent-call
use Rattle.run.specs.New as new
use Rattle.run.specs.WithSettings as with_settings
use Rattle.run.specs.Update as update

-- ---- runs

-- a call as its caller sees it: whether it was in place, what went in, and what came out
pub record Seen : Type 0 where
  pub in_place : Bool
  pub input : List Float
  pub boxes : List Float
  pub ids : List ℕ
  pub answer : Answer
  pub boxes_left : List Float
  pub ids_left : List ℕ

-- what the contract of `update` says of one call: what went in as a, what came back as r, and the arguments as the call left them, e
abbrev pub seen_of : (κs : Lfts 3) → update.Dens κs → Answer → update.Exit κs → Seen
seen_of κs a r e = record {
  in_place = false;
  input = a.1.0.now;
  boxes = a.1.1.0.now;
  ids = a.1.1.1.0.now;
  answer = r;
  boxes_left = e.1.1.0.now;
  ids_left = e.1.1.1.0.now;
}

-- the same of `update_in_place`: the answer's tracker is the one that the call left
abbrev pub seen_in : (κs : Lfts 4) → lent-call.Dens κs → Result ℕ Refusal → lent-call.Exit κs → Seen
seen_in κs a r e = record {
  in_place = true;
  input = a.1.0.now;
  boxes = a.1.1.0.now;
  ids = a.1.1.1.0.now;
  answer = record { outcome = r; tracker = e.0.now };
  boxes_left = e.1.1.0.now;
  ids_left = e.1.1.1.0.now;
}

-- what stands in the list of a run: a frame call
pub data Event : Type 0 where
  frame : Seen → Event

-- A run, newest call first, by the functions' own contracts: `Learnt` is what a caller learns of a call. It starts from what either making call returned with
-- its acceptance; each call, by value or in place, gets the tracker that the last one returned or left.
pub data Run (s : Settings) : List Event → Tracker → Type 0 where
  made_new : (κs : Lfts 0) (a : new.Dens κs) (m : Made) (e : new.Exit κs) → new.Learnt κs a m e → m.outcome ≡ Ok tt → m.tracker.settings ≡ s → Run s [] m.tracker
  made_with : (κs : Lfts 0) (a : with_settings.Dens κs) (m : Made) (e : with_settings.Exit κs) → with_settings.Learnt κs a m e → m.outcome ≡ Ok tt → m.tracker.settings ≡ s → Run s [] m.tracker
  called : {xs : List Event} {t : Tracker} → Run s xs t → (κs : Lfts 3) (a : update.Dens κs) (r : Answer) (e : update.Exit κs) → update.Learnt κs a r e → a.0 ≡ t → Run s (frame (seen_of κs a r e) ∷ xs) r.tracker
  lent : {xs : List Event} {t : Tracker} → Run s xs t → (κs : Lfts 4) (a : lent-call.Dens κs) (r : Result ℕ Refusal) (e : lent-call.Exit κs) → lent-call.Learnt κs a r e → a.0.now ≡ t → Run s (frame (seen_in κs a r e) ∷ xs) e.0.now

-- ---- the book of the run, from the settings, the inputs and the buffers' lengths alone

abbrev pub call_seen : Seen → Call
call_seen x = call_of x.input x.boxes x.ids

abbrev pub book_of : Settings → List Event → Book
book_of s [] = none_yet
book_of s (frame x ∷ xs) = (enter s (book_of s xs) (call_seen x)).next

-- the book's answer to x after the calls xs
abbrev pub book_reply : Settings → List Event → Seen → Reply
book_reply s xs x = (enter s (book_of s xs) (call_seen x)).reply

-- a call gave this reply and this tracker: outcome and number, count, both buffers, every cell, and what it returned or left
pub record Gave (x : Seen) (r : Reply) (t : Tracker) : Type 0 where
  pub outcome : x.answer.outcome ≡ outcome_of r
  -- a refusal's number, 0 with reports
  pub number : told_of x.answer.outcome ≡ number_in r
  pub count : result_unwrap_or x.answer.outcome 0 ≡ length (reports_in r)
  pub boxes : x.boxes_left ≡ boxes_after r x.boxes
  pub ids : x.ids_left ≡ ids_after r x.ids
  pub tracker : x.answer.tracker ≡ t

-- each call gave the book's answer, and its tracker is the state that the book stands for at that point of the list
abbrev pub Answered : Settings → List Event → Type 0
Answered s [] = Unit {0}
Answered s (frame x ∷ xs) = Gave x (book_reply s xs x) (book_state s (book_of s (frame x ∷ xs))) × Answered s xs

-- the inputs of the calls answered with reports, newest first
abbrev pub with_input : Result ℕ Refusal → List Float → List (List Float) → List (List Float)
with_input (Ok n) input past = input ∷ past
with_input (Err r) input past = past

abbrev pub accepted_inputs : List Event → List (List Float)
accepted_inputs [] = []
accepted_inputs (frame x ∷ xs) = with_input x.answer.outcome x.input (accepted_inputs xs)

-- the input of the n-th call answered with reports, n from 1
abbrev pub input_at : List Event → ℕ → List Float
input_at xs n = input_of (accepted_inputs xs) n

-- what each call did to the entries before it
pub record Extended (x : Seen) (before after : Book) : Type 0 where
  -- a refused call closes no entry and writes nothing
  pub refused_keeps : (r : Refusal) → x.answer.outcome ≡ Err r → after ≡ before
  -- an accepted one keeps every entry's id and birth; an open one gets exactly one line, or breaks; closed entries stay as they are
  pub grown : IsOk x.answer.outcome → Grown after.frames before.entries after.entries
  -- no call of a run is refused as unsound
  pub never_unsound : x.answer.outcome ≡ Err UnsoundState → ⊥

abbrev pub Histories : Settings → List Event → Type 0
Histories s [] = Unit {0}
Histories s (frame x ∷ xs) = Extended x (book_of s xs) (book_of s (frame x ∷ xs)) × Histories s xs

-- ---- the claim

pub record Holds (s : Settings) (xs : List Event) (t : Tracker) (b : Book) : Type 0 where
  -- 'each call gave the book's answer, a refusal's number or the reports'; and returned or left the tracker that the book then stands for
  pub answers : Answered s xs
  pub histories : Histories s xs
  -- 'every first-class object of an accepted frame has gone to exactly one track, old or newborn': cell 5p + 4 of the n-th accepted input is the score of place p
  pub first-class : (n p : ℕ) → p < length (input_at xs n) / 5 → T (first_score s (score_at (input_at xs n) p)) → times_written n p b.entries ≡ 1
  -- 'every spare object to at most one'; any other to none
  pub spare : (n p : ℕ) → p < length (input_at xs n) / 5 → T (spare_score s (score_at (input_at xs n) p)) → times_written n p b.entries ≤ 1
  pub dropped : (n p : ℕ) → first_score s (score_at (input_at xs n) p) ≡ false → spare_score s (score_at (input_at xs n) p) ≡ false → times_written n p b.entries ≡ 0
  pub past_end : (n p : ℕ) → length (input_at xs n) / 5 ≤ p → times_written n p b.entries ≡ 0
  -- what is written at a frame and place is the box and score that exactly those five numbers give
  pub genuine : (e : Entry) → Memᴰ e b.entries → (o : Stamped) → Memᴰ o (boxes_of e.birth e.lines)
      → (o.obj.det ≡ detection_at (input_at xs o.frame) o.obj.place) × (o.obj.place < length (input_at xs o.frame) / 5)
  -- 'no track got two in a frame'
  pub one_each : (n : ℕ) (e : Entry) → Memᴰ e b.entries → boxes_in_frame n e ≤ 1
  -- 'each pair overlapped by the threshold or more in the round that made it'
  pub overlaps : (e : Entry) → Memᴰ e b.entries → Overlapped s e.id e.birth e.lines
  -- 'ids were issued in sequence and never given again'
  pub ids : map (λ (e : Entry). e.id) b.entries ≡ up_from 0 (length b.entries)
  -- 'each now exactly one of live, broken and aged out', for its cause, in the frame after its last line or with it (`histories`); and each line was written while there was no cause
  pub status : (e : Entry) → Memᴰ e b.entries → Because s e e.status
  pub lived : (e : Entry) → Memᴰ e b.entries → Lived s e.id e.birth e.lines
  -- a live one has exactly one line for each accepted frame after its birth, a closed one up to its closing; a box's line is its frame's
  pub spans : (e : Entry) → Memᴰ e b.entries → Spans b.frames e e.status
  pub line_frames : (e : Entry) → Memᴰ e b.entries → LineFrames e.birth e.lines
  -- the tracker whole: count, and the cells past it, too. What follows are readings of it
  pub whole : t ≡ book_state s b
  -- 'the tracker holds exactly the live ids, in order'
  pub live-ids : map (λ (u : Tracked). u.id) (State.live t) ≡ map (λ (e : Entry). e.id) (live b.entries)
  -- 'and counts as many frames and issued ids as the book'; the settings are the run's
  pub frames : t.frames ≡ b.frames
  pub frames_answered : b.frames ≡ length (accepted_inputs xs)
  pub issued : t.issued ≡ length b.entries
  pub settings : t.settings ≡ s
  -- 'every live track holds, beside its id, exactly what replaying its own birth box, later boxes and misses alone under the run's settings, from a history that forgets nothing, would give'
  pub replays : State.live t ≡ map (track_of s) (live b.entries)

-- ---- the claim is not empty

-- which call a caller makes, and what it brings
pub record Brought : Type 0 where
  pub in_place : Bool
  pub input : List Float
  pub boxes : List Float
  pub ids : List ℕ

abbrev pub brought_to : Event → Brought
brought_to (frame x) = record { in_place = x.in_place; input = x.input; boxes = x.boxes; ids = x.ids }

-- Demand 3, of every run; and runs exist for all accepted settings and every list of inputs and buffers, each call by value or in place.
pub record EveryRun : Type 0 where
  pub holds : (s : Settings) (xs : List Event) (t : Tracker) → Run s xs t → Holds s xs t (book_of s xs)
  pub exists : (s : Settings) → in_range s ≡ true → (bs : List Brought) → (xs : List Event) × (t : Tracker) × Run s xs t × (map brought_to xs ≡ bs)
