-- Demand 3 for what C and Rust link: lists of exported calls, and the claim that each is a run. Definitions only.
use Rattle.std.specs.Prelude.{◌≡◌, true, List, [], ◌∷◌, map, ℕ, Float, Result}
use contract.Lifetimes.{Lfts}
use Rattle.std.specs.Borrow.{MutBor}
use Rattle.update_in_lists.specs.declared.Reply.{Reply}
use Rattle.making.specs.Making.{thaw_settings}
use Rattle.image.specs.declared.TrackerImage.{TrackerImage}
use Rattle.image.specs.Image.{image_of, freeze_tracker, thaw_tracker, meant}
use Rattle.oc_sort_tracker.specs.New.{defaults}
use Rattle.frame.specs.declared.Settings.{Settings}
use Rattle.object.specs.declared.Refusal.{Refusal}
use Rattle.update_in_lists.specs.Host.{telling}
use Rattle.frame.specs.State.{in_range}
use Rattle.run.specs.Run.{Seen, Event, frame, Run, book_of, Holds}
use Rattle.exported_run.specs.New as new
use Rattle.exported_run.specs.WithSettings as with_settings
use Rattle.exported_run.specs.Update as update

-- ---- lists of calls

-- the image in the three lists that a call was lent, or that it left: they are the first three of its arguments
abbrev pub lists_of : {X : Type 0} → MutBor (List ℕ) × (MutBor (List Float) × (MutBor (List ℕ) × X)) → TrackerImage
lists_of a = image_of a.0.now a.1.0.now a.1.1.0.now

-- a frame as its caller sees it: what went in, the reply, and what the call left
pub record Shown : Type 0 where
  pub input : List Float
  pub boxes : List Float
  pub ids : List ℕ
  pub reply : Reply
  pub lists_left : TrackerImage
  pub boxes_left : List Float
  pub ids_left : List ℕ

-- what the contract of `satinjacks_update_lists` speaks of: what went in as a, what came back as r, and the arguments as the call left them, e
abbrev pub shown_of : (κs : Lfts 6) → update.Dens κs → Reply → update.Exit κs → Shown
shown_of κs a r e = record {
  input = a.1.1.1.0.now;
  boxes = a.1.1.1.1.0.now;
  ids = a.1.1.1.1.1.0.now;
  reply = r;
  lists_left = lists_of e;
  boxes_left = e.1.1.1.1.0.now;
  ids_left = e.1.1.1.1.1.0.now;
}

-- Exported calls on the lists of one tracker, newest frame first, by the calls' own contracts: `Learnt` is what a caller learns of a call. They start where either making call answered 0, whatever stood in the lists before. Each later call gets
-- the lists that the last one left: a frame, accepted or refused, or a making call that is refused.
pub data Calls (s : Settings) : List Shown → TrackerImage → Type 0 where
  made_new : (κs : Lfts 3) (a : new.Dens κs) (n : ℕ) (e : new.Exit κs) → new.Learnt κs a n e → n ≡ 0 → defaults a.1.1.1.0 ≡ s → Calls s [] (lists_of e)
  made_with : (κs : Lfts 3) (a : with_settings.Dens κs) (n : ℕ) (e : with_settings.Exit κs) → with_settings.Learnt κs a n e → n ≡ 0 → thaw_settings a.1.1.1.0 ≡ s → Calls s [] (lists_of e)
  called : {ys : List Shown} {i : TrackerImage} → Calls s ys i → (κs : Lfts 6) (a : update.Dens κs) (r : Reply) (e : update.Exit κs) → update.Learnt κs a r e → lists_of a ≡ i → Calls s (shown_of κs a r e ∷ ys) (lists_of e)
  refused_new : {ys : List Shown} {i : TrackerImage} → Calls s ys i → (κs : Lfts 3) (a : new.Dens κs) (n : ℕ) (e : new.Exit κs) → new.Learnt κs a n e → lists_of a ≡ i → (n ≡ 0 → ⊥) → Calls s ys (lists_of e)
  refused-with : {ys : List Shown} {i : TrackerImage} → Calls s ys i → (κs : Lfts 3) (a : with_settings.Dens κs) (n : ℕ) (e : with_settings.Exit κs) → with_settings.Learnt κs a n e → lists_of a ≡ i → (n ≡ 0 → ⊥) → Calls s ys (lists_of e)

-- ---- the same as a run

-- a frame as a run has it: in place, with the outcome o; its tracker is the state that the lists left stand for
abbrev pub seen_as : Result ℕ Refusal → Shown → Seen
seen_as o y = record {
  in_place = true;
  input = y.input;
  boxes = y.boxes;
  ids = y.ids;
  answer = record { outcome = o; tracker = thaw_tracker y.lists_left };
  boxes_left = y.boxes_left;
  ids_left = y.ids_left;
}

-- exported calls and the events of a run, one for one: a call's outcome is the one whose number and count it was told, 0 where accepted and how many reports
pub data Alike : List Shown → List Event → Type 0 where
  none : Alike [] []
  one_more : {ys : List Shown} {xs : List Event} → Alike ys xs → (y : Shown) (o : Result ℕ Refusal) → telling o ≡ y.reply → Alike (y ∷ ys) (frame (seen_as o y) ∷ xs)

-- ---- the claim

-- of exported calls ys with the settings s that left the lists i
pub record IsRun (s : Settings) (ys : List Shown) (i : TrackerImage) : Type 0 where
  -- they are the calls of a run, and the lists stand for its tracker
  pub events : List Event
  pub alike : Alike ys events
  pub run : Run s events (thaw_tracker i)
  -- so demand 3 holds: of the numbers, the counts and the buffers, and of the state that the lists stand for, after each call and now
  pub holds : Holds s events (thaw_tracker i) (book_of s events)
  -- the lists mean something, and hold that state's image and nothing else
  pub means : meant i ≡ true
  pub image : i ≡ freeze_tracker (thaw_tracker i)

-- what a caller brings to a frame
pub record Brought : Type 0 where
  pub input : List Float
  pub boxes : List Float
  pub ids : List ℕ

abbrev pub brought_to : Shown → Brought
brought_to y = record { input = y.input; boxes = y.boxes; ids = y.ids }

-- Every list of exported calls is a run; and there are such lists for all accepted settings and every list of inputs and buffers.
pub record EveryList : Type 0 where
  pub is_run : (s : Settings) (ys : List Shown) (i : TrackerImage) → Calls s ys i → IsRun s ys i
  pub exists : (s : Settings) → in_range s ≡ true → (bs : List Brought) → (ys : List Shown) × (i : TrackerImage) × Calls s ys i × (map brought_to ys ≡ bs)
