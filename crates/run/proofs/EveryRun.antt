-- Demand 3 holds of every run: by induction on the list of calls the tracker is the state that the book stands for. Assumes nothing.
use Rattle.std.specs.Prelude.{Option, Some, None}
use mathlib.Core.Path.{◌≡◌, refl, sym, ap, ap₂, subst, ◌∙◌}
use mathlib.Core.Bool.{Bool, true, false, not, ◌||◌}
use mathlib.Core.List.{List, [], ◌∷◌, map}
use Prim.Native.Nat.{ℕ, zero, suc, ◌+◌, ◌*◌, ◌/◌, ◌%◌, ◌≤◌, ◌<◌}
use native.Mathlib.Omega.{arith}
use lib.Dec.{eqb, ltb, leb}
use lib.Ieee.{Float}
use lib.ListN.{length}
use contract.Lifetimes.{Lfts}
use Rattle.std.specs.Borrow.{Bor, MutBor}
use borrow.Author.Tests.{eqb-true, eqb-false, ne_eqb, leb-true, leb-false}
use Rattle.std.specs.Prelude.{Result, Ok, Err, is_ok, ⊤}
use Rattle.lists.specs.Lists.{pick, sum_of, All}
use Rattle.lists.proofs.All.{all-mem, map-map}
use Rattle.object.specs.declared.Refusal.{Refusal}
use Rattle.object.specs.declared.Refusal.TheVariants.{UnsoundState, BadSetting, RaggedFrame, CrowdedFrame, ShortAnswer, RunOver}
use Rattle.frame.specs.declared.Settings.{Settings}
use Rattle.frame.specs.declared.Tracked.{Tracked}
use Rattle.frame.specs.declared.Tracker.{Tracker}
use Rattle.frame.specs.declared.Answer.{Answer}
use Rattle.frame.specs.declared.Made.{Made}
use Rattle.frame.specs.State as State
use Rattle.frame.specs.State.{in_range, state_of, empty_tracker, state_rules}
use Rattle.frame.specs.Objects.{detection_at}
use Rattle.frame.specs.Frame.{Call, Reply, Out, early, boxes_after, ids_after, frame_of}
use Rattle.frame.specs.Contract.{number_in, made_of, outcome_of, reports_in, call_of, Framed}
use Rattle.frame.proofs.Rules.{state-rules}
use Rattle.frame.proofs.StaysSound.{live_of}
use Rattle.frame.proofs.Contract.{made_by, framed-by}
use Rattle.oc_sort_tracker.specs.New.{defaults}
use Rattle.run_book.specs.Book.{Stamped, Line, miss, box, Entry, Book, none_yet, live, book_state, break_entry, track_of, rounds_of, entered, enter_at, enter}
use Rattle.run_book.specs.Claim.{input_of, is_at, in_line, times_written, boxes_of, Overlapped, Because}
use Rattle.run_book.specs.Laws.{PlacedAt, Placed, Genuine, Tidy, Laws}
use Rattle.run.specs.Lent as lent-call
use Rattle.run.specs.Run.{Seen, seen_of, seen_in, Event, frame, Run, made_new, made_with, called, lent, Brought, brought_to, call_seen, book_of, book_reply, Gave, Answered, with_input, accepted_inputs, input_at, Histories, Holds, EveryRun}
use Rattle.run_book.proofs.Sim.{out_of, alike}
use Rattle.run_book.proofs.Laws.{at_first}
use Rattle.run_book.proofs.Lines.{LivedEntry, Spanned}
use Rattle.run_book.proofs.Accepted.{kept_laws, enter-grown}
use Rattle.run.specs.New as new
use Rattle.run.specs.WithSettings as with_settings
use Rattle.run.specs.Update as update

-- ---- what the contracts say

-- accepted settings are in range, and the tracker is the empty one
pub record Begun (s : Settings) (t : Tracker) : Type 0 where
  pub fine : in_range s ≡ true
  pub fresh : t ≡ empty_tracker s

made-settings : (s : Settings) → (made_of s).tracker.settings ≡ s
unfolding made_of empty_tracker state_of
made-settings s = refl

made-tracker : (s : Settings) → (made_of s).tracker ≡ empty_tracker s
unfolding made_of
made-tracker s = refl

made-accepted : (s : Settings) → (made_of s).outcome ≡ Ok tt → in_range s ≡ true
unfolding made_of
made-accepted s h = go (in_range s) h
  where
    go : (b : Bool) → ◌≡◌ {A = Result ⊤ Refusal} (pick b (Ok tt) (Err BadSetting)) (Ok tt) → b ≡ true
    go true e = refl
    go false e = absurd (let z : ◌≡◌ {A = ℕ} 0 1 = cc in omega arith)

begun : (q s : Settings) (m : Made) → m ≡ made_of q → m.outcome ≡ Ok tt → m.tracker.settings ≡ s → Begun s m.tracker
begun q s m e h k =
    let same : q ≡ s = sym (made-settings q) ∙ ap (λ (x : Made). x.tracker.settings) (sym e) ∙ k in
    record {
      fine = subst (λ (x : Settings). in_range x ≡ true) same (made-accepted q (ap (λ (x : Made). x.outcome) (sym e) ∙ h));
      fresh = ap (λ (x : Made). x.tracker) e ∙ made-tracker q ∙ ap empty_tracker same;
    }

new-begun : (s : Settings) (κs : Lfts 0) (a : new.Dens κs) (m : Made) (e : new.Exit κs) → new.Learnt κs a m e → m.outcome ≡ Ok tt → m.tracker.settings ≡ s → Begun s m.tracker
new-begun s κs a m e h o k = begun (defaults a.0) s m h.made o k

with-begun : (s : Settings) (κs : Lfts 0) (a : with_settings.Dens κs) (m : Made) (e : with_settings.Exit κs) → with_settings.Learnt κs a m e → m.outcome ≡ Ok tt → m.tracker.settings ≡ s → Begun s m.tracker
with-begun s κs a m e h o k = begun a.0 s m h.made o k

-- what a caller learns of a frame call is the record `Framed`
abbrev FramedOf : Tracker → Seen → Type 0
FramedOf t x = Framed t x.input x.boxes x.ids x.answer x.boxes_left x.ids_left

framed : (t : Tracker) (κs : Lfts 3) (a : update.Dens κs) (r : Answer) (e : update.Exit κs) → update.Learnt κs a r e → a.0 ≡ t → FramedOf t (seen_of κs a r e)
framed t κs a r e h same = subst (λ (u : Tracker). FramedOf u (seen_of κs a r e)) same h

framed-in : (t : Tracker) (κs : Lfts 4) (a : lent-call.Dens κs) (r : Result ℕ Refusal) (e : lent-call.Exit κs) → lent-call.Learnt κs a r e → a.0.now ≡ t → FramedOf t (seen_in κs a r e)
framed-in t κs a r e h same = subst (λ (u : Tracker). FramedOf u (seen_in κs a r e)) same h

-- a run by what its calls told, whichever they were
data Told-by (s : Settings) : List Event → Tracker → Type 0 where
  making : {t : Tracker} → Begun s t → Told-by s [] t
  telling : {xs : List Event} {t : Tracker} → Told-by s xs t → (x : Seen) → FramedOf t x → Told-by s (frame x ∷ xs) x.answer.tracker

told-by : {s : Settings} {xs : List Event} {t : Tracker} → Run s xs t → Told-by s xs t
told-by {s} (made_new κs a m e h o k) = making (new-begun s κs a m e h o k)
told-by {s} (made_with κs a m e h o k) = making (with-begun s κs a m e h o k)
told-by (called {xs} {t} r κs a x e h same) = telling (told-by r) (seen_of κs a x e) (framed t κs a x e h same)
told-by (lent {xs} {t} r κs a x e h same) = telling (told-by r) (seen_in κs a x e) (framed-in t κs a x e h same)

in-range : {s : Settings} {xs : List Event} {t : Tracker} → Told-by s xs t → in_range s ≡ true
in-range (making m) = m.fine
in-range (telling r x f) = in-range r

laws : (s : Settings) → in_range s ≡ true → (xs : List Event) → Laws s (book_of s xs)
laws s fine [] = at_first s
laws s fine (frame x ∷ xs) = kept_laws s fine (book_of s xs) (call_seen x) (laws s fine xs)

-- ---- no call is told 1: a fresh tracker obeys the state rules, and each frame promises to keep them

fresh-sound : (s : Settings) → in_range s ≡ true → state_rules (empty_tracker s) ≡ true
unfolding empty_tracker state_of
fresh-sound s fine = state-rules (empty_tracker s) (record { in-range = fine; frames = omega arith; issued = omega arith; count = omega arith; ids = refl; each = refl })

stays-sound : {s : Settings} {xs : List Event} {t : Tracker} → Told-by s xs t → state_rules t ≡ true
stays-sound {s} (making m) = subst (λ (u : Tracker). state_rules u ≡ true) (sym m.fresh) (fresh-sound s m.fine)
stays-sound (telling r x f) = subst (λ (u : Tracker). state_rules u ≡ true) (sym f.next) (f.promises.sound (stays-sound r))

-- ---- the tracker is the state that the book stands for

fresh-state : (s : Settings) → empty_tracker s ≡ book_state s none_yet
unfolding empty_tracker book_state
fresh-state s = refl

module _ (s : Settings) (fine : in_range s ≡ true) (xs : List Event) (x : Seen) (t : Tracker) (same : t ≡ book_state s (book_of s xs)) (obeys : state_rules t ≡ true) where
  abbrev b : Book
  b = book_of s xs

  stepped : frame_of t (call_seen x) ≡ out_of s (enter s b (call_seen x))
  stepped = ap (λ (u : Tracker). frame_of u (call_seen x)) same ∙ alike s fine b (call_seen x) (subst (λ (u : Tracker). state_rules u ≡ true) same obeys)

  replied : (frame_of t (call_seen x)).reply ≡ book_reply s xs x
  replied = ap (λ (o : Out Tracker). o.reply) stepped

  pub gave : FramedOf t x → Gave x (book_reply s xs x) (book_state s (book_of s (frame x ∷ xs)))
  gave f = record {
    outcome = f.outcome ∙ ap outcome_of replied;
    number = f.number ∙ ap number_in replied;
    count = f.count ∙ ap (λ (r : Reply). length (reports_in r)) replied;
    boxes = f.boxes-after ∙ ap (λ (r : Reply). boxes_after r x.boxes) replied;
    ids = f.ids-after ∙ ap (λ (r : Reply). ids_after r x.ids) replied;
    tracker = f.next ∙ ap (λ (o : Out Tracker). o.next) stepped;
  }

state : {s : Settings} {xs : List Event} {t : Tracker} → Told-by s xs t → t ≡ book_state s (book_of s xs)
state {s} (making m) = m.fresh ∙ fresh-state s
state {s} (telling {xs} {t} r x f) = (gave s (in-range r) xs x t (state r) (stays-sound r) f).tracker

answered : {s : Settings} {xs : List Event} {t : Tracker} → Told-by s xs t → Answered s xs
answered (making m) = tt
answered {s} (telling {xs} {t} r x f) = (gave s (in-range r) xs x t (state r) (stays-sound r) f, answered r)

-- ---- each call's part of the history

-- what a reply of the book comes with
pub record Came (b : Book) (input : List Float) (o : Out Book) : Type 0 where
  pub refused_keeps : (r : Refusal) → outcome_of o.reply ≡ Err r → o.next ≡ b
  pub never_unsound : outcome_of o.reply ≡ Err UnsoundState → ⊥
  pub inputs : o.next.past ≡ with_input (outcome_of o.reply) input b.past

ok-refused : {A : Type 0} {n : ℕ} {r : Refusal} → ◌≡◌ {A = Result ℕ Refusal} (Ok n) (Err r) → A
ok-refused e = absurd (let z : ◌≡◌ {A = ℕ} 0 1 = cc in omega arith)

came-full : (s : Settings) (b : Book) (input : List Float) (es : List Entry) (full : Bool) → Came b input (entered s b input es (rounds_of s es input) full)
came-full s b input es true = record { refused_keeps = λ r e. refl; never_unsound = λ e. let z : ◌≡◌ {A = ℕ} 0 1 = cc in omega arith; inputs = refl }
came-full s b input es false = record { refused_keeps = λ r e. ok-refused e; never_unsound = λ e. ok-refused e; inputs = refl }

not-early : (n : ℕ) (c : Call) → early n c ≡ Some UnsoundState → ⊥
unfolding early
not-early n c h = go (not (eqb (length c.input % 5) 0)) (ltb (64 * 5) (length c.input)) (ltb c.boxes 256 || ltb c.ids 64) (leb 1000000 n) h
  where
    go : (x y z v : Bool) → pick x (Some RaggedFrame) (pick y (Some CrowdedFrame) (pick z (Some ShortAnswer) (pick v (Some RunOver) None))) ≡ Some UnsoundState → ⊥
    go true y z v e = let q : ◌≡◌ {A = ℕ} 0 1 = cc in omega arith
    go false true z v e = let q : ◌≡◌ {A = ℕ} 0 1 = cc in omega arith
    go false false true v e = let q : ◌≡◌ {A = ℕ} 0 1 = cc in omega arith
    go false false false true e = let q : ◌≡◌ {A = ℕ} 0 1 = cc in omega arith
    go false false false false e = let q : ◌≡◌ {A = ℕ} 0 1 = cc in omega arith

refused-inj : (r q : Refusal) → ◌≡◌ {A = Result ℕ Refusal} (Err r) (Err q) → r ≡ q
refused-inj r q e = cc

came-at : (s : Settings) (b : Book) (c : Call) (r : Option Refusal) → early b.frames c ≡ r → Came b c.input (enter_at s b c r)
came-at s b c (Some r) h = record { refused_keeps = λ q e. refl; never_unsound = λ e. not-early b.frames c (h ∙ ap Some (refused-inj r UnsoundState e)); inputs = refl }
came-at s b c None h = came-full s b c.input (map (break_entry s) b.entries) (ltb 64 (length (live (map (break_entry s) b.entries)) + length (rounds_of s (map (break_entry s) b.entries) c.input).left))

came : (s : Settings) (b : Book) (c : Call) → Came b c.input (enter s b c)
unfolding enter
came s b c = came-at s b c (early b.frames c) refl

histories : {s : Settings} {xs : List Event} {t : Tracker} → Told-by s xs t → Histories s xs
histories (making m) = tt
histories {s} (telling {xs} {t} r x f) =
    let g : Gave x (book_reply s xs x) (book_state s (book_of s (frame x ∷ xs))) = gave s (in-range r) xs x t (state r) (stays-sound r) f in
    let k : Came (book_of s xs) x.input (enter s (book_of s xs) (call_seen x)) = came s (book_of s xs) (call_seen x) in (
      record {
        refused_keeps = λ q e. k.refused_keeps q (sym g.outcome ∙ e);
        grown = λ e. enter-grown s (book_of s xs) (call_seen x) (laws s (in-range r) xs) (ap is_ok (sym g.outcome) ∙ e);
        never_unsound = λ e. k.never_unsound (sym g.outcome ∙ e);
      },
      histories r,
    )

inputs-alike : {s : Settings} {xs : List Event} {t : Tracker} → Told-by s xs t → (book_of s xs).past ≡ accepted_inputs xs
inputs-alike (making m) = refl
inputs-alike {s} (telling {xs} {t} r x f) =
    let g : Gave x (book_reply s xs x) (book_state s (book_of s (frame x ∷ xs))) = gave s (in-range r) xs x t (state r) (stays-sound r) f in
    (came s (book_of s xs) (call_seen x)).inputs ∙ ap₂ (λ (o : Result ℕ Refusal) (l : List (List Float)). with_input o x.input l) (sym g.outcome) (inputs-alike r)

-- ---- what the laws say of a frame and place

-- a frame that no box of an entry has is not written in it
module _ (n p : ℕ) where
  not_at : (b : Stamped) → (b.frame ≡ n → ⊥) → is_at n p b ≡ 0
  not_at b h = rw (ne_eqb b.frame n h)

  none_in : (b : Stamped) (ls : List Line) → All (λ (o : Stamped). o.frame ≡ n → ⊥) (boxes_of b ls) → is_at n p b + sum_of (in_line n p) ls ≡ 0
  none_in b [] a = omega (arith, not_at b a.0)
  none_in b (miss ∷ ls) a = omega (arith, none_in b ls a)
  none_in b (box k o ∷ ls) a = omega (arith, not_at o a.0, none_in b ls a.1)

module _ (past : List (List Float)) (n : ℕ) (gone : input_of past n ≡ []) where
  not-here : (o : Stamped) → Genuine past o → o.frame ≡ n → ⊥
  not-here o g e =
      let i : input_of past o.frame ≡ [] = ap (input_of past) e ∙ gone in
      let l : o.obj.place < length (input_of past o.frame) / 5 = g.in_frame in
      nowhere o.obj.place (subst (λ (x : List Float). o.obj.place < length x / 5) i l)
    where
      nowhere : (q : ℕ) → q < 0 / 5 → ⊥
      nowhere q l = omega arith

  not_in : (os : List Stamped) → All (Genuine past) os → All (λ (o : Stamped). o.frame ≡ n → ⊥) os
  not_in [] a = tt
  not_in (o ∷ os) a = (not-here o a.0, not_in os a.1)

  pub unwritten : (p : ℕ) (es : List Entry) → All (λ e. All (Genuine past) (boxes_of e.birth e.lines)) es → times_written n p es ≡ 0
  unfolding times_written
  unwritten p [] a = refl
  unwritten p (e ∷ es) a = omega (arith, none_in n p e.birth e.lines (not_in (boxes_of e.birth e.lines) a.0), unwritten p es a.1)

past-none : (past : List (List Float)) (n : ℕ) → length past < n → input_of past n ≡ []
past-none [] n h = refl
past-none (input ∷ past) n h = rw (ne_eqb n (suc (length past)) (λ e. omega (arith, e, h))) (past-none past n (omega arith))

zero-none : (past : List (List Float)) → input_of past 0 ≡ []
zero-none [] = refl
zero-none (input ∷ past) = rw (ne_eqb 0 (suc (length past)) (λ e. omega (arith, e))) (zero-none past)

placed_at : (s : Settings) (es : List Entry) (past : List (List Float)) (n p : ℕ) → Placed s es past → 0 < n → n ≤ length past → PlacedAt s es n (input_of past n) p
placed_at s es [] n p a h l = absurd (omega (arith, h, l))
placed_at s es (input ∷ past) n p a h l = go (eqb n (suc (length past))) refl (placed_at s es past n p a.1 h)
  where
    go : (t : Bool) → eqb n (suc (length past)) ≡ t → (n ≤ length past → PlacedAt s es n (input_of past n) p) → PlacedAt s es n (pick t input (input_of past n)) p
    go true e ih = subst (λ (k : ℕ). PlacedAt s es k input p) (sym (eqb-true n (suc (length past)) e)) (a.0 p)
    go false e ih = let u : n ≡ suc (length past) → ⊥ = eqb-false n (suc (length past)) e in ih (omega arith)

module _ (s : Settings) (b : Book) (ok : Laws s b) (n p : ℕ) where
  nothing-there : input_of b.past n ≡ [] → PlacedAt s b.entries n (input_of b.past n) p
  nothing-there e =
      let w : times_written n p b.entries ≡ 0 = unwritten b.past n e p b.entries ok.genuine in
      let f : p < length (input_of b.past n) / 5 → ⊥ = λ l. nowhere (subst (λ (x : List Float). p < length x / 5) e l) in
      record { first-class = λ l t. absurd (f l); spare = λ l t. absurd (f l); dropped = λ x y. w; past_end = λ l. w }
    where
      nowhere : p < 0 / 5 → ⊥
      nowhere l = omega arith

  pub placed-in : PlacedAt s b.entries n (input_of b.past n) p
  placed-in = go n refl (leb n (length b.past)) refl
    where
      go : (m : ℕ) → n ≡ m → (t : Bool) → leb n (length b.past) ≡ t → PlacedAt s b.entries n (input_of b.past n) p
      go zero e t q = nothing-there (ap (input_of b.past) e ∙ zero-none b.past)
      go (suc m) e true q = placed_at s b.entries b.past n p ok.placed (omega (arith, e)) (leb-true n (length b.past) q)
      go (suc m) e false q = nothing-there (past-none b.past n (leb-false n (length b.past) q))

-- ---- the claim

live-held : (s : Settings) (b : Book) → State.live (book_state s b) ≡ map (track_of s) (live b.entries)
unfolding book_state
live-held s b = live_of s b.frames (length b.entries) (map (track_of s) (live b.entries))

frames-of : (s : Settings) (b : Book) → (book_state s b).frames ≡ b.frames
unfolding book_state state_of
frames-of s b = refl

issued-of : (s : Settings) (b : Book) → (book_state s b).issued ≡ length b.entries
unfolding book_state state_of
issued-of s b = refl

settings-of : (s : Settings) (b : Book) → (book_state s b).settings ≡ s
unfolding book_state state_of
settings-of s b = refl

ids-of : (s : Settings) (es : List Entry) → map (λ (u : Tracked). u.id) (map (track_of s) es) ≡ map (λ (e : Entry). e.id) es
unfolding track_of
ids-of s es = map-map (λ (u : Tracked). u.id) (track_of s) es

of-run : (s : Settings) (xs : List Event) (t : Tracker) → Run s xs t → Holds s xs t (book_of s xs)
of-run s xs t run =
    let r : Told-by s xs t = told-by run in
    let b : Book = book_of s xs in
    let fine : in_range s ≡ true = in-range r in
    let ok : Laws s b = laws s fine xs in
    let same : t ≡ book_state s b = state r in
    let i : b.past ≡ accepted_inputs xs = inputs-alike r in
    let at : (n p : ℕ) → PlacedAt s b.entries n (input_at xs n) p = λ n p. subst (λ (l : List (List Float)). PlacedAt s b.entries n (input_of l n) p) i (placed-in s b ok n p) in
    let held : State.live t ≡ map (track_of s) (live b.entries) = ap State.live same ∙ live-held s b in
    record {
      answers = answered r;
      histories = histories r;
      first-class = λ n p l h. (at n p).first-class l h;
      spare = λ n p l h. (at n p).spare l h;
      dropped = λ n p f g. (at n p).dropped f g;
      past_end = λ n p l. (at n p).past_end l;
      genuine = λ e m o k.
          let g : Genuine b.past o = all-mem (Genuine b.past) (boxes_of e.birth e.lines) (all-mem (λ (x : Entry). All (Genuine b.past) (boxes_of x.birth x.lines)) b.entries ok.genuine e m) o k in
          subst (λ (l : List (List Float)). (o.obj.det ≡ detection_at (input_of l o.frame) o.obj.place) × (o.obj.place < length (input_of l o.frame) / 5)) i (g.numbers, g.in_frame);
      one_each = λ n e m. (all-mem (Tidy b.frames) b.entries ok.tidy e m n).0;
      overlaps = all-mem (λ (x : Entry). Overlapped s x.id x.birth x.lines) b.entries ok.overlapped;
      ids = ok.in_sequence;
      status = all-mem (λ (x : Entry). Because s x x.status) b.entries ok.caused;
      lived = all-mem (LivedEntry s) b.entries ok.lived;
      spans = λ e m. (all-mem (Spanned b.frames) b.entries ok.spanned e m).0;
      line_frames = λ e m. (all-mem (Spanned b.frames) b.entries ok.spanned e m).1;
      whole = same;
      live-ids = ap (map (λ (u : Tracked). u.id)) held ∙ ids-of s (live b.entries);
      frames = ap (λ (u : Tracker). u.frames) same ∙ frames-of s b;
      frames_answered = sym ok.counted ∙ ap length i;
      issued = ap (λ (u : Tracker). u.issued) same ∙ issued-of s b;
      settings = ap (λ (u : Tracker). u.settings) same ∙ settings-of s b;
      replays = held;
    }

-- ---- runs exist

abbrev pub no_lifetimes : Lfts 3
no_lifetimes = ([], ([], ([], tt)))

abbrev pub no_lifetimes₄ : Lfts 4
no_lifetimes₄ = ([], no_lifetimes)

-- a reference to a value, wherever it points
abbrev pub ref : {X : Type 0} → X → Bor X
ref x = record { ref_ptr = (0, 0); now = x }

-- the same of a reference that the call writes through
abbrev pub mut_ref : {X : Type 0} → X → MutBor X
mut_ref x = record { ref_ptr = (0, 0); ghost_name = 0; now = x }

module _ (t : Tracker) (b : Brought) where
  abbrev reply : Reply
  reply = (frame_of t (call_of b.input b.boxes b.ids)).reply

  abbrev answer : Answer
  answer = record { outcome = outcome_of reply; tracker = (frame_of t (call_of b.input b.boxes b.ids)).next }

  answer-to : Framed t b.input b.boxes b.ids answer (boxes_after reply b.boxes) (ids_after reply b.ids)
  answer-to = framed-by t b.input b.boxes b.ids answer (boxes_after reply b.boxes) (ids_after reply b.ids) refl refl refl refl

  -- the call, and the buffers as it leaves them
  abbrev asked : update.Dens no_lifetimes
  asked = (t, (ref b.input, (mut_ref b.boxes, (mut_ref b.ids, tt))))

  abbrev gone : update.Exit no_lifetimes
  gone = (t, (ref b.input, (mut_ref (boxes_after reply b.boxes), (mut_ref (ids_after reply b.ids), tt))))

  -- the same in place
  abbrev asked_in : lent-call.Dens no_lifetimes₄
  asked_in = (mut_ref t, (ref b.input, (mut_ref b.boxes, (mut_ref b.ids, tt))))

  abbrev gone-in : lent-call.Exit no_lifetimes₄
  gone-in = (mut_ref answer.tracker, (ref b.input, (mut_ref (boxes_after reply b.boxes), (mut_ref (ids_after reply b.ids), tt))))

  once : {s : Settings} {xs : List Event} → Run s xs t → (way : Bool) → (x : Event) × Run s (x ∷ xs) answer.tracker × (brought_to x ≡ record { in_place = way; input = b.input; boxes = b.boxes; ids = b.ids })
  once r false = (frame (seen_of no_lifetimes asked answer gone), called r no_lifetimes asked answer gone answer-to refl, refl)
  once r true = (frame (seen_in no_lifetimes₄ asked_in answer.outcome gone-in), lent r no_lifetimes₄ asked_in answer.outcome gone-in answer-to refl, refl)

pub started : (s : Settings) → in_range s ≡ true → Run s [] (empty_tracker s)
unfolding made_of
started s fine = subst (λ (u : Tracker). Run s [] u) (made-tracker s) (made_with tt (s, tt) (made_of s) (s, tt) (made_by s (made_of s) refl) (ap (λ (b : Bool). pick b (Ok tt) (Err BadSetting)) fine) (made-settings s))

exists : (s : Settings) → in_range s ≡ true → (bs : List Brought) → (xs : List Event) × (t : Tracker) × Run s xs t × (map brought_to xs ≡ bs)
exists s fine [] = ([], empty_tracker s, started s fine, refl)
exists s fine (b ∷ bs) =
    let r = exists s fine bs in
    let c = once r.1 b r.2 b.in_place in
    (c.0 ∷ r.0, (answer r.1 b).tracker, c.1, ap₂ (λ (x : Brought) (l : List Brought). x ∷ l) c.2 r.3)

pub every-run : EveryRun
every-run = record { holds = of-run; exists = exists }
