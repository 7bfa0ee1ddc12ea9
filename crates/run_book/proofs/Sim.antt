-- The frame on the state that a book stands for gives the book's answer, and the state that the next book stands for. Assumes nothing.
use Rattle.std.specs.Prelude.{Option, Some, None}
use Rattle.std.specs.Option.{unwrap_or}
use mathlib.Core.Path.{◌≡◌, refl, sym, ap, ap₂, ◌∙◌}
use mathlib.Core.Bool.{Bool, true, false, not, ◌&&◌, ◌||◌}
use mathlib.Core.List.{List, [], ◌∷◌, ◌++◌, map}
use mathlib.Core.Logic.{◌≢◌, ◌⊎◌, inl, inr, ⊎_elim}
use Prim.Native.Nat.{ℕ, zero, suc, ◌+◌, ◌≤◌}
use native.Mathlib.Nat.{suc_inj}
use native.Mathlib.Omega.{arith}
use lib.Dec.{ltb, leb, eqb, leb-zero, eqb-suc-zero}
use lib.Ieee.{Float, is_nan}
use lib.ListN.{length, length-append, length-map}
use borrow.Author.Tests.{leb-true}
use Rattle.lists.specs.Lists.{pick, put, keep}
use Rattle.lists.proofs.Keep.{keep_append}
use Rattle.lists.proofs.All.{map-append, map-map, keep-map, keep_same}
use Rattle.object.specs.Object.{corners_of}
use Rattle.object.specs.declared.Refusal.{Refusal}
use Rattle.object.specs.declared.Refusal.TheVariants.{UnsoundState}
use Rattle.strack.specs.declared.Track.{Track}
use Rattle.strack.specs.Track.{state_box, track_predict, birth_of}
use Rattle.history.specs.Uncut.{predicted}
use Rattle.history.specs.Replay.{replay, cut}
use Rattle.history.proofs.Sound.{replay-sound}
use Rattle.history.proofs.Cut.{cut-born, cut-boxed, cut-missed, k-previous-cut}
use Rattle.frame.specs.declared.Settings.{Settings}
use Rattle.frame.specs.declared.Tracked.{Tracked}
use Rattle.frame.specs.declared.Tracker.{Tracker}
use Rattle.frame.specs.State.{in_range, unit_range, state_of, state_rules}
use Rattle.frame.specs.Objects.{Obj, objects_of}
use Rattle.frame.specs.Rounds.{View, Grant, Slot, Work, rounds}
use Rattle.frame.specs.Frame.{Call, reports, Out, early, placeholder, step_or, view_of, tracked_view, with_track, predict_tracked, unbroken, predicted_tracks, give, give_all, births, is_reported, report_of, snoc_if, reports_of, is_young, settled, accepted_frame, frame_at, frame_of}
use Rattle.run_book.specs.Book.{Status, open', broken, agedOut, Entry, Book, line_of, replayed, track_of, is_open, live, book_state, closed_by, with_status, breaks, break_entry, is_old, age_entry, view_of_entry, next_line, with_line, written, write, opened, entered, rounds_of, enter_at, enter}
use Rattle.frame.proofs.StaysSound.{live_of}
use Rattle.frame.proofs.Seats.{rounds-length}
use Rattle.object.specs.declared.Detection.{Detection}
use Rattle.lapjv_walk.proofs.Cases.{and_right}

-- ---- one entry

module _ (s : Settings) (fine : in_range s ≡ true) where
  pub eight : s.delta_t ≤ 8
  unfolding in_range
  eight = leb-true s.delta_t 8 (and_right (not (is_nan s.det_thresh) && unit_range s.iou_threshold && unit_range s.inertia && leb s.max_age 255 && leb s.min_hits 255) (leb s.delta_t 8) fine)

  -- a grant, or none, does to the predicted track what the line for it does to the replay
  pub given : (n : ℕ) (g : Option Grant) (e : Entry) → with_track (predict_tracked (track_of s e)) (give s.delta_t g (predict_tracked (track_of s e)).track) ≡ track_of s (with_line e (next_line n g))
  unfolding track_of replay
  given n None e = ap (λ (t : Track). record { id = e.id; track = t }) (sym (cut-missed (replayed s e) (replay-sound s.delta_t e.birth.obj.det (map line_of e.lines))))
  given n (Some g) e = ap (λ (t : Track). record { id = e.id; track = t }) (sym (cut-boxed s.delta_t eight g.obj.det (replayed s e) (replay-sound s.delta_t e.birth.obj.det (map line_of e.lines))))

  pub breaks-alike : (e : Entry) → unbroken (predict_tracked (track_of s e)) ≡ not (breaks s e)
  unfolding track_of breaks cut track_predict predicted
  breaks-alike e = refl

  pub views-alike : (e : Entry) → tracked_view s (predict_tracked (track_of s e)) ≡ view_of_entry s e
  unfolding track_of view_of view_of_entry cut track_predict predicted
  views-alike e = ap (λ (l : Option Detection). record {
    box = state_box (predicted (replayed s e)).filter;
    direction = step_or (replayed s e).direction;
    last = corners_of (unwrap_or (replayed s e).last placeholder);
    previous = unwrap_or l placeholder;
  })
      (sym (k-previous-cut s.delta_t eight (replayed s e) (replay-sound s.delta_t e.birth.obj.det (map line_of e.lines))))

  pub young-alike : (e : Entry) → is_young s (track_of s e) ≡ not (is_old s e)
  unfolding track_of is_old cut
  young-alike e = go (leb (replayed s e).since s.max_age)
    where
      go : (t : Bool) → t ≡ not (not t)
      go true = refl
      go false = refl

  pub birth-alike : (n i : ℕ) (o : Obj) → track_of s (record { id = i; birth = record { frame = n; obj = o }; lines = []; status = open' }) ≡ record { id = i; track = birth_of o.det }
  unfolding track_of replay
  birth-alike n i o = ap (λ (t : Track). record { id = i; track = t }) (cut-born o.det)

-- ---- what is live after each part of a call

-- closing by a test keeps, of the live, those that fail it
pub live-closed : (why : Status) (shut : is_open why ≡ false) (t : Entry → Bool) (steady : (e : Entry) (q : Status) → t (with_status e q) ≡ t e) (es : List Entry)
    → live (map (λ (e : Entry). with_status e (closed_by why e.status (t e))) es) ≡ keep (λ e. not (t e)) (live es)
live-closed why shut t steady [] = refl
live-closed why shut t steady (e ∷ es) = rw (live-closed why shut t steady es) (go e.status (steady e e.status))
  where
    rest : List Entry
    rest = keep (λ x. not (t x)) (live es)

    go₂ : (b : Bool) → put (is_open (closed_by why open' b)) (with_status e (closed_by why open' b)) rest ≡ put (not b) (with_status e open') rest
    go₂ true = rw shut
    go₂ false = refl

    go : (q : Status) → t (with_status e q) ≡ t e → put (is_open (closed_by why q (t e))) (with_status e (closed_by why q (t e))) rest ≡ keep (λ x. not (t x)) (put (is_open q) (with_status e q) (live es))
    go open' h = rw h (go₂ (t e))
    go broken h = refl
    go agedOut h = refl

breaks-steady : (s : Settings) (e : Entry) (q : Status) → breaks s (with_status e q) ≡ breaks s e
unfolding breaks
breaks-steady s e q = refl

old-steady : (s : Settings) (e : Entry) (q : Status) → is_old s (with_status e q) ≡ is_old s e
unfolding is_old
old-steady s e q = refl

pub live-unbroken : (s : Settings) (es : List Entry) → live (map (break_entry s) es) ≡ keep (λ e. not (breaks s e)) (live es)
live-unbroken s es = live-closed broken refl (breaks s) (breaks-steady s) es

pub live-young : (s : Settings) (es : List Entry) → live (map (age_entry s) es) ≡ keep (λ e. not (is_old s e)) (live es)
live-young s es = live-closed agedOut refl (is_old s) (old-steady s) es

module _ (s : Settings) (fine : in_range s ≡ true) where
  abbrev foretold : Entry → Tracked
  foretold e = predict_tracked (track_of s e)

  -- the tracks left after prediction are those of the entries left
  pub kept-alike : (es : List Entry) → predicted_tracks (map (track_of s) (live es)) ≡ map foretold (live (map (break_entry s) es))
  unfolding predicted_tracks
  kept-alike es =
      ap (keep unbroken) (map-map predict_tracked (track_of s) (live es))
      ∙ keep-map foretold unbroken (live es)
      ∙ ap (map foretold) (keep_same (λ e. unbroken (foretold e)) (λ e. not (breaks s e)) (breaks-alike s fine) (live es))
      ∙ ap (map foretold) (sym (live-unbroken s es))

  -- the slots reach the live entries, in order
  abbrev Written : ℕ → List Entry → List Slot → Type 0
  Written n es ss = length ss ≡ length (live es) → map (track_of s) (live (write n es ss)) ≡ give_all s.delta_t (map foretold (live es)) ss

  write-one : (n : ℕ) (e : Entry) (es : List Entry) (ih : (r : List Slot) → Written n es r) (q : Status) (ss : List Slot)
      → length ss ≡ length (put (is_open q) (with_status e q) (live es))
      → map (track_of s) (live (written n q (with_status e q) ss (λ r. write n es r))) ≡ give_all s.delta_t (map foretold (put (is_open q) (with_status e q) (live es))) ss
  write-one n e es ih open' [] h = absurd (let z : 0 ≢ suc (length (live es)) = omega arith in z h)
  write-one n e es ih open' (a ∷ ss) h = λ j. sym (given s fine n a.got (with_status e open')) j ∷ ih ss (suc_inj h) j
  write-one n e es ih broken ss h = ih ss h
  write-one n e es ih agedOut ss h = ih ss h

  pub live_written : (n : ℕ) (es : List Entry) (ss : List Slot) → Written n es ss
  live_written n [] ss h = refl
  live_written n (e ∷ es) ss h = write-one n e es (live_written n es) e.status ss h

  -- births
  pub live-opened : (n i : ℕ) (os : List Obj) → map (track_of s) (live (opened n i os)) ≡ births i os
  live-opened n i [] = refl
  live-opened n i (o ∷ os) = ap₂ ◌∷◌ (birth-alike s fine n i o) (live-opened n (suc i) os)

  -- ageing
  pub live-aged : (es : List Entry) → map (track_of s) (live (map (age_entry s) es)) ≡ keep (is_young s) (map (track_of s) (live es))
  live-aged es =
      ap (map (track_of s)) (live-young s es ∙ keep_same (λ e. not (is_old s e)) (λ e. is_young s (track_of s e)) (λ e. sym (young-alike s fine e)) (live es))
      ∙ sym (keep-map (track_of s) (is_young s) (live es))

-- ---- an aged-out track has no report

young-or-hidden : (s : Settings) (n : ℕ) (t : Tracked) → (is_young s t ≡ true) ⊎ (is_reported s n t.track ≡ false)
unfolding is_reported
young-or-hidden s n t = go t.track.since
  where
    go : (m : ℕ) → (leb m s.max_age ≡ true) ⊎ ((eqb m 0 && (leb s.min_hits t.track.streak || leb n s.min_hits)) ≡ false)
    go zero = inl (leb-zero s.max_age)
    go (suc m) = inr (rw (eqb-suc-zero m))

reports-one : (s : Settings) (n : ℕ) (t : Tracked) (ts us : List Tracked) → reports_of s n us ≡ reports_of s n ts
    → reports_of s n (put (is_young s t) t us) ≡ snoc_if (is_reported s n t.track) (reports_of s n ts) (report_of t)
reports-one s n t ts us ih = ⊎_elim is-young is_hidden (young-or-hidden s n t)
  where
    is-young : is_young s t ≡ true → reports_of s n (put (is_young s t) t us) ≡ snoc_if (is_reported s n t.track) (reports_of s n ts) (report_of t)
    is-young h = rw h (rw ih)

    go : (b : Bool) → is_reported s n t.track ≡ false → reports_of s n (put b t us) ≡ reports_of s n ts
    go true h = rw h ih
    go false h = ih

    is_hidden : is_reported s n t.track ≡ false → reports_of s n (put (is_young s t) t us) ≡ snoc_if (is_reported s n t.track) (reports_of s n ts) (report_of t)
    is_hidden h = go (is_young s t) h ∙ rw h

pub reports-young : (s : Settings) (n : ℕ) (ts : List Tracked) → reports_of s n (keep (is_young s) ts) ≡ reports_of s n ts
reports-young s n [] = refl
reports-young s n (t ∷ ts) = reports-one s n t ts (keep (is_young s) ts) (reports-young s n ts)

-- ---- lengths

write-one-length : (n : ℕ) (e : Entry) (es : List Entry) (ih : (r : List Slot) → length (write n es r) ≡ length es) (q : Status) (ss : List Slot)
    → length (written n q e ss (λ r. write n es r)) ≡ suc (length es)
write-one-length n e es ih open' [] = ap suc (ih [])
write-one-length n e es ih open' (a ∷ ss) = ap suc (ih ss)
write-one-length n e es ih broken ss = ap suc (ih ss)
write-one-length n e es ih agedOut ss = ap suc (ih ss)

pub write-length : (n : ℕ) (es : List Entry) (ss : List Slot) → length (write n es ss) ≡ length es
write-length n [] ss = refl
write-length n (e ∷ es) ss = write-one-length n e es (write-length n es) e.status ss

pub opened-length : (n i : ℕ) (os : List Obj) → length (opened n i os) ≡ length os
opened-length n i [] = refl
opened-length n i (o ∷ os) = ap suc (opened-length n (suc i) os)

-- ---- a call

abbrev pub out_of : Settings → Out Book → Out Tracker
out_of s o = record { reply = o.reply; next = book_state s o.next }

module _ (s : Settings) (fine : in_range s ≡ true) (b : Book) (input : List Float) where
  settled_is : (es : List Entry) (w : Work) (full : Bool) → length w.slots ≡ length (live es) → length es ≡ length b.entries
      → settled (book_state s b) (map (foretold s fine) (live es)) w full ≡ out_of s (entered s b input es w full)
  unfolding book_state state_of
  settled_is es w true h l = refl
  settled_is es w false h l = λ j. record { reply = reports (replies j); next = state_of s n (issued j) (tracks j) }
    where
      n : ℕ
      n = b.frames + 1

      all : List Entry
      all = write n es w.slots ++ opened n (length es) w.left

      given-all : List Tracked
      given-all = give_all s.delta_t (map (foretold s fine) (live es)) w.slots ++ births (length b.entries) w.left

      as-tracks : map (track_of s) (live all) ≡ given-all
      as-tracks =
          ap (map (track_of s)) (keep_append (λ (e : Entry). is_open e.status) (write n es w.slots) (opened n (length es) w.left))
          ∙ map-append (track_of s) (live (write n es w.slots)) (live (opened n (length es) w.left))
          ∙ ap₂ ◌++◌ (live_written s fine n es w.slots h) (live-opened s fine n (length es) w.left ∙ ap (λ (i : ℕ). births i w.left) l)

      tracks : keep (is_young s) given-all ≡ map (track_of s) (live (map (age_entry s) all))
      tracks = ap (keep (is_young s)) (sym as-tracks) ∙ sym (live-aged s fine all)

      replies : reports_of s n given-all ≡ reports_of s n (map (track_of s) (live (map (age_entry s) all)))
      replies = sym (reports-young s n given-all) ∙ ap (reports_of s n) tracks

      issued : length b.entries + length w.left ≡ length (map (age_entry s) all)
      issued = omega (arith, length-map all (age_entry s), length-append (write n es w.slots) (opened n (length es) w.left), write-length n es w.slots, opened-length n (length es) w.left, l)

map_same : {A B : Type 0} (f g : A → B) → ((x : A) → f x ≡ g x) → (xs : List A) → map f xs ≡ map g xs
map_same f g h [] = refl
map_same f g h (x ∷ xs) = ap₂ ◌∷◌ (h x) (map_same f g h xs)

module _ (s : Settings) (fine : in_range s ≡ true) (b : Book) (c : Call) where
  -- the frame over the tracks left after prediction, whatever led to them
  abbrev over : List Tracked → List View → Out Tracker
  over ts vs = let w = rounds s vs (objects_of c.input) in settled (book_state s b) ts w (ltb 64 (length ts + length w.left))

  abbrev es' : List Entry
  es' = map (break_entry s) b.entries

  foreseen-views : map (tracked_view s) (map (foretold s fine) (live es')) ≡ map (view_of_entry s) (live es')
  foreseen-views = map-map (tracked_view s) (foretold s fine) (live es') ∙ map_same (λ e. tracked_view s (foretold s fine e)) (view_of_entry s) (views-alike s fine) (live es')

  accepted-over : accepted_frame (book_state s b) c.input ≡ over (map (foretold s fine) (live es')) (map (view_of_entry s) (live es'))
  unfolding book_state state_of
  accepted-over =
      ap (λ (ts : List Tracked). over (predicted_tracks ts) (map (tracked_view s) (predicted_tracks ts))) (live_of s b.frames (length b.entries) (map (track_of s) (live b.entries)))
      ∙ ap (λ (ts : List Tracked). over ts (map (tracked_view s) ts)) (kept-alike s fine b.entries)
      ∙ ap (over (map (foretold s fine) (live es'))) foreseen-views

  enter-at : (r : Option Refusal) → frame_at (book_state s b) c r ≡ out_of s (enter_at s b c r)
  enter-at (Some r) = refl
  enter-at None =
      let w : Work = rounds_of s es' c.input in
      let l : length (map (foretold s fine) (live es')) ≡ length (live es') = length-map (live es') (foretold s fine) in
      accepted-over
      ∙ ap (λ (n : ℕ). settled (book_state s b) (map (foretold s fine) (live es')) w (ltb 64 (n + length w.left))) l
      ∙ settled_is s fine b c.input es' w (ltb 64 (length (live es') + length w.left))
      (rounds-length s (map (view_of_entry s) (live es')) (objects_of c.input) ∙ length-map (live es') (view_of_entry s)) (length-map b.entries (break_entry s))

  frames-alike : (book_state s b).frames ≡ b.frames
  unfolding book_state state_of
  frames-alike = refl

  pub alike : state_rules (book_state s b) ≡ true → frame_of (book_state s b) c ≡ out_of s (enter s b c)
  unfolding frame_of enter
  alike h =
      ap (λ (t : Bool). frame_at (book_state s b) c (pick t (early (book_state s b).frames c) (Some UnsoundState))) h
      ∙ ap (λ (n : ℕ). frame_at (book_state s b) c (early n c)) frames-alike
      ∙ enter-at (early b.frames c)
