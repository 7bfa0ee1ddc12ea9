-- An accepted frame keeps the laws of the book; so does every call. Assumes nothing.
use Rattle.std.specs.Prelude.{Option, Some, None}
use mathlib.Core.Path.{◌≡◌, refl, sym, ap, ap₂, subst, ◌∙◌}
use mathlib.Core.Bool.{Bool, true, false, ◌&&◌}
use mathlib.Core.List.{List, [], ◌∷◌, ◌++◌, map}
use Prim.Native.Nat.{ℕ, suc, ◌+◌, ◌/◌, ◌≤◌}
use native.Mathlib.Nat.{zero-add}
use native.Mathlib.Omega.{arith}
use lib.Dec.{T, ltb}
use lib.Ieee.{Float}
use Rattle.std.specs.Prelude.{Err, IsOk}
use lib.ListN.{length, length-append, length-map}
use borrow.Author.Tests.{lt-ltb, le-ltb}
use Rattle.lists.specs.Lists.{pick, sum_of, up_from, All}
use Rattle.lists.proofs.All.{all_map, all_append, all_any, map-append, sum_same, up_from-append}
use Rattle.object.specs.declared.Refusal.{Refusal}
use Rattle.object.specs.declared.Refusal.TheVariants.{FullTable}
use Rattle.frame.specs.declared.Settings.{Settings}
use Rattle.frame.specs.State.{in_range}
use Rattle.frame.specs.Objects.{Obj, detection_at, objects_of, first_score, spare_score, first_class, spares}
use Rattle.frame.specs.Rounds.{View, Slot, Work, byte_objects}
use Rattle.frame.specs.Frame.{Call, early}
use Rattle.frame.specs.Contract.{outcome_of}
use Rattle.run_book.specs.Book.{broken, agedOut, Entry, Book, live, closed_by, breaks, break_entry, is_old, age_entry, view_of_entry, next_line, write, opened, entries_after, entered, rounds_of, enter_at, enter}
use Rattle.run_book.specs.Claim.{times_written, boxes_of, Meets, Because, Grown}
use Rattle.run_book.specs.Laws.{score_at, PlacedAt, Tidy, Laws}
use Rattle.frame.proofs.Seats.{rounds-length, Fairly, slot-weight, GotSlot}
use Rattle.lapjv_walk.proofs.Cases.{never}
use Rattle.run_book.proofs.Rounds.{rounds-views, rounds-fairly, rounds-weight, rounds-from}
use Rattle.run_book.proofs.Sim.{write-length, opened-length}
use Rattle.run_book.proofs.Writing.{write-all, ids, ids-status, ids-write, ids-opened, hit, grown-write, born-opened}
use Rattle.run_book.proofs.Lines.{all_both, LivedEntry, Fit, fit-break, fit_line, lived-opened, Spanned, BetweenEntry, span-break, span-stays, span-line, span-age, span-opened, all-current}
use Rattle.run_book.proofs.Places.{at, sum-places, OfInput, objects-of-input}
use Rattle.run_book.proofs.Laws.{Over, over-line, over-opened, tidy-line, tidy-more, tidy-opened, tidy-status, ShutEntry, shut-break, shut-age, shut-line, shut-opened, GenuineEntry, all-genuine-more, genuine-line, genuine-opened, written_after, hit-now, written-other, written-status, placed-old}

refused-accepted : {A : Type 0} (r : Refusal) → IsOk {T = ℕ} (Err r) → A
refused-accepted r e = absurd (let z : ◌≡◌ {A = ℕ} 0 1 = cc in omega arith)

-- ---- what a place weighs

T_true : (b : Bool) → T b → b ≡ true
T_true true t = refl
T_true false t = absurd t

module _ (s : Settings) (input : List Float) (p : ℕ) where
  abbrev k : ℕ
  k = length input / 5

  first-weight : sum_of (at p) (first_class s (objects_of input)) ≡ pick (ltb p k && first_score s (score_at input p)) 1 0
  unfolding objects_of detection_at
  first-weight = sum-places input (λ (o : Obj). first_score s o.det.score) p k

  spare-weight : sum_of (at p) (spares s (objects_of input)) ≡ pick (ltb p k && spare_score s (score_at input p)) 1 0
  unfolding objects_of detection_at
  spare-weight = sum-places input (λ (o : Obj). spare_score s o.det.score) p k

  byte-weight : sum_of (at p) (byte_objects s (objects_of input)) ≤ pick (ltb p k && spare_score s (score_at input p)) 1 0
  byte-weight = go s.use_byte
    where
      go : (t : Bool) → sum_of (at p) (pick t (spares s (objects_of input)) []) ≤ pick (ltb p k && spare_score s (score_at input p)) 1 0
      go true = omega (arith, spare-weight)
      go false = omega arith

  not-both : first_score s (score_at input p) ≡ true → spare_score s (score_at input p) ≡ false
  unfolding spare_score
  not-both e = rw e

  not_first : spare_score s (score_at input p) ≡ true → first_score s (score_at input p) ≡ false
  not_first e = go (first_score s (score_at input p)) refl
    where
      go : (t : Bool) → first_score s (score_at input p) ≡ t → t ≡ false
      go true q = never (sym (not-both q) ∙ e)
      go false q = refl

  -- what is written of a place, where what went out and what is left add up
  placed_by : (es : List Entry) (n t m F S : ℕ) → times_written n p es ≡ t → t + m ≡ F + S → m ≤ S
      → F ≡ pick (ltb p k && first_score s (score_at input p)) 1 0 → S ≤ pick (ltb p k && spare_score s (score_at input p)) 1 0 → PlacedAt s es n input p
  placed_by es n t m F S w e l f g = record {
    first-class = λ h q.
        let a : first_score s (score_at input p) ≡ true = T_true _ q in
        let F₁ : F ≡ 1 = rw (lt-ltb p k h, a) at f in
        let S₀ : S ≤ 0 = rw (lt-ltb p k h, not-both a) at g in
        omega arith;
    spare = λ h q.
        let a : spare_score s (score_at input p) ≡ true = T_true _ q in
        let F₀ : F ≡ 0 = rw (lt-ltb p k h, not_first a) at f in
        let S₁ : S ≤ 1 = rw (lt-ltb p k h, a) at g in
        omega arith;
    dropped = λ a b.
        let F₀ : F ≡ 0 = f ∙ nothing (ltb p k) (first_score s (score_at input p)) a in
        let S₀ : S ≤ 0 = omega (arith, g, nothing (ltb p k) (spare_score s (score_at input p)) b) in
        omega arith;
    past_end = λ h.
        let F₀ : F ≡ 0 = rw (le-ltb p k h) at f in
        let S₀ : S ≤ 0 = rw (le-ltb p k h) at g in
        omega arith;
  }
    where
      nothing : (a b : Bool) → b ≡ false → ◌≡◌ {A = ℕ} (pick (a && b) 1 0) 0
      nothing true b e = rw e
      nothing false b e = refl

-- ---- an accepted frame

module _ (s : Settings) (fine : in_range s ≡ true) (b : Book) (c : Call) (ok : Laws s b) where
  abbrev es : List Entry
  es = map (break_entry s) b.entries

  abbrev os : List Obj
  os = objects_of c.input

  abbrev vs : List View
  vs = map (view_of_entry s) (live es)

  abbrev w : Work
  w = rounds_of s es c.input

  abbrev n : ℕ
  n = b.frames + 1

  abbrev after : List Entry
  after = entries_after s n es w

  slots-live : length w.slots ≡ length (live es)
  slots-live = rounds-length s vs os ∙ length-map (live es) (view_of_entry s)

  slots-views : map (λ (a : Slot). a.view) w.slots ≡ vs
  slots-views = rounds-views s fine vs os

  placed-now : (p : ℕ) → PlacedAt s after n c.input p
  placed-now p =
      let f : Obj → ℕ = hit n p n in
      let r = rounds-weight s fine vs os f in
      let before : times_written n p es ≡ 0 = written-status (λ e. closed_by broken e.status (breaks s e)) n p b.entries ∙ ok.unwritten n p (omega arith) in
      let now : times_written n p after ≡ sum_of (slot-weight f) w.slots + sum_of f w.left = written_after s n es w n p slots-live ∙ omega (arith, before) in
      placed_by s c.input p after n (sum_of (slot-weight f) w.slots + sum_of f w.left) r.0 (sum_of f (first_class s os)) (sum_of f (byte_objects s os)) now r.1 r.2
      (sum_same f (at p) (hit-now n p) (first_class s os) ∙ first-weight s c.input p)
      (omega (arith, sum_same f (at p) (hit-now n p) (byte_objects s os), byte-weight s c.input p))

  abbrev fresh : List Entry
  fresh = opened n (length es) w.left

  tidy-after : All (Tidy n) after
  tidy-after =
      tidy-status n (λ e. closed_by agedOut e.status (is_old s e)) (write n es w.slots ++ fresh)
      (all_append (Tidy n) (write n es w.slots) fresh
      (write-all s (Fairly (Meets s)) n (Tidy b.frames) (Tidy n) (λ e c. tidy-more b.frames e) (λ e a o v f t. tidy-line b.frames e a.got t) es w.slots slots-views (rounds-fairly s fine vs os)
      (tidy-status b.frames (λ e. closed_by broken e.status (breaks s e)) b.entries ok.tidy))
      (tidy-opened b.frames (length es) w.left))

  over-after : All (Over s) after
  over-after =
      all_map (Over s) (Over s) (age_entry s) (λ e h. h) (write n es w.slots ++ fresh)
      (all_append (Over s) (write n es w.slots) fresh
      (write-all s (Fairly (Meets s)) n (Over s) (Over s) (λ e c h. h) (λ e a o v f t. over-line s n e a.view a.got v f t) es w.slots slots-views (rounds-fairly s fine vs os)
      (all_map (Over s) (Over s) (break_entry s) (λ e h. h) b.entries ok.overlapped))
      (over-opened s n (length es) w.left))

  caused-after : All (λ e. Because s e e.status) after
  caused-after =
      all_map (ShutEntry s) (λ e. Because s e e.status) (age_entry s) (shut-age s) (write n es w.slots ++ fresh)
      (all_append (ShutEntry s) (write n es w.slots) fresh
      (write-all s (Fairly (Meets s)) n (ShutEntry s) (ShutEntry s) (λ e c h. h) (λ e a o v f t. shut-line s n e (next_line n a.got) o) es w.slots slots-views (rounds-fairly s fine vs os)
      (all_map (λ e. Because s e e.status) (ShutEntry s) (break_entry s) (shut-break s) b.entries ok.caused))
      (shut-opened s n (length es) w.left))

  this-frame : n ≡ suc (length b.past)
  this-frame = omega (arith, ok.counted)

  genuine-after : All (GenuineEntry (c.input ∷ b.past)) after
  genuine-after =
      let r = rounds-from s fine vs os (OfInput c.input) (objects-of-input c.input) in
      let G : Entry → Type 0 = GenuineEntry (c.input ∷ b.past) in
      all_map G G (age_entry s) (λ e h. h) (write n es w.slots ++ fresh)
      (all_append G (write n es w.slots) fresh
      (write-all s (GotSlot (OfInput c.input)) n (GenuineEntry b.past) G (λ e q h. all-genuine-more c.input b.past (boxes_of e.birth e.lines) h) (λ e a o v f t. genuine-line c.input b.past n this-frame e a.got f t) es w.slots slots-views r.0
      (all_map (GenuineEntry b.past) (GenuineEntry b.past) (break_entry s) (λ e h. h) b.entries ok.genuine))
      (genuine-opened c.input b.past n this-frame (length es) w.left r.1))

  lived-after : All (LivedEntry s) after
  lived-after =
      all_map (LivedEntry s) (LivedEntry s) (age_entry s) (λ e h. h) (write n es w.slots ++ fresh)
      (all_append (LivedEntry s) (write n es w.slots) fresh
      (write-all s (λ a. Unit {0}) n (Fit s) (LivedEntry s) (λ e c h. h.0) (λ e a o v f h. fit_line s e (next_line n a.got) o h) es w.slots slots-views (all_any (λ a. tt) w.slots)
      (all_map (λ e. Because s e e.status × LivedEntry s e) (Fit s) (break_entry s) (fit-break s) b.entries (all_both (λ e. Because s e e.status) (LivedEntry s) b.entries ok.caused ok.lived)))
      (lived-opened s n (length es) w.left))

  spanned-after : All (Spanned n) after
  spanned-after =
      all_map (Spanned n) (Spanned n) (age_entry s) (span-age s n) (write n es w.slots ++ fresh)
      (all_append (Spanned n) (write n es w.slots) fresh
      (write-all s (λ a. Unit {0}) n (BetweenEntry b.frames) (Spanned n) (span-stays s b.frames) (λ e a o v f h. span-line s b.frames e a.got o h) es w.slots slots-views (all_any (λ a. tt) w.slots)
      (all_map (Spanned b.frames) (BetweenEntry b.frames) (break_entry s) (span-break s b.frames) b.entries ok.spanned))
      (span-opened n (length es) w.left))

  length-after : length after ≡ length b.entries + length w.left
  length-after = omega (arith, length-map (write n es w.slots ++ fresh) (age_entry s), length-append (write n es w.slots) fresh, write-length n es w.slots, opened-length n (length es) w.left, length-map b.entries (break_entry s))

  ids-after : ids after ≡ up_from 0 (length after)
  ids-after =
      ids-status (λ e. closed_by agedOut e.status (is_old s e)) (write n es w.slots ++ fresh)
      ∙ map-append (λ (e : Entry). e.id) (write n es w.slots) fresh
      ∙ ap₂ ◌++◌ (ids-write n es w.slots ∙ ids-status (λ e. closed_by broken e.status (breaks s e)) b.entries ∙ ok.in_sequence)
      (ids-opened n (length es) w.left ∙ ap (λ (i : ℕ). up_from i (length w.left)) (length-map b.entries (break_entry s) ∙ sym (zero-add (length b.entries))))
      ∙ up_from-append 0 (length b.entries) (length w.left)
      ∙ ap (up_from 0) (sym length-after)

  accepted-laws : Laws s (record { frames = n; past = c.input ∷ b.past; entries = after })
  accepted-laws = record {
    counted = omega (arith, ok.counted);
    in_sequence = ids-after;
    tidy = tidy-after;
    unwritten = λ k p l. written-other s n es w k p slots-live (λ e. omega (arith, e, l)) ∙ written-status (λ e. closed_by broken e.status (breaks s e)) k p b.entries ∙ ok.unwritten k p (omega arith);
    overlapped = over-after;
    placed = (
      λ p. subst (λ (m : ℕ). PlacedAt s after m c.input p) this-frame (placed-now p),
      placed-old s b.entries after b.past (λ k p l. written-other s n es w k p slots-live (λ e. omega (arith, e, l, ok.counted)) ∙ written-status (λ e. closed_by broken e.status (breaks s e)) k p b.entries) ok.placed,
    );
    genuine = genuine-after;
    caused = caused-after;
    lived = lived-after;
    spanned = spanned-after;
  }

-- ---- every call

entered-laws : (s : Settings) → in_range s ≡ true → (b : Book) (c : Call) → Laws s b → (r : Option Refusal) → Laws s (enter_at s b c r).next
entered-laws s fine b c ok (Some r) = ok
entered-laws s fine b c ok None = go (ltb 64 (length (live es') + length (rounds_of s es' c.input).left))
  where
    es' : List Entry
    es' = map (break_entry s) b.entries

    go : (full : Bool) → Laws s (entered s b c.input es' (rounds_of s es' c.input) full).next
    go true = ok
    go false = accepted-laws s fine b c ok

pub kept_laws : (s : Settings) → in_range s ≡ true → (b : Book) (c : Call) → Laws s b → Laws s (enter s b c).next
unfolding enter
kept_laws s fine b c ok = entered-laws s fine b c ok (early b.frames c)

-- ---- growth

-- an accepted call, by its reply
entered-grown : (s : Settings) (b : Book) (c : Call) → Laws s b → (r : Option Refusal) → IsOk (outcome_of (enter_at s b c r).reply) → Grown (enter_at s b c r).next.frames b.entries (enter_at s b c r).next.entries
entered-grown s b c ok (Some r) h = refused-accepted r h
entered-grown s b c ok None h = go (ltb 64 (length (live es') + length w.left)) h
  where
    es' : List Entry
    es' = map (break_entry s) b.entries

    w : Work
    w = rounds_of s es' c.input

    go : (full : Bool) → IsOk (outcome_of (entered s b c.input es' w full).reply) → Grown (entered s b c.input es' w full).next.frames b.entries (entered s b c.input es' w full).next.entries
    go true q = refused-accepted FullTable q
    go false q = grown-write s b.frames b.entries w.slots (opened (b.frames + 1) (length es') w.left)
        (rounds-length s (map (view_of_entry s) (live es')) (objects_of c.input) ∙ length-map (live es') (view_of_entry s)) (born-opened s b.frames (length es') w.left) (all-current s b.frames b.entries ok.spanned)

pub enter-grown : (s : Settings) (b : Book) (c : Call) → Laws s b → IsOk (outcome_of (enter s b c).reply) → Grown (enter s b c).next.frames b.entries (enter s b c).next.entries
unfolding enter
enter-grown s b c ok h = entered-grown s b c ok (early b.frames c) h
