-- Every call keeps the laws of the book, whatever it is fed. Assumes nothing.
use Rattle.std.specs.Prelude.{Option, Some, None}
use mathlib.Core.Path.{◌≡◌, refl, sym, ap, ap₂, subst, ◌∙◌}
use mathlib.Core.Bool.{Bool, true, false}
use mathlib.Core.List.{List, [], ◌∷◌, ◌++◌, map}
use Prim.Native.Nat.{ℕ, suc, ◌+◌, ◌/◌, ◌≤◌, ◌<◌}
use native.Mathlib.Omega.{arith}
use lib.Dec.{eqb}
use lib.Ieee.{Float}
use lib.ListN.{length}
use borrow.Author.Tests.{eqb-true, eq-eqb, ne_eqb}
use Rattle.lists.specs.Lists.{pick, sum_of, All}
use Rattle.lists.proofs.All.{all_map, all_any, sum-append, sum-map, sum-zero}
use Rattle.frame.specs.declared.Settings.{Settings}
use Rattle.frame.specs.Objects.{Obj, detection_at}
use Rattle.frame.specs.Rounds.{View, Grant, Slot, Work}
use Rattle.run_book.specs.Book.{Stamped, Line, Status, open', broken, agedOut, Entry, none_yet, live, closed_by, with_status, breaks, break_entry, is_old, age_entry, view_of_entry, next_line, with_line, write, opened, entries_after}
use Rattle.run_book.specs.Claim.{input_of, in_entry, times_written, boxes_of, of_frame, line_of_frame, boxes_in_frame, Meets, Overlapped, Because}
use Rattle.run_book.specs.Laws.{PlacedAt, Placed, Genuine, Tidy, Laws}
use Rattle.frame.proofs.Seats.{Passed, got-weight, slot-weight, Got}
use Rattle.run_book.proofs.Writing.{hit, count-write, count-opened}
use Rattle.run_book.proofs.Places.{at, OfInput}

pub at_first : (s : Settings) → Laws s none_yet
unfolding times_written
at_first s = record {
  counted = refl;
  in_sequence = refl;
  tidy = tt;
  unwritten = λ k p l. refl;
  overlapped = tt;
  placed = tt;
  genuine = tt;
  caused = tt;
  lived = tt;
  spanned = tt;
}

-- ---- one box a frame

frame-cases : (n k a c : ℕ) (q : Bool) → eqb (n + 1) k ≡ q → (a + c ≤ 1) → (n < k → a + c ≡ 0) → (a + (pick q 1 0 + c) ≤ 1) × (n + 1 < k → a + (pick q 1 0 + c) ≡ 0)
frame-cases n k a c true e h z =
    let here : n + 1 ≡ k = eqb-true (n + 1) k e in
    let none_before : a + c ≡ 0 = z (omega arith) in
    (omega arith, λ l. omega arith)
frame-cases n k a c false e h z = (omega arith, λ l. omega (arith, z (omega arith)))

pub tidy-line : (n : ℕ) (e : Entry) (g : Option Grant) → Tidy n e → Tidy (n + 1) (with_line e (next_line (n + 1) g))
unfolding boxes_in_frame
tidy-line n e None t k = go (of_frame k e.birth) (sum_of (line_of_frame k) e.lines) (t k).0 (t k).1
  where
    go : (a c : ℕ) → (a + c ≤ 1) → (n < k → a + c ≡ 0) → (a + (0 + c) ≤ 1) × (n + 1 < k → a + (0 + c) ≡ 0)
    go a c h z = (omega arith, λ l. omega (arith, z (omega arith)))
tidy-line n e (Some g) t k = frame-cases n k (of_frame k e.birth) (sum_of (line_of_frame k) e.lines) (eqb (n + 1) k) refl (t k).0 (t k).1

pub tidy-more : (n : ℕ) (e : Entry) → Tidy n e → Tidy (n + 1) e
tidy-more n e t k = ((t k).0, λ l. (t k).1 (omega arith))

pub tidy-opened : (n i : ℕ) (os : List Obj) → All (Tidy (n + 1)) (opened (n + 1) i os)
unfolding boxes_in_frame
tidy-opened n i [] = tt
tidy-opened n i (o ∷ os) = (λ k. first k, tidy-opened n (suc i) os)
  where
    first : (k : ℕ) → (pick (eqb (n + 1) k) 1 0 + 0 ≤ 1) × (n + 1 < k → pick (eqb (n + 1) k) 1 0 + 0 ≡ 0)
    first k = let r = frame-cases n k 0 0 (eqb (n + 1) k) refl (omega arith) (λ l. omega arith) in (omega (arith, r.0), λ l. omega (arith, r.1 l))

pub tidy-status : (n : ℕ) (f : Entry → Status) (es : List Entry) → All (Tidy n) es → All (Tidy n) (map (λ (e : Entry). with_status e (f e)) es)
unfolding boxes_in_frame
tidy-status n f es a = all_map (Tidy n) (Tidy n) (λ (e : Entry). with_status e (f e)) (λ e h. h) es a

-- ---- pairs

abbrev pub Over : Settings → Entry → Type 0
Over s e = Overlapped s e.id e.birth e.lines

pub over-line : (s : Settings) (n : ℕ) (e : Entry) (v : View) (g : Option Grant) → v ≡ view_of_entry s e → Passed (Meets s) v g → Over s e → Over s (with_line e (next_line n g))
unfolding view_of_entry
over-line s n e v None h f o = o
over-line s n e v (Some g) h f o = (subst (λ (u : View). Meets s g.round g.obj u) h f, o)

pub over-opened : (s : Settings) (n i : ℕ) (os : List Obj) → All (Over s) (opened n i os)
over-opened s n i [] = tt
over-opened s n i (o ∷ os) = (tt, over-opened s n (suc i) os)

-- ---- status

-- a closed entry has its cause
abbrev Shut : Settings → Entry → Status → Type 0
Shut s e open' = Unit {0}
Shut s e broken = (breaks s e ≡ true) × (is_old s e ≡ false)
Shut s e agedOut = is_old s e ≡ true

abbrev pub ShutEntry : Settings → Entry → Type 0
ShutEntry s e = Shut s e e.status

module _ (s : Settings) where
  pub shut-break : (e : Entry) → Because s e e.status → ShutEntry s (break_entry s e)
  unfolding breaks is_old
  shut-break e h = go e.status (breaks s e) refl h
    where
      go : (q : Status) (t : Bool) → breaks s e ≡ t → Because s e q → Shut s (with_status e (closed_by broken q t)) (closed_by broken q t)
      go open' true b h = (b, h)
      go open' false b h = tt
      go broken t b h = h
      go agedOut t b h = h

  pub shut-age : (e : Entry) → ShutEntry s e → Because s (age_entry s e) (age_entry s e).status
  unfolding breaks is_old
  shut-age e h = go e.status (is_old s e) refl h
    where
      go : (q : Status) (t : Bool) → is_old s e ≡ t → Shut s e q → Because s (with_status e (closed_by agedOut q t)) (closed_by agedOut q t)
      go open' true b h = b
      go open' false b h = b
      go broken t b h = h
      go agedOut t b h = h

  pub shut-line : (n : ℕ) (e : Entry) (l : Line) → e.status ≡ open' → ShutEntry s (with_line e l)
  shut-line n e l o = subst (λ (q : Status). Shut s (with_line e l) q) (sym o) tt

  pub shut-opened : (n i : ℕ) (os : List Obj) → All (ShutEntry s) (opened n i os)
  shut-opened n i [] = tt
  shut-opened n i (o ∷ os) = (tt, shut-opened n (suc i) os)

-- ---- genuine boxes

abbrev pub GenuineEntry : List (List Float) → Entry → Type 0
GenuineEntry past e = All (Genuine past) (boxes_of e.birth e.lines)

module _ (input : List Float) (past : List (List Float)) where
  -- a box of an older frame stays so
  genuine-more : (b : Stamped) → Genuine past b → Genuine (input ∷ past) b
  genuine-more b g =
      let e : input_of (input ∷ past) b.frame ≡ input_of past b.frame = rw (ne_eqb b.frame (suc (length past)) (λ q. omega (arith, q, g.in_run))) in
      record {
        numbers = g.numbers ∙ ap (λ (l : List Float). detection_at l b.obj.place) (sym e);
        in_frame = subst (λ (l : List Float). b.obj.place < length l / 5) (sym e) g.in_frame;
        in_run = omega (arith, g.in_run);
      }

  pub all-genuine-more : (bs : List Stamped) → All (Genuine past) bs → All (Genuine (input ∷ past)) bs
  all-genuine-more [] a = tt
  all-genuine-more (b ∷ bs) a = (genuine-more b a.0, all-genuine-more bs a.1)

  genuine-now : (n : ℕ) → n ≡ suc (length past) → (o : Obj) → OfInput input o → Genuine (input ∷ past) (record { frame = n; obj = o })
  genuine-now n e o h =
      let i : input_of (input ∷ past) n ≡ input = rw (eq-eqb n (suc (length past)) e) in
      record {
        numbers = h.0 ∙ ap (λ (l : List Float). detection_at l o.place) (sym i);
        in_frame = subst (λ (l : List Float). o.place < length l / 5) (sym i) h.1;
        in_run = omega (arith, e);
      }

  pub genuine-line : (n : ℕ) → n ≡ suc (length past) → (e : Entry) (g : Option Grant) → Got (OfInput input) g → GenuineEntry past e → GenuineEntry (input ∷ past) (with_line e (next_line n g))
  genuine-line n q e None h a = all-genuine-more (boxes_of e.birth e.lines) a
  genuine-line n q e (Some g) h a = (genuine-now n q g.obj h, all-genuine-more (boxes_of e.birth e.lines) a)

  pub genuine-opened : (n : ℕ) → n ≡ suc (length past) → (i : ℕ) (os : List Obj) → All (OfInput input) os → All (GenuineEntry (input ∷ past)) (opened n i os)
  genuine-opened n q i [] a = tt
  genuine-opened n q i (o ∷ os) a = ((genuine-now n q o a.0, tt), genuine-opened n q (suc i) os a.1)

-- ---- written anew by a frame

pub written_after : (s : Settings) (n : ℕ) (es : List Entry) (w : Work) (k p : ℕ) → length w.slots ≡ length (live es)
    → times_written k p (entries_after s n es w) ≡ times_written k p es + (sum_of (slot-weight (hit k p n)) w.slots + sum_of (hit k p n) w.left)
unfolding times_written
written_after s n es w k p h =
    sum-map (in_entry k p) (age_entry s) (write n es w.slots ++ opened n (length es) w.left)
    ∙ sum-append (in_entry k p) (write n es w.slots) (opened n (length es) w.left)
    ∙ ap₂ ◌+◌ (count-write k p n es w.slots h) (count-opened k p n (length es) w.left)
    ∙ omega arith

-- nothing of another frame is written, and of this one each object where it went
hit_other : (k p n : ℕ) (o : Obj) → (n ≡ k → ⊥) → hit k p n o ≡ 0
hit_other k p n o h = rw (ne_eqb n k h)

pub hit-now : (n p : ℕ) (o : Obj) → hit n p n o ≡ at p o
hit-now n p o = rw (eq-eqb n n refl)

slot-other : (k p n : ℕ) (a : Slot) → (n ≡ k → ⊥) → slot-weight (hit k p n) a ≡ 0
slot-other k p n a h = go a.got
  where
    go : (g : Option Grant) → got-weight (hit k p n) g ≡ 0
    go None = refl
    go (Some g) = hit_other k p n g.obj h

pub written-other : (s : Settings) (n : ℕ) (es : List Entry) (w : Work) (k p : ℕ) → length w.slots ≡ length (live es) → (n ≡ k → ⊥) → times_written k p (entries_after s n es w) ≡ times_written k p es
written-other s n es w k p h d =
    written_after s n es w k p h
    ∙ omega (arith, sum-zero (slot-weight (hit k p n)) w.slots (all_any (λ a. slot-other k p n a d) w.slots), sum-zero (hit k p n) w.left (all_any (λ o. hit_other k p n o d) w.left))

pub written-status : (f : Entry → Status) (k p : ℕ) (es : List Entry) → times_written k p (map (λ (e : Entry). with_status e (f e)) es) ≡ times_written k p es
unfolding times_written
written-status f k p es = sum-map (in_entry k p) (λ (e : Entry). with_status e (f e)) es

placed_same : (s : Settings) (es fs : List Entry) (n : ℕ) (input : List Float) (p : ℕ) → times_written n p fs ≡ times_written n p es → PlacedAt s es n input p → PlacedAt s fs n input p
placed_same s es fs n input p e a = record {
  first-class = λ l t. e ∙ a.first-class l t;
  spare = λ l t. omega (arith, e, a.spare l t);
  dropped = λ f g. e ∙ a.dropped f g;
  past_end = λ l. e ∙ a.past_end l;
}

pub placed-old : (s : Settings) (es fs : List Entry) (past : List (List Float)) → ((k p : ℕ) → k ≤ length past → times_written k p fs ≡ times_written k p es) → Placed s es past → Placed s fs past
placed-old s es fs [] h a = tt
placed-old s es fs (input ∷ past) h a = (λ p. placed_same s es fs (suc (length past)) input p (h (suc (length past)) p (omega arith)) (a.0 p), placed-old s es fs past (λ k p l. h k p (omega arith)) a.1)
