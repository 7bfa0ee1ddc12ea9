-- What writing a frame into the book does, entry by entry: ids, counts, growth, and any property that each line keeps. Assumes nothing.
use Rattle.std.specs.Prelude.{Option, Some, None}
use mathlib.Core.Path.{◌≡◌, refl, sym, ap, subst, ◌∙◌}
use mathlib.Core.Bool.{Bool, true, false}
use mathlib.Core.List.{List, [], ◌∷◌, ◌++◌, map, nil≢cons, head-eq_of_cons-eq, tail-eq_of_cons-eq}
use mathlib.Core.Logic.{◌≢◌}
use Prim.Native.Nat.{ℕ, suc, ◌+◌}
use native.Mathlib.Nat.{suc_inj}
use native.Mathlib.Omega.{arith}
use lib.ListN.{length}
use Rattle.lists.specs.Lists.{put, sum_of, up_from, All}
use Rattle.lists.proofs.All.{all_map}
use Rattle.frame.specs.declared.Settings.{Settings}
use Rattle.frame.specs.Objects.{Obj}
use Rattle.frame.specs.Rounds.{Grant, Slot}
use Rattle.run_book.specs.Book.{Line, Status, open', broken, agedOut, Entry, is_open, live, closed_by, with_status, breaks, break_entry, is_old, age_entry, view_of_entry, next_line, with_line, written, write, opened}
use Rattle.run_book.specs.Claim.{is_at, in_line, in_entry, last_frame, OneLine, Goes, Later, Grown}
use Rattle.frame.proofs.Seats.{got-weight, slot-weight}

pub shut : {A : Type 0} (q : Status) → is_open q ≡ false → q ≡ open' → A
shut q h e = absurd (let z : true ≡ false = ap is_open (sym e) ∙ h in let y : ◌≡◌ {A = ℕ} 0 1 = cc in omega arith)

-- ---- a property of each entry, where each open entry gets the slot with its view

module _ (s : Settings) (F : Slot → Type 0) (n : ℕ) (Q P : Entry → Type 0) (stays : (e : Entry) → is_open e.status ≡ false → Q e → P e)
    (gets : (e : Entry) (a : Slot) → e.status ≡ open' → a.view ≡ view_of_entry s e → F a → Q e → P (with_line e (next_line n a.got))) where
  write-one : (e : Entry) (es : List Entry) (q : Status) (ss : List Slot)
      → ((r : List Slot) → map (λ (a : Slot). a.view) r ≡ map (view_of_entry s) (live es) → All F r → All P (write n es r))
      → map (λ (a : Slot). a.view) ss ≡ map (view_of_entry s) (put (is_open q) (with_status e q) (live es)) → All F ss → Q (with_status e q)
      → All P (written n q (with_status e q) ss (λ r. write n es r))
  write-one e es open' [] ih h f x = absurd (nil≢cons h)
  write-one e es open' (a ∷ ss) ih h f x = (gets (with_status e open') a refl (head-eq_of_cons-eq h) f.0 x, ih ss (tail-eq_of_cons-eq h) f.1)
  write-one e es broken ss ih h f x = (stays (with_status e broken) refl x, ih ss h f)
  write-one e es agedOut ss ih h f x = (stays (with_status e agedOut) refl x, ih ss h f)

  pub write-all : (es : List Entry) (ss : List Slot) → map (λ (a : Slot). a.view) ss ≡ map (view_of_entry s) (live es) → All F ss → All Q es → All P (write n es ss)
  write-all [] ss h f a = tt
  write-all (e ∷ es) ss h f a = write-one e es e.status ss (λ r h' f'. write-all es r h' f' a.1) h f a.0

-- ---- ids

abbrev pub ids : List Entry → List ℕ
ids es = map (λ (e : Entry). e.id) es

pub ids-status : (f : Entry → Status) (es : List Entry) → ids (map (λ (e : Entry). with_status e (f e)) es) ≡ ids es
ids-status f [] = refl
ids-status f (e ∷ es) = ap (λ l. e.id ∷ l) (ids-status f es)

ids-write-one : (n : ℕ) (e : Entry) (es : List Entry) (q : Status) (ss : List Slot) → ((r : List Slot) → ids (write n es r) ≡ ids es) → ids (written n q e ss (λ r. write n es r)) ≡ e.id ∷ ids es
ids-write-one n e es open' [] ih = ap (λ l. e.id ∷ l) (ih [])
ids-write-one n e es open' (a ∷ ss) ih = ap (λ l. e.id ∷ l) (ih ss)
ids-write-one n e es broken ss ih = ap (λ l. e.id ∷ l) (ih ss)
ids-write-one n e es agedOut ss ih = ap (λ l. e.id ∷ l) (ih ss)

pub ids-write : (n : ℕ) (es : List Entry) (ss : List Slot) → ids (write n es ss) ≡ ids es
ids-write n [] ss = refl
ids-write n (e ∷ es) ss = ids-write-one n e es e.status ss (ids-write n es)

pub ids-opened : (n i : ℕ) (os : List Obj) → ids (opened n i os) ≡ up_from i (length os)
ids-opened n i [] = refl
ids-opened n i (o ∷ os) = ap (λ l. i ∷ l) (ids-opened n (suc i) os)

-- ---- how often an object is written

-- 1 where the object, taken in frame n, stands at place p of frame k
abbrev pub hit : ℕ → ℕ → ℕ → Obj → ℕ
hit k p n o = is_at k p (record { frame = n; obj = o })

line-weight : (k p n : ℕ) (g : Option Grant) → in_line k p (next_line n g) ≡ got-weight (hit k p n) g
line-weight k p n None = refl
line-weight k p n (Some g) = refl

abbrev Counts : ℕ → ℕ → ℕ → List Entry → List Slot → Type 0
Counts k p n es ss = sum_of (in_entry k p) (write n es ss) ≡ sum_of (in_entry k p) es + sum_of (slot-weight (hit k p n)) ss

count-one : (k p n : ℕ) (e : Entry) (es : List Entry) (q : Status) (ss : List Slot) → ((r : List Slot) → length r ≡ length (live es) → Counts k p n es r)
    → length ss ≡ length (put (is_open q) e (live es))
    → sum_of (in_entry k p) (written n q e ss (λ r. write n es r)) ≡ in_entry k p e + sum_of (in_entry k p) es + sum_of (slot-weight (hit k p n)) ss
count-one k p n e es open' [] ih h = absurd (let z : 0 ≢ suc (length (live es)) = omega arith in z h)
count-one k p n e es open' (a ∷ ss) ih h = rw (line-weight k p n a.got) (omega (arith, ih ss (suc_inj h)))
count-one k p n e es broken ss ih h = omega (arith, ih ss h)
count-one k p n e es agedOut ss ih h = omega (arith, ih ss h)

pub count-write : (k p n : ℕ) (es : List Entry) (ss : List Slot) → length ss ≡ length (live es) → Counts k p n es ss
count-write k p n [] [] h = refl
count-write k p n [] (a ∷ ss) h = absurd (let z : suc (length ss) ≢ 0 = omega arith in z h)
count-write k p n (e ∷ es) ss h = count-one k p n e es e.status ss (λ r. count-write k p n es r) h

pub count-opened : (k p n i : ℕ) (os : List Obj) → sum_of (in_entry k p) (opened n i os) ≡ sum_of (hit k p n) os
count-opened k p n i [] = refl
count-opened k p n i (o ∷ os) = omega (arith, count-opened k p n (suc i) os)

-- ---- growth

later-open : (n : ℕ) (e f : Entry) → e.status ≡ open' → f.id ≡ e.id → f.birth ≡ e.birth → Goes n e f f.status → Later n e f
later-open n e f o i b g = record { same_id = i; same_birth = b; open_goes = λ h. g; closed_stays = λ h. absurd (h o) }

-- a closed one, whatever its status is called
later-closed : (n : ℕ) (e : Entry) (q : Status) → is_open q ≡ false → e.status ≡ q → Later n e (with_status e q)
later-closed n e q c o = subst (λ (r : Status). Later n e (with_status e r)) o (record { same_id = refl; same_birth = refl; open_goes = λ h. shut q c (sym o ∙ h); closed_stays = λ h. refl })

module _ (s : Settings) (m : ℕ) where
  abbrev n : ℕ
  n = m + 1

  -- an open entry has a line for each frame before this one
  abbrev pub Current : Entry → Type 0
  Current e = e.status ≡ open' → last_frame e ≡ m

  abbrev pub Newborn : Entry → Type 0
  Newborn e = (e.birth.frame ≡ n) × (e.lines ≡ [])

  -- of the entries behind, whatever slots come to them and whatever is opened after
  abbrev Rest : List Entry → Type 0
  Rest es = (r : List Slot) (new : List Entry) → length r ≡ length (live (map (break_entry s) es)) → All Newborn new → All Current es → Grown n es (map (age_entry s) (write n (map (break_entry s) es) r ++ new))

  one_line : (e : Entry) (l : Line) → last_frame e ≡ m → OneLine n e (with_line e l)
  one_line e l c = ((l, refl), omega (arith, c))

  -- with its line, whether it ages out or not
  goes_on : (e : Entry) (l : Line) → last_frame e ≡ m → (q : Status) (t : Bool) → q ≡ open' → Goes n e (with_status (with_line e l) (closed_by agedOut q t)) (closed_by agedOut q t)
  goes_on e l c open' true o = one_line e l c
  goes_on e l c open' false o = one_line e l c
  goes_on e l c broken t o = shut broken refl o
  goes_on e l c agedOut t o = shut agedOut refl o

  grown-open : (e : Entry) (es : List Entry) (new : List Entry) → e.status ≡ open' → last_frame e ≡ m → (t : Bool) (ss : List Slot)
      → length ss ≡ length (put (is_open (closed_by broken open' t)) (with_status e (closed_by broken open' t)) (live (map (break_entry s) es))) → All Newborn new → All Current es → Rest es
      → Grown n (e ∷ es) (map (age_entry s) (written n (closed_by broken open' t) (with_status e (closed_by broken open' t)) ss (λ r. write n (map (break_entry s) es) r) ++ new))
  grown-open e es new o c true ss h b a ih = (later-open n e _ o refl refl (refl, omega (arith, c)), ih ss new h b a)
  grown-open e es new o c false [] h b a ih = absurd (let z : 0 ≢ suc (length (live (map (break_entry s) es))) = omega arith in z h)
  grown-open e es new o c false (x ∷ ss) h b a ih =
      let f : Entry = with_line (with_status e open') (next_line n x.got) in
      (later-open n e _ o refl refl (goes_on e (next_line n x.got) c open' (is_old s f) refl), ih ss new (suc_inj h) b a)

  grown-one : (e : Entry) (es : List Entry) (q : Status) (ss : List Slot) (new : List Entry) → e.status ≡ q
      → length ss ≡ length (put (is_open (closed_by broken q (breaks s e))) (with_status e (closed_by broken q (breaks s e))) (live (map (break_entry s) es))) → All Newborn new → All Current (e ∷ es) → Rest es
      → Grown n (e ∷ es) (map (age_entry s) (written n (closed_by broken q (breaks s e)) (with_status e (closed_by broken q (breaks s e))) ss (λ r. write n (map (break_entry s) es) r) ++ new))
  grown-one e es open' ss new o h b a ih = grown-open e es new o (a.0 o) (breaks s e) ss h b a.1 ih
  grown-one e es broken ss new o h b a ih = (later-closed n e broken refl o, ih ss new h b a.1)
  grown-one e es agedOut ss new o h b a ih = (later-closed n e agedOut refl o, ih ss new h b a.1)

  pub grown-write : (es : List Entry) → Rest es
  grown-write [] [] new h b a = all_map Newborn Newborn (age_entry s) (λ e x. x) new b
  grown-write [] (x ∷ r) new h b a = absurd (let z : suc (length r) ≢ 0 = omega arith in z h)
  grown-write (e ∷ es) r new h b a = grown-one e es e.status r new refl h b a (grown-write es)

  pub born-opened : (i : ℕ) (os : List Obj) → All Newborn (opened n i os)
  born-opened i [] = tt
  born-opened i (o ∷ os) = ((refl, refl), born-opened (suc i) os)
