-- What a round leaves: one object more, and marks that make no difference. Assumes nothing.
use mathlib.Core.Path.{◌≡◌, refl, sym, ap, ap₂, ◌∙◌}
use mathlib.Core.Bool.{Bool, true, false}
use mathlib.Core.List.{List, [], ◌∷◌, ◌++◌, map, append-nil}
use Prim.Native.Nat.{ℕ, ◌+◌, ◌≤◌, ◌<◌}
use native.Mathlib.Nat.{not-suc-le-zero, le_of_suc-le-suc, suc_inj}
use native.Mathlib.Numerals.{add-one}
use native.Mathlib.Omega.{arith}
use lib.Ieee.{Float}
use lib.IntN.{ℤ, pos, negsuc}
use lib.ListN.{length, get_or, take, drop, take-append-drop}
use lib.Seq.{take-suc, take_all, length-take-le}
use Rattle.lists.specs.Lists.{pick}
use Rattle.object.specs.declared.Detection.{Detection}
use Rattle.lapjv_walk.specs.Marks.{is_free, mark_at}
use Rattle.matching.specs.Associate.{det_at}
use Rattle.frame.specs.Objects.{Obj}
use Rattle.frame.specs.Rounds.{no_obj, unless_taken, left_by, place_of}
use Rattle.objects.specs.declared.Dets.{Dets}
use Rattle.objects.specs.Dets.{dets_of, pushed}
use Rattle.objects.proofs.Pushing.{push-one}
use Rattle.objects.proofs.Reading.{det-at}

left-snoc : (ms : List ℤ) (os : List Obj) (m : ℤ) (o : Obj) → length ms ≡ length os → left_by (ms ++ (m ∷ [])) (os ++ (o ∷ [])) ≡ left_by ms os ++ unless_taken m o []
left-snoc [] [] m o h = refl
left-snoc [] (p ∷ os) m o h = absurd (omega arith)
left-snoc (n ∷ ms) [] m o h = absurd (omega arith)
left-snoc (negsuc n ∷ ms) (p ∷ os) m o h = ap (λ l. p ∷ l) (left-snoc ms os m o (suc_inj h))
left-snoc (pos t ∷ ms) (p ∷ os) m o h = left-snoc ms os m o (suc_inj h)

pub left-few : (ms : List ℤ) (os : List Obj) → length (left_by ms os) ≤ length os
left-few [] os = omega arith
left-few (m ∷ ms) [] = omega arith
left-few (negsuc n ∷ ms) (o ∷ os) = omega (arith, left-few ms os)
left-few (pos t ∷ ms) (o ∷ os) = omega (arith, left-few ms os)

-- marks behind the objects
pub left-more : (ms ns : List ℤ) (os : List Obj) → length os ≤ length ms → left_by (ms ++ ns) os ≡ left_by ms os
left-more [] [] [] h = refl
left-more [] (n ∷ ns) [] h = refl
left-more [] ns (o ∷ os) h = absurd (not-suc-le-zero h)
left-more (m ∷ ms) ns [] h = refl
left-more (m ∷ ms) ns (o ∷ os) h = ap (unless_taken m o) (left-more ms ns os (le_of_suc-le-suc h))

-- a mark through the places is free exactly if it was
pub left-placed : (js : List ℕ) (ms : List ℤ) (os : List Obj) → left_by (map (place_of js) ms) os ≡ left_by ms os
left-placed js [] os = refl
left-placed js (m ∷ ms) [] = refl
left-placed js (negsuc n ∷ ms) (o ∷ os) = ap (λ l. o ∷ l) (left-placed js ms os)
left-placed js (pos t ∷ ms) (o ∷ os) = left-placed js ms os

-- ---- the loop over the marks

pub few : (q : Bool) (d r : Dets) (o : Detection) (i : ℕ) → r ≡ pick q (pushed d o) d → d.n ≤ i → r.n ≤ i + 1
unfolding pushed
few true d r o i e h = rw e (omega arith)
few false d r o i e h = rw e (omega arith)

module _ (marks : List ℤ) (os : List Obj) where
  abbrev pub left_to : ℕ → List Obj
  left_to i = left_by (take i marks) (take i os)

  short : (i : ℕ) → i ≤ length os → length (left_to i) ≤ i
  short i h = omega (arith, left-few (take i marks) (take i os), length-take-le i os h)

  turned : (m : ℤ) (o : Obj) (l : List Obj) → length l < 64 → pick (is_free m) (pushed (dets_of l) o.det) (dets_of l) ≡ dets_of (l ++ unless_taken m o [])
  turned (negsuc n) o l h = push-one l o h
  turned (pos t) o l h = ap dets_of (sym (append-nil l))

  more : (i : ℕ) → i < length os → i < length marks → left_to (i + 1) ≡ left_to i ++ unless_taken (mark_at marks i) (get_or os i no_obj) []
  more i h l =
      ap left_to (add-one i) ∙ ap₂ left_by (take-suc marks i (pos 0) l) (take-suc os i no_obj h)
      ∙ left-snoc (take i marks) (take i os) (mark_at marks i) (get_or os i no_obj) (length-take-le i marks (omega arith) ∙ sym (length-take-le i os (omega arith)))

  -- one more turn of the loop
  pub turn : (i : ℕ) (cells : List Float) (out r : Dets) (q : Bool) (o : Detection) → cells ≡ (dets_of os).cells → out ≡ dets_of (left_to i) → q ≡ is_free (mark_at marks i) → o ≡ det_at cells i
      → r ≡ pick q (pushed out o) out → i < length os → i < length marks → i < 64 → r ≡ dets_of (left_to (i + 1))
  turn i cells out r q o e f g p h l m k =
      h ∙ rw (g, p, f, e, det-at os i) (turned (mark_at marks i) (get_or os i no_obj) (left_to i) (omega (arith, short i (omega arith)))) ∙ ap dets_of (sym (more i l m))

  pub done : (out : Dets) (i : ℕ) → out ≡ dets_of (left_to i) → i ≡ length os → length os ≤ length marks → out ≡ dets_of (left_by marks os)
  done out i f n h =
      f ∙ ap (λ (x : List Obj). dets_of (left_by (take i marks) x)) (take_all i os (omega (arith, n)))
      ∙ ap dets_of (sym (ap (λ (x : List ℤ). left_by x os) (sym (take-append-drop i marks)) ∙ left-more (take i marks) (drop i marks) os (omega (arith, n, length-take-le i marks (omega (arith, n))))))
