-- A round by marks: no object is lost or doubled, a grant is never taken back, views stay, and each grant passed its test. Assumes nothing.
use Rattle.std.specs.Prelude.{Option, Some, None}
use mathlib.Core.Path.{◌≡◌, refl, sym, ap, subst, ◌∙◌}
use mathlib.Core.List.{List, [], ◌∷◌, map}
use mathlib.Core.Logic.{◌≢◌}
use Prim.Native.Nat.{ℕ, ◌+◌, ◌≤◌, ◌<◌}
use native.Mathlib.Omega.{arith}
use lib.IntN.{ℤ, pos, negsuc}
use lib.ListN.{length, set, length-set, length-map}
use lib.Seq.{get_or-set_other, map-set_same}
use Rattle.lists.specs.Lists.{sum_of, All}
use Rattle.lists.proofs.All.{all_set, sum-set}
use Rattle.object.specs.declared.Corners.{Corners}
use Rattle.frame.specs.declared.Settings.{Settings}
use Rattle.frame.specs.Objects.{Obj, first_class}
use Rattle.frame.specs.Rounds.{View, Grant, Slot, empty_slot, first_marks, first_round, later_marks, later_round, byte_objects, last_round, rounds, no_slot, slot_at, grant_to, seat, left_by}

-- t is named by none of the marks
abbrev pub Unnamed : ℕ → List ℤ → Type 0
Unnamed t [] = Unit {0}
Unnamed t (negsuc n ∷ ms) = Unnamed t ms
Unnamed t (pos u ∷ ms) = (t ≢ u) × Unnamed t ms

module _ (ok : Obj → View → Type 0) where
  -- each slot named is there, has no grant, suits its object, and is named once
  abbrev pub Seats : List ℤ → List Obj → List Slot → Type 0
  Seats [] os ss = Unit {0}
  Seats (m ∷ ms) [] ss = Unit {0}
  Seats (negsuc n ∷ ms) (o ∷ os) ss = Seats ms os ss
  Seats (pos t ∷ ms) (o ∷ os) ss = (t < length ss) × ((slot_at ss t).got ≡ None) × ok o (slot_at ss t).view × Unnamed t ms × Seats ms os ss

  -- a slot that none of them names may change
  seats-set : (ms : List ℤ) (os : List Obj) (ss : List Slot) (t : ℕ) (a : Slot) → Unnamed t ms → Seats ms os ss → Seats ms os (set ss t a)
  seats-set [] os ss t a u h = tt
  seats-set (m ∷ ms) [] ss t a u h = tt
  seats-set (negsuc n ∷ ms) (o ∷ os) ss t a u h = seats-set ms os ss t a u h
  seats-set (pos v ∷ ms) (o ∷ os) ss t a u h =
      let e : slot_at (set ss t a) v ≡ slot_at ss v = get_or-set_other ss t v a no_slot (λ q. u.0 (sym q)) in
      (rw (length-set ss t a) h.0, ap (λ (x : Slot). x.got) e ∙ h.1, subst (λ (x : Slot). ok o x.view) (sym e) h.2, h.3, seats-set ms os ss t a u.1 h.4)

-- ---- views and lengths

granted-views : (k : ℕ) (m : ℤ) (o : Obj) (ss : List Slot) → map (λ (a : Slot). a.view) (grant_to k m o ss) ≡ map (λ (a : Slot). a.view) ss
granted-views k (negsuc n) o ss = refl
granted-views k (pos t) o ss = map-set_same (λ (a : Slot). a.view) ss t _ no_slot refl

pub seat-views : (k : ℕ) (ms : List ℤ) (os : List Obj) (ss : List Slot) → map (λ (a : Slot). a.view) (seat k ms os ss) ≡ map (λ (a : Slot). a.view) ss
seat-views k [] os ss = refl
seat-views k (m ∷ ms) [] ss = refl
seat-views k (m ∷ ms) (o ∷ os) ss = seat-views k ms os (grant_to k m o ss) ∙ granted-views k m o ss

pub granted-length : (k : ℕ) (m : ℤ) (o : Obj) (ss : List Slot) → length (grant_to k m o ss) ≡ length ss
granted-length k (negsuc n) o ss = refl
granted-length k (pos t) o ss = length-set ss t _

pub seat-length : (k : ℕ) (ms : List ℤ) (os : List Obj) (ss : List Slot) → length (seat k ms os ss) ≡ length ss
seat-length k [] os ss = refl
seat-length k (m ∷ ms) [] ss = refl
seat-length k (m ∷ ms) (o ∷ os) ss = seat-length k ms os (grant_to k m o ss) ∙ granted-length k m o ss

first-length : (s : Settings) (vs : List View) (os : List Obj) → length (first_round s vs os).slots ≡ length vs
unfolding first_round
first-length s vs os = seat-length 0 (first_marks s vs os) os (map empty_slot vs) ∙ length-map vs empty_slot

later-length : (k : ℕ) (target : View → Corners) (s : Settings) (ss : List Slot) (os : List Obj) → length (later_round k target s ss os).slots ≡ length ss
unfolding later_round
later-length k target s ss os = seat-length k (later_marks target s ss os) os ss

pub rounds-length : (s : Settings) (vs : List View) (os : List Obj) → length (rounds s vs os).slots ≡ length vs
unfolding rounds
rounds-length s vs os =
    let w₀ = first_round s vs (first_class s os) in
    let w₁ = last_round s w₀.slots w₀.left in
    later-length 1 (λ (v : View). v.box) s w₁.slots (byte_objects s os) ∙ later-length 2 (λ (v : View). v.last) s w₀.slots w₀.left ∙ first-length s vs (first_class s os)

-- ---- each grant passed the test of its round

module _ (ok : ℕ → Obj → View → Type 0) where
  abbrev pub Passed : View → Option Grant → Type 0
  Passed v None = Unit {0}
  Passed v (Some g) = ok g.round g.obj v

  abbrev pub Fairly : Slot → Type 0
  Fairly a = Passed a.view a.got

  pub seat-fairly : (k : ℕ) (ms : List ℤ) (os : List Obj) (ss : List Slot) → Seats (ok k) ms os ss → All Fairly ss → All Fairly (seat k ms os ss)
  seat-fairly k [] os ss h f = f
  seat-fairly k (m ∷ ms) [] ss h f = f
  seat-fairly k (negsuc n ∷ ms) (o ∷ os) ss h f = seat-fairly k ms os ss h f
  seat-fairly k (pos t ∷ ms) (o ∷ os) ss h f =
      let a : Slot = record { view = (slot_at ss t).view; got = Some (record { round = k; obj = o }) } in
      seat-fairly k ms os (set ss t a) (seats-set (ok k) ms os ss t a h.3 h.4) (all_set Fairly ss t a f h.2)

-- ---- any weight on objects is conserved

module _ (f : Obj → ℕ) where
  abbrev pub got-weight : Option Grant → ℕ
  got-weight None = 0
  got-weight (Some g) = f g.obj

  abbrev pub slot-weight : Slot → ℕ
  slot-weight a = got-weight a.got

  module _ (ok : Obj → View → Type 0) (k : ℕ) where
    abbrev Conserved : List ℤ → List Obj → List Slot → Type 0
    Conserved ms os ss = sum_of slot-weight (seat k ms os ss) + sum_of f (left_by ms os) ≡ sum_of slot-weight ss + sum_of f os

    pub seat-weight : (ms : List ℤ) (os : List Obj) (ss : List Slot) → Seats ok ms os ss → Conserved ms os ss
    seat-weight [] os ss h = refl
    seat-weight (m ∷ ms) [] ss h = refl
    seat-weight (negsuc n ∷ ms) (o ∷ os) ss h = omega (arith, seat-weight ms os ss h)
    seat-weight (pos t ∷ ms) (o ∷ os) ss h =
        let a : Slot = record { view = (slot_at ss t).view; got = Some (record { round = k; obj = o }) } in
        let z : slot-weight (slot_at ss t) ≡ 0 = ap got-weight h.1 in
        omega (arith, seat-weight ms os (set ss t a) (seats-set ok ms os ss t a h.3 h.4), sum-set slot-weight ss t a no_slot h.0 z)

    -- a grant is never taken back
    pub seat-keeps : (ms : List ℤ) (os : List Obj) (ss : List Slot) → Seats ok ms os ss → sum_of slot-weight ss ≤ sum_of slot-weight (seat k ms os ss)
    seat-keeps [] os ss h = omega arith
    seat-keeps (m ∷ ms) [] ss h = omega arith
    seat-keeps (negsuc n ∷ ms) (o ∷ os) ss h = seat-keeps ms os ss h
    seat-keeps (pos t ∷ ms) (o ∷ os) ss h =
        let a : Slot = record { view = (slot_at ss t).view; got = Some (record { round = k; obj = o }) } in
        let z : slot-weight (slot_at ss t) ≡ 0 = ap got-weight h.1 in
        omega (arith, seat-keeps ms os (set ss t a) (seats-set ok ms os ss t a h.3 h.4), sum-set slot-weight ss t a no_slot h.0 z)

-- ---- the rounds hand out only what they are given

module _ (P : Obj → Type 0) where
  abbrev pub Got : Option Grant → Type 0
  Got None = Unit {0}
  Got (Some g) = P g.obj

  abbrev pub GotSlot : Slot → Type 0
  GotSlot a = Got a.got

  pub seat-from : (k : ℕ) (ms : List ℤ) (os : List Obj) (ss : List Slot) → All P os → All GotSlot ss → All GotSlot (seat k ms os ss)
  seat-from k [] os ss p h = h
  seat-from k (m ∷ ms) [] ss p h = h
  seat-from k (negsuc n ∷ ms) (o ∷ os) ss p h = seat-from k ms os ss p.1 h
  seat-from k (pos t ∷ ms) (o ∷ os) ss p h = seat-from k ms os (set ss t _) p.1 (all_set GotSlot ss t _ h p.0)

  pub left-from : (ms : List ℤ) (os : List Obj) → All P os → All P (left_by ms os)
  left-from [] os p = p
  left-from (m ∷ ms) [] p = tt
  left-from (negsuc n ∷ ms) (o ∷ os) p = (p.0, left-from ms os p.1)
  left-from (pos t ∷ ms) (o ∷ os) p = left-from ms os p.1
