-- What the three rounds keep: each grant overlapped by the threshold or more in its round, views stay, and no object is lost or doubled.
-- Assumes nothing.
use Rattle.std.specs.Prelude.{Option, Some, None}
use mathlib.Core.Path.{◌≡◌, refl, sym, ap, subst, ◌∙◌}
use mathlib.Core.Bool.{Bool, true, false, not}
use mathlib.Core.List.{List, [], ◌∷◌, map}
use Prim.Native.Nat.{ℕ, zero, suc, ◌+◌, ◌≤◌, ◌<◌}
use native.Mathlib.Nat.{not-suc-le-zero, le_of_suc-le-suc, suc_inj}
use native.Mathlib.Omega.{arith}
use lib.Dec.{T}
use lib.IntN.{ℤ, pos, negsuc}
use lib.Ieee.{Float, nan, inf, fin, le, is_nan}
use lib.ListN.{length, get_or, length-map, get_or-map}
use Rattle.ieee.specs.Ops.{f32}
use Rattle.lists.specs.Lists.{pick, sum_of, All}
use Rattle.lists.proofs.All.{keep_all}
use Rattle.object.specs.declared.Corners.{Corners}
use Rattle.object.specs.Object.{corners_of}
use Rattle.pair.specs.Overlap.{overlap_of}
use Rattle.lapjv_walk.specs.Marks.{mark_at}
use Rattle.lapjv_walk.proofs.Cases.{pos_inj, never, and_left, and_right}
use Rattle.matching.specs.Associate.{overlaps, reassociate}
use Rattle.matching.specs.Paired.{Fair}
use Rattle.assoc.proofs.Matching.{associate-fair, reassociate-fair}
use Rattle.frame.specs.declared.Settings.{Settings}
use Rattle.frame.specs.State.{in_range, unit_range}
use Rattle.frame.specs.Objects.{Obj, first_class, spares, first_score, spare_score}
use Rattle.frame.specs.Rounds.{View, Grant, Slot, Work, empty_slot, no_view, no_corners, no_obj, slot_at, view_at, det_of, unless_granted, open_from, place_of, left_by, first_marks, first_round, later_round, byte_objects, last_round, rounds}
use Rattle.run_book.specs.Claim.{Meets, target_of}
use Rattle.frame.proofs.OpenSlots.{OpenAt, open_at, box-at}
use Rattle.frame.proofs.Seats.{Unnamed, Seats, Fairly, seat-views, seat-fairly, slot-weight, seat-weight, seat-keeps, GotSlot, seat-from, left-from}

-- ---- from marks by index to seats in turn

unnamed-of : (t : ℕ) (ms : List ℤ) → ((i : ℕ) → i < length ms → mark_at ms i ≡ pos t → ⊥) → Unnamed t ms
unnamed-of t [] h = tt
unnamed-of t (negsuc n ∷ ms) h = unnamed-of t ms (λ i l. h (suc i) (omega arith))
unnamed-of t (pos u ∷ ms) h = (λ e. h 0 (omega arith) (ap pos (sym e)), unnamed-of t ms (λ i l. h (suc i) (omega arith)))

module _ (ok : Obj → View → Type 0) (ss : List Slot) where
  abbrev Suits : Obj → ℕ → Type 0
  Suits o t = (t < length ss) × ((slot_at ss t).got ≡ None) × ok o (slot_at ss t).view

  seats-of : (ms : List ℤ) (os : List Obj) → length ms ≡ length os
      → ((i t : ℕ) → i < length os → mark_at ms i ≡ pos t → Suits (get_or os i no_obj) t)
      → ((i k t : ℕ) → i < length os → k < length os → mark_at ms i ≡ pos t → mark_at ms k ≡ pos t → i ≡ k)
      → Seats ok ms os ss
  seats-of [] os l h a = tt
  seats-of (m ∷ ms) [] l h a = tt
  seats-of (negsuc n ∷ ms) (o ∷ os) l h a = seats-of ms os (suc_inj l) (λ i t q. h (suc i) t (omega arith)) (λ i k t q r e d. suc_inj (a (suc i) (suc k) t (omega arith) (omega arith) e d))
  seats-of (pos t ∷ ms) (o ∷ os) l h a =
      let s : Suits o t = h 0 t (omega arith) refl in
      let e : length ms ≡ length os = suc_inj l in (
        s.0,
        s.1,
        s.2,
        unnamed-of t ms (λ i q d. let z : 0 ≡ suc i = a 0 (suc i) t (omega arith) (omega arith) refl d in omega arith),
        seats-of ms os e (λ i t q. h (suc i) t (omega arith)) (λ i k t q r e d. suc_inj (a (suc i) (suc k) t (omega arith) (omega arith) e d)),
      )

-- ---- settings in range

no-nan-above : (x y : Float) → le x y ≡ true → is_nan y ≡ false
unfolding le is_nan
no-nan-above nan nan h = never h
no-nan-above (inf s) nan h = never h
no-nan-above (fin s m e) nan h = never h
no-nan-above x (inf t) h = refl
no-nan-above x (fin t n d) h = refl

pub threshold-number : (s : Settings) → in_range s ≡ true → is_nan s.iou_threshold ≡ false
unfolding in_range unit_range
threshold-number s h =
    let u : unit_range s.iou_threshold ≡ true = and_right (not (is_nan s.det_thresh)) (unit_range s.iou_threshold) (and_left _ _ (and_left _ _ (and_left _ _ (and_left _ _ h)))) in
    no-nan-above (f32 0) s.iou_threshold (and_left (le (f32 0) s.iou_threshold) (le s.iou_threshold (f32 0x3f80_0000)) u)

-- ---- the open slots

-- open places rise
open-rises : (b : ℕ) (ss : List Slot) (i k : ℕ) → i < k → k < length (open_from b ss) → get_or (open_from b ss) i 0 < get_or (open_from b ss) k 0
open-rises b [] i k h l = absurd (not-suc-le-zero l)
open-rises b (a ∷ ss) i k h l = go a.got i k h l (open-rises (suc b) ss)
  where
    go : (g : Option Grant) (i k : ℕ) → i < k → k < length (unless_granted g b (open_from (suc b) ss))
        → ((i k : ℕ) → i < k → k < length (open_from (suc b) ss) → get_or (open_from (suc b) ss) i 0 < get_or (open_from (suc b) ss) k 0)
        → get_or (unless_granted g b (open_from (suc b) ss)) i 0 < get_or (unless_granted g b (open_from (suc b) ss)) k 0
    go None i zero h l ih = absurd (not-suc-le-zero h)
    go None zero (suc k) h l ih = let o : OpenAt (suc b) ss k = open_at (suc b) ss k (le_of_suc-le-suc l) in omega (arith, o.place)
    go None (suc i) (suc k) h l ih = ih i k (le_of_suc-le-suc h) (le_of_suc-le-suc l)
    go (Some g) i k h l ih = ih i k h l

open-apart : (ss : List Slot) (i k : ℕ) → i < length (open_from 0 ss) → k < length (open_from 0 ss) → get_or (open_from 0 ss) i 0 ≡ get_or (open_from 0 ss) k 0 → i ≡ k
open-apart ss i k h l e =
    let u : i < k → ⊥ = λ q. omega (arith, open-rises 0 ss i k q l, e) in
    let v : k < i → ⊥ = λ q. omega (arith, open-rises 0 ss k i q h, e) in
    omega arith

-- ---- each round seats

abbrev pub thr : Settings → Float
thr s = s.iou_threshold

module _ (s : Settings) (fine : in_range s ≡ true) (vs : List View) (os : List Obj) where
  empty-at : (t : ℕ) → slot_at (map empty_slot vs) t ≡ empty_slot (view_at vs t)
  empty-at t = get_or-map empty_slot vs t no_view

  pub first-seats : Seats (Meets s 0) (first_marks s vs os) os (map empty_slot vs)
  unfolding Meets
  first-seats =
      let f : Fair (length os) (length vs) (thr s) (overlaps (det_of os) (λ j. (view_at vs j).box)) (first_marks s vs os) = associate-fair (thr s) s.inertia (length os) (length vs) (det_of os) (λ j. (view_at vs j).box) (λ j. (view_at vs j).direction) (λ j. (view_at vs j).previous) (threshold-number s fine) in
      seats-of (Meets s 0) (map empty_slot vs) (first_marks s vs os) os f.paired.len
      (λ i t h e. (rw (length-map vs empty_slot) (f.paired.below i t h e), ap (λ (x : Slot). x.got) (empty-at t), subst (λ (x : Slot). Meets s 0 (get_or os i no_obj) x.view) (sym (empty-at t)) (f.meets i t h e)))
      f.paired.apart

mark-map : (f : ℤ → ℤ) (ms : List ℤ) (i : ℕ) → i < length ms → mark_at (map f ms) i ≡ f (mark_at ms i)
mark-map f [] i h = absurd (not-suc-le-zero h)
mark-map f (m ∷ ms) zero h = refl
mark-map f (m ∷ ms) (suc i) h = mark-map f ms i (le_of_suc-le-suc h)

-- a place that a mark names, by the mark among the open slots
pub record Named (js : List ℕ) (m : ℤ) (t : ℕ) : Type 0 where
  pub j : ℕ
  pub mark : m ≡ pos j
  pub place : get_or js j 0 ≡ t

named : (js : List ℕ) (m : ℤ) (t : ℕ) → place_of js m ≡ pos t → Named js m t
named js (pos j) t e = record { j = j; mark = refl; place = pos_inj (get_or js j 0) t e }
named js (negsuc n) t e = absurd (let z : ◌≡◌ {A = ℕ} 0 1 = cc in omega arith)

module _ (s : Settings) (k : ℕ) (ss : List Slot) (os : List Obj) where
  abbrev js : List ℕ
  js = open_from 0 ss

  abbrev box_at : ℕ → Corners
  box_at j = get_or (map (λ i. target_of k (slot_at ss i).view) js) j no_corners

  abbrev open_marks : List ℤ
  open_marks = reassociate (thr s) (length os) (length js) (det_of os) box_at

  pub later-seats : Seats (Meets s k) (map (place_of js) open_marks) os ss
  unfolding Meets
  later-seats =
      let f : Fair (length os) (length js) (thr s) (overlaps (det_of os) box_at) open_marks = reassociate-fair (thr s) (length os) (length js) (det_of os) box_at in
      let l : length (map (place_of js) open_marks) ≡ length os = length-map open_marks (place_of js) ∙ f.paired.len in
      let n : (i t : ℕ) → i < length os → mark_at (map (place_of js) open_marks) i ≡ pos t → Named js (mark_at open_marks i) t
      = λ i t h e. named js (mark_at open_marks i) t (sym (mark-map (place_of js) open_marks i (omega (arith, f.paired.len))) ∙ e) in
      seats-of (Meets s k) ss (map (place_of js) open_marks) os l
      (λ i t h e.
      let q : Named js (mark_at open_marks i) t = n i t h e in
      let o : OpenAt 0 ss q.j = open_at 0 ss q.j (f.paired.below i q.j h q.mark) in
      let d : o.d ≡ t = omega (arith, o.place, q.place) in
      (omega (arith, d, o.there), ap (λ (x : ℕ). (slot_at ss x).got) (sym d) ∙ o.empty, subst (λ (x : ℕ). Meets s k (get_or os i no_obj) (slot_at ss x).view) q.place (subst (λ (c : Corners). T (le (thr s) (overlap_of (corners_of (det_of os i)) c))) (box-at (target_of k) ss q.j (f.paired.below i q.j h q.mark)) (f.meets i q.j h q.mark))))
      (λ i m t h g e d.
      let a : Named js (mark_at open_marks i) t = n i t h e in
      let b : Named js (mark_at open_marks m) t = n m t g d in
      let same : a.j ≡ b.j = open-apart ss a.j b.j (f.paired.below i a.j h a.mark) (f.paired.below m b.j g b.mark) (a.place ∙ sym b.place) in
      f.paired.apart i m b.j h g (a.mark ∙ ap pos same) b.mark)

-- ---- the three rounds

module _ (s : Settings) (fine : in_range s ≡ true) (vs : List View) (os : List Obj) where
  abbrev r₀ : Work
  r₀ = first_round s vs (first_class s os)

  abbrev r₁ : Work
  r₁ = last_round s r₀.slots r₀.left

  abbrev m₀ : List ℤ
  m₀ = first_marks s vs (first_class s os)

  abbrev m₁ : List ℤ
  m₁ = map (place_of (open_from 0 r₀.slots)) (open_marks s 2 r₀.slots r₀.left)

  abbrev m₂ : List ℤ
  m₂ = map (place_of (open_from 0 r₁.slots)) (open_marks s 1 r₁.slots (byte_objects s os))

  empty-views : (us : List View) → map (λ (a : Slot). a.view) (map empty_slot us) ≡ us
  empty-views [] = refl
  empty-views (v ∷ us) = ap (λ l. v ∷ l) (empty-views us)

  pub rounds-views : map (λ (a : Slot). a.view) (rounds s vs os).slots ≡ vs
  unfolding rounds first_round later_round
  rounds-views = seat-views 1 m₂ (byte_objects s os) r₁.slots ∙ seat-views 2 m₁ r₀.left r₀.slots ∙ seat-views 0 m₀ (first_class s os) (map empty_slot vs) ∙ empty-views vs

  empty-fairly : (us : List View) → All (Fairly (Meets s)) (map empty_slot us)
  empty-fairly [] = tt
  empty-fairly (v ∷ us) = (tt, empty-fairly us)

  pub rounds-fairly : All (Fairly (Meets s)) (rounds s vs os).slots
  unfolding rounds first_round later_round
  rounds-fairly =
      seat-fairly (Meets s) 1 m₂ (byte_objects s os) r₁.slots (later-seats s 1 r₁.slots (byte_objects s os))
      (seat-fairly (Meets s) 2 m₁ r₀.left r₀.slots (later-seats s 2 r₀.slots r₀.left)
      (seat-fairly (Meets s) 0 m₀ (first_class s os) (map empty_slot vs) (first-seats s fine vs (first_class s os)) (empty-fairly vs)))

  module _ (f : Obj → ℕ) where
    empty-weight : (us : List View) → sum_of (slot-weight f) (map empty_slot us) ≡ 0
    empty-weight [] = refl
    empty-weight (v ∷ us) = omega (arith, empty-weight us)

    -- what went to tracks or is left, and the spares that are left, are the first-class objects and the spares
    pub rounds-weight : (m : ℕ) × (sum_of (slot-weight f) (rounds s vs os).slots + sum_of f (rounds s vs os).left + m ≡ sum_of f (first_class s os) + sum_of f (byte_objects s os)) × (m ≤ sum_of f (byte_objects s os))
    unfolding rounds first_round later_round
    rounds-weight =
        let w₀ = seat-weight f (Meets s 0) 0 m₀ (first_class s os) (map empty_slot vs) (first-seats s fine vs (first_class s os)) in
        let w₁ = seat-weight f (Meets s 2) 2 m₁ r₀.left r₀.slots (later-seats s 2 r₀.slots r₀.left) in
        let w₂ = seat-weight f (Meets s 1) 1 m₂ (byte_objects s os) r₁.slots (later-seats s 1 r₁.slots (byte_objects s os)) in
        let k₂ = seat-keeps f (Meets s 1) 1 m₂ (byte_objects s os) r₁.slots (later-seats s 1 r₁.slots (byte_objects s os)) in
        (sum_of f (left_by m₂ (byte_objects s os)), omega (arith, w₀, w₁, w₂, empty-weight vs), omega (arith, w₂, k₂))

  -- the rounds hand out only what they are given
  module _ (P : Obj → Type 0) where
    empty-got : (us : List View) → All (GotSlot P) (map empty_slot us)
    empty-got [] = tt
    empty-got (v ∷ us) = (tt, empty-got us)

    byte-all : All P os → All P (byte_objects s os)
    byte-all a = go s.use_byte
      where
        go : (t : Bool) → All P (pick t (spares s os) [])
        go true = keep_all P (λ (o : Obj). spare_score s o.det.score) os a
        go false = tt

    pub rounds-from : All P os → All (GotSlot P) (rounds s vs os).slots × All P (rounds s vs os).left
    unfolding rounds first_round later_round
    rounds-from a =
        let f : All P (first_class s os) = keep_all P (λ (o : Obj). first_score s o.det.score) os a in
        let g₀ : All (GotSlot P) r₀.slots = seat-from P 0 m₀ (first_class s os) (map empty_slot vs) f (empty-got vs) in
        let l₀ : All P r₀.left = left-from P m₀ (first_class s os) f in
        (seat-from P 1 m₂ (byte_objects s os) r₁.slots (byte-all a) (seat-from P 2 m₁ r₀.left r₀.slots l₀ g₀), left-from P m₁ r₀.left l₀)
