-- The three rounds on the arrays, one after another, are the frame's rounds. Assumes nothing.
use Rattle.std.specs.Prelude.{Option}
use mathlib.Core.Path.{◌≡◌, refl, sym, ap, ◌∙◌}
use mathlib.Core.Bool.{Bool, true, false}
use mathlib.Core.List.{List, [], ◌∷◌, map}
use Prim.Native.Nat.{ℕ, ◌/◌, ◌≤◌}
use native.Mathlib.Omega.{arith}
use lib.Ieee.{Float}
use lib.IntN.{ℤ}
use lib.ListN.{length, get_or, take, length-map, get_or-map}
use Rattle.lists.specs.Lists.{pick, keep}
use Rattle.lists.proofs.Tab.{length-tab}
use Rattle.lists.proofs.Keep.{keep-short}
use Rattle.object.specs.declared.Corners.{Corners}
use Rattle.matching.specs.Associate.{corners_at, associate, reassociate}
use Rattle.frame.specs.declared.Settings.{Settings}
use Rattle.frame.specs.Objects.{Obj, object_at, objects_of, first_class, spares}
use Rattle.frame.specs.Rounds.{View, Slot, Work, seat, empty_slot, no_view, no_slot, no_corners, slot_at, view_at, det_of, open_from, place_of, left_by, first_round, later_round, byte_objects, last_round, rounds}
use Rattle.frame.proofs.Seats.{seat-views}
use Rattle.objects.specs.declared.Dets.{Dets}
use Rattle.objects.specs.Dets.{dets_of}
use Rattle.objects.proofs.Pushing.{dets-count}
use Rattle.rounds.specs.declared.Pairing.{Pairing}
use Rattle.views.specs.declared.Views.{Views}
use Rattle.views.specs.Views.{views_of}
use Rattle.grants.specs.Grants.{grants_of, LeftOf}
use Rattle.rounds.specs.Pairs.{Pairs, FirstOf, LaterOf, SparesOf}
use Rattle.views.proofs.Seeing.{views-count, boxes-at, lasts-at}
use Rattle.grants.proofs.Opening.{take-few}
use Rattle.object.specs.declared.Detection.{Detection}
use Rattle.grants.proofs.Leaving.{left-few}

-- ---- views stay

abbrev views_in : List Slot → List View
views_in ss = map (λ (a : Slot). a.view) ss

abbrev first_marks : Settings → List View → List Obj → List ℤ
first_marks s vs os = associate s.iou_threshold s.inertia (length os) (length vs) (det_of os) (λ j. (view_at vs j).box) (λ j. (view_at vs j).direction) (λ j. (view_at vs j).previous)

abbrev later_marks : (View → Corners) → Settings → List Slot → List Obj → List ℤ
later_marks target s ss os =
    let js = open_from 0 ss in
    map (place_of js) (reassociate s.iou_threshold (length os) (length js) (det_of os) (λ j. get_or (map (λ j. target (slot_at ss j).view) js) j no_corners))

empty-views : (vs : List View) → views_in (map empty_slot vs) ≡ vs
empty-views [] = refl
empty-views (v ∷ vs) = ap (λ l. v ∷ l) (empty-views vs)

first-views : (s : Settings) (vs : List View) (os : List Obj) → views_in (first_round s vs os).slots ≡ vs
unfolding first_round
first-views s vs os = seat-views 0 (first_marks s vs os) os (map empty_slot vs) ∙ empty-views vs

later-views : (k : ℕ) (target : View → Corners) (s : Settings) (ss : List Slot) (os : List Obj) → views_in (later_round k target s ss os).slots ≡ views_in ss
unfolding later_round
later-views k target s ss os = seat-views k (later_marks target s ss os) os ss

module _ (ss : List Slot) (vs : List View) (e : views_in ss ≡ vs) where
  same_view : (j : ℕ) → view_at vs j ≡ (slot_at ss j).view
  same_view j = ap (λ (l : List View). get_or l j no_view) (sym e) ∙ get_or-map (λ (a : Slot). a.view) ss j no_slot

  same-targets : (target : View → Corners) → ◌≡◌ {A = ℕ → Corners} (λ j. target (view_at vs j)) (λ j. target (slot_at ss j).view)
  same-targets target = λ i j. target (same_view j i)

  same_count : length vs ≡ length ss
  same_count = ap length (sym e) ∙ length-map ss (λ (a : Slot). a.view)

-- ---- the three rounds

module _ (s : Settings) (vs : List View) (input : List Float) (v : Views) (d : Dets) (r₀ r₁ : Pairing) (grants : List (Option Detection))
    (e : v ≡ views_of vs)
    (f : d ≡ dets_of (first_class s (objects_of input)))
    (h₀ : FirstOf s v d r₀)
    (h₁ : LaterOf s.iou_threshold v.lasts v.n r₀.left r₀.grants r₁)
    (h₂ : SparesOf s input v.boxes v.n r₁.grants grants) where
  pub rounds-are : Pairs (rounds s vs (objects_of input)) (record { grants = grants; left = r₁.left })
  unfolding rounds
  rounds-are =
      let w₀ : Work = first_round s vs (first_class s (objects_of input)) in
      let w₁ : Work = last_round s w₀.slots w₀.left in
      let v₀ : views_in w₀.slots ≡ vs = first-views s vs (first_class s (objects_of input)) in
      let v₁ : views_in w₁.slots ≡ vs = later-views 2 (λ (x : View). x.last) s w₀.slots w₀.left ∙ v₀ in
      let n : v.n ≡ length vs = ap (λ (x : Views). x.n) e ∙ views-count vs in
      let a : Pairs w₀ r₀ = h₀ vs (first_class s (objects_of input)) e f in
      let b : Pairs w₁ r₁
      = h₁ 2 (λ (x : View). x.last) s w₀.slots w₀.left refl (ap (λ (x : Views). corners_at x.lasts) e ∙ lasts-at vs ∙ same-targets w₀.slots vs v₀ (λ (x : View). x.last)) (n ∙ same_count w₀.slots vs v₀) a.1 a.0 in
      (h₂ w₁.slots (ap (λ (x : Views). corners_at x.boxes) e ∙ boxes-at vs ∙ same-targets w₁.slots vs v₁ (λ (x : View). x.box)) (n ∙ same_count w₁.slots vs v₁) b.0, b.1)

-- ---- a round without objects

seat-none : (k : ℕ) (ms : List ℤ) (ss : List Slot) → seat k ms [] ss ≡ ss
seat-none k [] ss = refl
seat-none k (m ∷ ms) ss = refl

left-none : (ms : List ℤ) → left_by ms [] ≡ []
left-none [] = refl
left-none (m ∷ ms) = refl

pub later-nothing : (thr : Float) (boxes : List Float) (count : ℕ) (d : Dets) (grants : List (Option Detection)) → d.n ≡ 0 → LaterOf thr boxes count d grants (record { grants = grants; left = d })
unfolding later_round
later-nothing thr boxes count d grants z k target s ss os e f n g h = go os (sym (dets-count os) ∙ sym (ap (λ (x : Dets). x.n) g) ∙ z) g
  where
    go : (os : List Obj) → length os ≡ 0 → d ≡ dets_of os → Pairs (later_round k target s ss os) (record { grants = grants; left = d })
    go [] l p = (h ∙ ap grants_of (sym (seat-none k (later_marks target s ss []) ss)), p ∙ ap dets_of (sym (left-none (later_marks target s ss []))))
    go (o ∷ os) l p = absurd (let y : ◌≡◌ {A = ℕ} 1 0 = omega (arith, l) in omega (arith, y))

-- ---- the spare round

pub spares-out : (s : Settings) (input boxes : List Float) (count : ℕ) (grants : List (Option Detection)) → s.use_byte ≡ false → SparesOf s input boxes count grants grants
unfolding later_round
spares-out s input boxes count grants z ss f n h =
    h
    ∙ ap grants_of
    (sym
    (ap (λ (b : Bool). (later_round 1 (λ (x : View). x.box) s ss (pick b (spares s (objects_of input)) [])).slots) z
    ∙ seat-none 1 (later_marks (λ (x : View). x.box) s ss []) ss))

pub spares-in : (s : Settings) (input boxes : List Float) (count : ℕ) (grants : List (Option Detection)) (d : Dets) (r : Pairing) → s.use_byte ≡ true → d ≡ dets_of (spares s (objects_of input))
    → LaterOf s.iou_threshold boxes count d grants r → SparesOf s input boxes count grants r.grants
spares-in s input boxes count grants d r z g l ss f n h =
    (l 1 (λ (x : View). x.box) s ss (byte_objects s (objects_of input)) refl f n (g ∙ ap (λ (b : Bool). dets_of (pick b (spares s (objects_of input)) [])) (sym z)) h).0

-- ---- 64 at most

pub few-views : {A : Type 0} (f : A → View) (count : ℕ) (table : List A) (v : Views) → v ≡ views_of (map f (take count table)) → count ≤ 64 → v.n ≤ 64
few-views f count table v e h = rw e (omega (arith, views-count (map f (take count table)), length-map (take count table) f, take-few count table))

module _ (input : List Float) (h : length input ≤ 320) where
  pub few-objects : length (objects_of input) ≤ 64
  unfolding objects_of
  few-objects = omega (arith, length-tab (object_at input) (length input / 5))

  pub few-kept : (t : Obj → Bool) (d : Dets) → d ≡ dets_of (keep t (objects_of input)) → d.n ≤ 64
  few-kept t d e = rw e (omega (arith, dets-count (keep t (objects_of input)), keep-short t (objects_of input), few-objects))

pub left-fits : (marks : List ℤ) (d r : Dets) → LeftOf marks d r → d.n ≤ 64 → (os : List Obj) → d ≡ dets_of os → r.n ≤ 64
left-fits marks d r l h os e = rw (l os e) (omega (arith, h, dets-count (left_by marks os), left-few marks os, ap (λ (x : Dets). x.n) e, dets-count os))
