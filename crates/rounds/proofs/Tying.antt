-- A round on the arrays is the frame's round: the same marks, so the same grants and the same objects left. Assumes nothing.
use Rattle.std.specs.Prelude.{Option, None}
use mathlib.Core.Path.{◌≡◌, refl, sym, ap, ap₂, subst, ◌∙◌}
use mathlib.Core.Bool.{true}
use mathlib.Core.List.{List, [], ◌∷◌, ◌++◌, map}
use Prim.Native.Nat.{ℕ, ◌+◌, ◌-◌, ◌≤◌, ◌<◌}
use native.Mathlib.Omega.{arith}
use lib.IntN.{ℤ, pos, negsuc}
use lib.Ieee.{Float}
use lib.ListN.{length, get_or, take, replicate, length-map, replicate-append-replicate}
use lib.Seq.{take_at}
use Rattle.lists.specs.Lists.{tab, keep, All}
use Rattle.lists.proofs.Tab.{length-tab, get_or-tab}
use Rattle.lists.proofs.All.{map-append, keep_same}
use Rattle.object.specs.declared.Corners.{Corners}
use Rattle.object.specs.declared.Detection.{Detection}
use Rattle.lapjv_walk.specs.Marks.{free}
use Rattle.pair.specs.Angle.{Step}
use Rattle.matching.specs.Associate.{det_at, corners_at, step_at, overlaps, combined, associate, reassociate}
use Rattle.matching.specs.Matching.{matched}
use Rattle.matching.specs.Paired.{Paired}
use Rattle.assoc.proofs.Matching.{kept-paired, match-paired, reassociate-fair}
use Rattle.frame.specs.declared.Settings.{Settings}
use Rattle.frame.specs.Objects.{Obj}
use Rattle.frame.specs.Rounds.{View, Slot, empty_slot, no_corners, slot_at, view_at, det_of, open_from, place_of, seat, left_by, first_round, later_round, grant_of}
use Rattle.objects.specs.declared.Dets.{Dets}
use Rattle.objects.specs.Dets.{dets_of, dets_in}
use Rattle.objects.proofs.Cells.{get_or-padding}
use Rattle.objects.proofs.Pushing.{dets-count}
use Rattle.objects.proofs.Reading.{dets-at, dets-in}
use Rattle.rounds.specs.declared.Pairing.{Pairing}
use Rattle.grants.specs.declared.Places.{Places}
use Rattle.views.specs.declared.Views.{Views}
use Rattle.grants.specs.Grants.{grants_of, seated, is_open, open_in, places_of, Names, boxes_of, LeftOf}
use Rattle.rounds.specs.Pairs.{FirstOf, LaterOf}
use Rattle.views.proofs.Seeing.{views-count, boxes-at, directions-at, previous-at}
use Rattle.grants.proofs.Opening.{few, open-below, all-below, places-at, places_count, places-taken, open_is, gathered-at}
use Rattle.grants.proofs.Seating.{Below, paired-below, marks-name, placed_below, seat-is}
use Rattle.grants.proofs.Leaving.{left-more, left-placed}

-- ---- any round

pub associate-paired : (thr inertia : Float) (nd nt : ℕ) (det : ℕ → Detection) (box : ℕ → Corners) (direction : ℕ → Step) (previous : ℕ → Detection) → Paired nd nt (associate thr inertia nd nt det box direction previous)
unfolding associate matched
associate-paired thr inertia nd nt det box direction previous = kept-paired nd nt _ (overlaps det box) _ (match-paired nd nt thr (overlaps det box) (combined inertia det box direction previous))

pub reassociate-paired : (thr : Float) (nd nt : ℕ) (det : ℕ → Detection) (box : ℕ → Corners) → Paired nd nt (reassociate thr nd nt det box)
reassociate-paired thr nd nt det box = (reassociate-fair thr nd nt det box).paired

-- the array of marks names slots below 64 through the open places
pub all_named : (count : ℕ) (ks : List (Option Detection)) (places : Places) (nd : ℕ) (ms marks : List ℤ) → count ≤ 64 → places ≡ places_of (open_in count ks) → marks ≡ ms ++ replicate (64 - nd) free → Paired nd (length (open_in count ks)) ms
    → All (Names places.at 64) marks
all_named count ks places nd ms marks h p m q =
    rw (p, m) (marks-name 64 (open_in count ks) (omega (arith, few ks count)) (all-below count 64 h (open_in count ks) (open-below count ks)) nd (64 - nd) ms q)

module _ (js : List ℕ) (ms : List ℤ) (os : List Obj) (ss : List Slot) (p : Paired (length os) (length js) ms) (below : All (λ j. j < length ss) js) where
  place_same : (m : ℤ) → place_of (places_of js).at m ≡ place_of js m
  place_same (negsuc n) = refl
  place_same (pos t) = ap pos (places-at js t)

  places_same : place_of (places_of js).at ≡ place_of js
  places_same = λ i m. place_same m i

  abbrev array : List ℤ
  array = ms ++ replicate (64 - length os) free

  marks-same : take (dets_of os).n (map (place_of (places_of js).at) array) ≡ map (place_of js) ms
  marks-same =
      ap₂ (λ (n : ℕ) (f : ℤ → ℤ). take n (map f array)) (dets-count os) places_same
      ∙ ap (take (length os)) (map-append (place_of js) ms (replicate (64 - length os) free))
      ∙ take_at (map (place_of js) ms) (map (place_of js) (replicate (64 - length os) free)) (length os) (length-map ms (place_of js) ∙ p.len)

  seated-same : (k : ℕ) → seated (take (dets_of os).n (map (place_of (places_of js).at) array)) (dets_in (dets_of os)) (grants_of ss) ≡ grants_of (seat k (map (place_of js) ms) os ss)
  seated-same k =
      ap₂ (λ (x : List ℤ) (y : List Detection). seated x y (grants_of ss)) marks-same (dets-in os)
      ∙ sym (seat-is k (map (place_of js) ms) os ss (placed_below js (length ss) ms (paired-below (length os) (length js) ms p) below))

  left-same : left_by array os ≡ left_by (map (place_of js) ms) os
  left-same = left-more ms (replicate (64 - length os) free) os (omega (arith, p.len)) ∙ sym (left-placed js ms os)

-- what `by_marks` promises
abbrev pub ByMarks : List ℤ → Places → Dets → List (Option Detection) → Pairing → Type 0
ByMarks marks places d grants r = (r.grants ≡ seated (take d.n (map (place_of places.at) marks)) (dets_in d) grants) × LeftOf marks d r.left

-- ---- a later round

module _ (thr : Float) (boxes targets : List Float) (count : ℕ) (d : Dets) (grants : List (Option Detection)) (places : Places) (marks : List ℤ) (r : Pairing)
    (p : places ≡ places_of (open_in count grants))
    (t : targets ≡ boxes_of (map (corners_at boxes) (take places.n places.at)))
    (m : marks ≡ reassociate thr d.n places.n (det_at d.cells) (corners_at targets) ++ replicate (64 - d.n) free)
    (b : ByMarks marks places d grants r) where
  pub later-is : LaterOf thr boxes count d grants r
  unfolding later_round
  later-is k target s ss os e f n g h = (
    b.0 ∙ (λ i. seated (take (g i).n (map (place_of (pj i).at) (mj i))) (dets_in (g i)) (h i)) ∙ seated-same js ms os ss q below k,
    b.1 os g ∙ ap dets_of (ap (λ (x : List ℤ). left_by x os) mj ∙ left-same js ms os ss q below),
  )
    where
      js : List ℕ
      js = open_from 0 ss

      bs : List Corners
      bs = map (λ j. target (slot_at ss j).view) js

      pj : places ≡ places_of js
      pj = p ∙ ap₂ (λ (c : ℕ) (ks : List (Option Detection)). places_of (open_in c ks)) n h ∙ ap places_of (open_is ss)

      tj : corners_at targets ≡ λ j. get_or bs j no_corners
      tj = ap corners_at (t ∙ ap₂ (λ (c : ℕ → Corners) (l : List ℕ). boxes_of (map c l)) f (ap (λ (x : Places). take x.n x.at) pj ∙ places-taken js)) ∙ gathered-at bs

      ms : List ℤ
      ms = reassociate s.iou_threshold (length os) (length js) (det_of os) (λ j. get_or bs j no_corners)

      nd : d.n ≡ length os
      nd = ap (λ (x : Dets). x.n) g ∙ dets-count os

      nt : places.n ≡ length js
      nt = ap (λ (x : Places). x.n) pj ∙ places_count js

      det : det_at d.cells ≡ det_of os
      det = ap (λ (x : Dets). det_at x.cells) g ∙ dets-at os

      mj : marks ≡ ms ++ replicate (64 - length os) free
      mj = m ∙ (λ i. reassociate (e i) (nd i) (nt i) (det i) (tj i) ++ replicate (64 - nd i) free)

      q : Paired (length os) (length js) ms
      q = reassociate-paired s.iou_threshold (length os) (length js) (det_of os) (λ j. get_or bs j no_corners)

      below : All (λ j. j < length ss) js
      below = subst (All (λ j. j < length ss)) (open_is ss) (open-below (length ss) (grants_of ss))

-- ---- the first round

keep-every : {A : Type 0} (xs : List A) → keep (λ x. true) xs ≡ xs
keep-every [] = refl
keep-every (x ∷ xs) = ap (λ l. x ∷ l) (keep-every xs)

-- before any grant every slot is open
pub open-all : (n : ℕ) → open_in n (replicate 64 None) ≡ tab (λ j. j) n
unfolding open_in
open-all n =
    keep_same (λ j. is_open (get_or (replicate 64 None) j None)) (λ j. true) (λ j. ap is_open (get_or-padding [] 64 j None)) (tab (λ j. j) n)
    ∙ keep-every (tab (λ j. j) n)

place-itself : (n : ℕ) (m : ℤ) → Below n m → place_of (tab (λ j. j) n) m ≡ m
place-itself n (negsuc i) h = refl
place-itself n (pos t) h = ap pos (get_or-tab (λ (j : ℕ). j) n 0 t h)

places-itself : (n : ℕ) (ms : List ℤ) → All (Below n) ms → map (place_of (tab (λ j. j) n)) ms ≡ ms
places-itself n [] a = refl
places-itself n (m ∷ ms) a = ap₂ (λ (x : ℤ) (l : List ℤ). x ∷ l) (place-itself n m a.0) (places-itself n ms a.1)

none-granted : (vs : List View) → map grant_of (map empty_slot vs) ≡ replicate (length vs) None
none-granted [] = refl
none-granted (v ∷ vs) = ap (λ l. None ∷ l) (none-granted vs)

pub no-grants-are : (vs : List View) → length vs ≤ 64 → replicate 64 None ≡ grants_of (map empty_slot vs)
unfolding grants_of
no-grants-are vs h =
    let e : 64 ≡ length vs + (64 - length vs) = omega arith in
    ap (λ (n : ℕ). replicate n None) e
    ∙ sym (replicate-append-replicate (length vs) (64 - length vs) None)
    ∙ ap₂ (λ (l : List (Option Detection)) (n : ℕ). l ++ replicate (64 - n) None) (sym (none-granted vs)) (sym (length-map vs empty_slot))

module _ (s : Settings) (v : Views) (d : Dets) (blank : List (Option Detection)) (places : Places) (marks : List ℤ) (r : Pairing)
    (z : blank ≡ replicate 64 None)
    (p : places ≡ places_of (open_in v.n blank))
    (m : marks ≡ associate s.iou_threshold s.inertia d.n v.n (det_at d.cells) (corners_at v.boxes) (step_at v.directions) (det_at v.previous) ++ replicate (64 - d.n) free)
    (b : ByMarks marks places d blank r)
    (fit : v.n ≤ 64) where
  pub first-is : FirstOf s v d r
  unfolding first_round
  first-is vs os f g = (
    b.0 ∙ (λ i. seated (take (g i).n (map (place_of (pj i).at) (mj i))) (dets_in (g i)) (h i)) ∙ seated-same js ms os ss q below 0 ∙ ap (λ (x : List ℤ). grants_of (seat 0 x os ss)) same,
    b.1 os g ∙ ap dets_of (ap (λ (x : List ℤ). left_by x os) mj ∙ left-same js ms os ss q below ∙ ap (λ (x : List ℤ). left_by x os) same),
  )
    where
      ss : List Slot
      ss = map empty_slot vs

      js : List ℕ
      js = tab (λ j. j) (length vs)

      nt : v.n ≡ length vs
      nt = ap (λ (x : Views). x.n) f ∙ views-count vs

      pj : places ≡ places_of js
      pj = p ∙ ap₂ (λ (c : ℕ) (ks : List (Option Detection)). places_of (open_in c ks)) nt z ∙ ap places_of (open-all (length vs))

      h : blank ≡ grants_of ss
      h = z ∙ no-grants-are vs (omega (arith, nt))

      ms : List ℤ
      ms = associate s.iou_threshold s.inertia (length os) (length vs) (det_of os) (λ j. (view_at vs j).box) (λ j. (view_at vs j).direction) (λ j. (view_at vs j).previous)

      nd : d.n ≡ length os
      nd = ap (λ (x : Dets). x.n) g ∙ dets-count os

      det : det_at d.cells ≡ det_of os
      det = ap (λ (x : Dets). det_at x.cells) g ∙ dets-at os

      box : corners_at v.boxes ≡ λ j. (view_at vs j).box
      box = ap (λ (x : Views). corners_at x.boxes) f ∙ boxes-at vs

      direction : step_at v.directions ≡ λ j. (view_at vs j).direction
      direction = ap (λ (x : Views). step_at x.directions) f ∙ directions-at vs

      previous : det_at v.previous ≡ λ j. (view_at vs j).previous
      previous = ap (λ (x : Views). det_at x.previous) f ∙ previous-at vs

      mj : marks ≡ ms ++ replicate (64 - length os) free
      mj = m ∙ (λ i. associate s.iou_threshold s.inertia (nd i) (nt i) (det i) (box i) (direction i) (previous i) ++ replicate (64 - nd i) free)

      n : length js ≡ length vs
      n = length-tab (λ (j : ℕ). j) (length vs)

      o : Paired (length os) (length vs) ms
      o = associate-paired s.iou_threshold s.inertia (length os) (length vs) (det_of os) (λ j. (view_at vs j).box) (λ j. (view_at vs j).direction) (λ j. (view_at vs j).previous)

      q : Paired (length os) (length js) ms
      q = subst (λ (k : ℕ). Paired (length os) k ms) (sym n) o

      same : map (place_of js) ms ≡ ms
      same = places-itself (length vs) ms (paired-below (length os) (length vs) ms o)

      below : All (λ j. j < length ss) js
      below = subst (λ (k : ℕ). All (λ j. j < k) js) (sym (length-map vs empty_slot)) (subst (All (λ j. j < length vs)) (open-all (length vs)) (open-below (length vs) (replicate 64 None)))
