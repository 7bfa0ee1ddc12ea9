-- The objects, read back from their cells: at every place, past the objects too. Assumes nothing.
use mathlib.Core.Path.{◌≡◌, refl, sym, ◌∙◌}
use mathlib.Core.List.{List, map}
use Prim.Native.Nat.{ℕ, ◌+◌, ◌*◌, ◌≤◌, ◌<◌}
use native.Mathlib.Omega.{arith}
use lib.Ieee.{nan}
use lib.ListN.{length, get_or, length-map, get_or-map}
use lib.Seq.{ext_get_or}
use Rattle.lists.proofs.Tab.{length-tab, get_or-tab}
use Rattle.object.specs.declared.Corners.{Corners}
use Rattle.object.specs.declared.Detection.{Detection}
use Rattle.matching.specs.Associate.{det_at, corners_at, four_of}
use Rattle.frame.specs.Objects.{Obj}
use Rattle.frame.specs.Rounds.{det_of, no_obj, no_detection, no_corners}
use Rattle.lists.specs.Lists.{flat}
use Rattle.objects.specs.Cells.{padded}
use Rattle.objects.specs.Dets.{five_of, cells_of, dets_of, dets_in}
use Rattle.objects.proofs.Cells.{padded-at, padded-first, padded-length, flat-length}
use Rattle.objects.proofs.Pushing.{dets-count}

-- entries of five numbers each, as detections
module _ {A : Type 0} (f : A → Detection) (d : A) (e : f d ≡ no_detection) (n : ℕ) (xs : List A) (i : ℕ) where
  at : (c : ℕ) → c < 5 → get_or (five_of (f d)) c nan ≡ nan → get_or (padded n (flat (λ x. five_of (f x)) xs)) (i * 5 + c) nan ≡ get_or (five_of (f (get_or xs i d))) c nan
  at c h z = padded-at (λ (x : A). five_of (f x)) 5 (λ x. refl) d c h z n xs i

  pub five-at : det_at (padded n (flat (λ x. five_of (f x)) xs)) i ≡ f (get_or xs i d)
  five-at = λ j. record {
    x1 = padded-first (λ (x : A). five_of (f x)) 5 (λ x. refl) d (omega arith) (rw e) n xs i j;
    y1 = at 1 (omega arith) (rw e) j;
    x2 = at 2 (omega arith) (rw e) j;
    y2 = at 3 (omega arith) (rw e) j;
    score = at 4 (omega arith) (rw e) j;
  }

-- entries of four numbers each, as boxes
module _ {A : Type 0} (f : A → Corners) (d : A) (e : f d ≡ no_corners) (n : ℕ) (xs : List A) (i : ℕ) where
  four : (c : ℕ) → c < 4 → get_or (four_of (f d)) c nan ≡ nan → get_or (padded n (flat (λ x. four_of (f x)) xs)) (i * 4 + c) nan ≡ get_or (four_of (f (get_or xs i d))) c nan
  four c h z = padded-at (λ (x : A). four_of (f x)) 4 (λ x. refl) d c h z n xs i

  pub four-at : corners_at (padded n (flat (λ x. four_of (f x)) xs)) i ≡ f (get_or xs i d)
  four-at = λ j. record {
    x1 = padded-first (λ (x : A). four_of (f x)) 4 (λ x. refl) d (omega arith) (rw e) n xs i j;
    y1 = four 1 (omega arith) (rw e) j;
    x2 = four 2 (omega arith) (rw e) j;
    y2 = four 3 (omega arith) (rw e) j;
  }

pub det-at : (os : List Obj) (i : ℕ) → det_at (dets_of os).cells i ≡ det_of os i
unfolding dets_of
det-at os i = five-at (λ (o : Obj). o.det) no_obj refl 320 os i

pub dets-at : (os : List Obj) → det_at (dets_of os).cells ≡ det_of os
dets-at os = λ i x. det-at os x i

pub dets-length : (os : List Obj) → length os ≤ 64 → length (dets_of os).cells ≡ 320
unfolding dets_of
dets-length os h = padded-length 320 (cells_of os) (omega (arith, flat-length (λ (o : Obj). five_of o.det) 5 (λ o. refl) os))

pub dets-in : (os : List Obj) → dets_in (dets_of os) ≡ map (λ (o : Obj). o.det) os
dets-in os =
    let n : length (dets_in (dets_of os)) ≡ length os = length-tab (det_at (dets_of os).cells) (dets_of os).n ∙ dets-count os in
    ext_get_or no_detection (dets_in (dets_of os)) (map (λ (o : Obj). o.det) os) (n ∙ sym (length-map os (λ (o : Obj). o.det)))
    (λ i h. get_or-tab (det_at (dets_of os).cells) (dets_of os).n no_detection i (omega (arith, length-tab (det_at (dets_of os).cells) (dets_of os).n)) ∙ det-at os i ∙ sym (get_or-map (λ (o : Obj). o.det) os i no_obj))
