-- The views as flat arrays: one track more, and what `assoc` reads at every place, past the tracks too. Assumes nothing.
use mathlib.Core.Path.{◌≡◌, refl, sym, ap, ◌∙◌}
use mathlib.Core.List.{List, [], ◌∷◌, ◌++◌, map, append_assoc}
use borrow.Rule.Slice.PartMut.{put_mid}
use Prim.Native.Nat.{ℕ, ◌+◌, ◌*◌, ◌≤◌, ◌<◌}
use native.Mathlib.Numerals.{add-one}
use native.Mathlib.Omega.{arith}
use lib.Ieee.{Float}
use lib.ListN.{length, get_or, take, drop, length-map}
use lib.Seq.{sets, sets-eq, drop-drop, take-suc, length-take-le}
use Rattle.lists.proofs.All.{map-append}
use Rattle.matching.specs.Associate.{det_at, corners_at, step_at}
use Rattle.frame.specs.Rounds.{View, no_view, view_at}
use Rattle.lists.specs.Lists.{flat}
use Rattle.objects.specs.Cells.{padded}
use Rattle.objects.proofs.Cells.{flat-push, flat-length, padded-length, padded-at, padded-first}
use Rattle.objects.proofs.Reading.{four-at, five-at}
use Rattle.views.specs.Views.{two_of, views_of}

-- ---- one track more

pub views-count : (vs : List View) → (views_of vs).n ≡ length vs
unfolding views_of
views-count vs = refl

module _ {A : Type 0} (view : A → View) (table : List A) where
  abbrev pub seen : ℕ → List View
  seen j = map view (take j table)

  pub seen-count : (j : ℕ) → j ≤ length table → length (seen j) ≡ j
  seen-count j h = length-map (take j table) view ∙ length-take-le j table h

  -- such an array keeps its length
  pub filled-long : (f : View → List Float) (w : ℕ) → ((v : View) → length (f v) ≡ w) → (n j : ℕ) → w * j ≤ n → j ≤ length table → (cells : List Float) → cells ≡ padded n (flat f (seen j)) → length cells ≡ n
  filled-long f w wide n j fit h cells e =
      let c : length (seen j) ≡ j = seen-count j h in
      let m : length (flat f (seen j)) ≤ n = rw (flat-length f w wide (seen j), c) fit in
      ap length e ∙ padded-length n (flat f (seen j)) m

  -- one more turn of a loop that writes w numbers of each track into an array
  pub turn : (f : View → List Float) (w : ℕ) → ((v : View) → length (f v) ≡ w) → (n j : ℕ) → w * j + w ≤ n → j < length table → (z : A) (cells numbers r : List Float) → cells ≡ padded n (flat f (seen j)) → numbers ≡ f (view (get_or table j z)) → r ≡ sets cells (w * j) numbers
      → r ≡ padded n (flat f (seen (j + 1)))
  turn f w wide n j fit h z cells numbers r e g q =
      let c : length (seen j) ≡ j = seen-count j (omega arith) in
      q ∙ (λ i. sets (e i) (w * sym c i) (g i))
      ∙ flat-push f w wide n (seen j) (view (get_or table j z)) (rw c fit)
      ∙ ap (λ (l : List View). padded n (flat f l)) (sym (map-append view (take j table) (get_or table j z ∷ [])) ∙ ap (map view) (sym (take-suc table j z h) ∙ ap (λ (k : ℕ). take k table) (sym (add-one j))))

-- ---- what `assoc` reads

two_at : (n : ℕ) (vs : List View) (i : ℕ) → step_at (padded n (flat (λ (v : View). two_of v.direction) vs)) i ≡ (view_at vs i).direction
two_at n vs i = λ j. record {
  dy = padded-first (λ (v : View). two_of v.direction) 2 (λ v. refl) no_view (omega arith) refl n vs i j;
  dx = padded-at (λ (v : View). two_of v.direction) 2 (λ v. refl) no_view 1 (omega arith) refl n vs i j;
}

pub boxes-at : (vs : List View) → corners_at (views_of vs).boxes ≡ λ j. (view_at vs j).box
unfolding views_of
boxes-at vs = λ i j. four-at (λ (v : View). v.box) no_view refl 256 vs j i

pub directions-at : (vs : List View) → step_at (views_of vs).directions ≡ λ j. (view_at vs j).direction
unfolding views_of
directions-at vs = λ i j. two_at 128 vs j i

pub lasts-at : (vs : List View) → corners_at (views_of vs).lasts ≡ λ j. (view_at vs j).last
unfolding views_of
lasts-at vs = λ i j. four-at (λ (v : View). v.last) no_view refl 256 vs j i

pub previous-at : (vs : List View) → det_at (views_of vs).previous ≡ λ j. (view_at vs j).previous
unfolding views_of
previous-at vs = λ i j. five-at (λ (v : View). v.previous) no_view refl 320 vs j i

-- ---- a run of numbers written over a part of an array is a run of stores

pub mid-sets : {A : Type 0} (l : List A) (k n : ℕ) (xs : List A) → n ≡ length xs → k + n ≤ length l → put_mid k n l xs ≡ sets l k xs
mid-sets l k n xs e h =
    ap (λ r. take k l ++ (xs ++ r)) (drop-drop n k l ∙ ap (λ m. drop (k + m) l) e)
    ∙ sym (append_assoc (take k l) xs (drop (k + length xs) l))
    ∙ sym (sets-eq xs l k (omega (arith, e, h)))
