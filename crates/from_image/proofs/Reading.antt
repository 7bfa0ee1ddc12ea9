-- A loop that fills a list from the front, and a track's numbers read from the whole lists or from its cell. Assumes nothing.
use Rattle.std.specs.Prelude.{Option}
use mathlib.Core.Path.{◌≡◌, refl, sym, ap, ◌∙◌}
use mathlib.Core.Bool.{Bool}
use mathlib.Core.List.{List, [], ◌∷◌, ◌++◌, map}
use Prim.Native.Nat.{ℕ, zero, suc, ◌+◌, ◌*◌, ◌≤◌, ◌<◌}
use native.Mathlib.Omega.{arith}
use lib.Ieee.{Float, nan}
use lib.ListN.{length, drop, get_or}
use Rattle.lists.specs.Lists.{tab}
use Rattle.lists.proofs.All.{map-append}
use Rattle.lists.proofs.Tab.{tab-done, tab-ext}
use Rattle.kalman_filter.specs.declared.DetectBox.{DetectBox}
use Rattle.kalman_filter.specs.declared.Filter.{Filter}
use Rattle.strack.specs.declared.Direction.{Direction}
use Rattle.image.specs.Image.{is_set, filter_at, box_at, list_at, direction_at, kept_at, part, thaw_track, image_of, cell_at}
use Rattle.object.specs.declared.Detection.{Detection}
use Rattle.image.proofs.Parts.{get_d_part, tab-of-part}

-- ---- a list filled from the front, all of it

pub tab-all : {A : Type 0} (f : ℕ → A) (x₀ x : List A) (j n : ℕ) → x ≡ tab f j ++ drop j x₀ → j ≡ n → length x₀ ≤ n → x ≡ tab f n
tab-all f x₀ x j n p e h = p ∙ rw e (tab-done f x₀ n h)

-- ---- the numbers of a part of a list

module _ (fs : List Float) (a n : ℕ) (o b : ℕ) (e : b ≡ a + o) where
  num : (i : ℕ) → o + i < n → get_or fs (b + i) nan ≡ get_or (part a n fs) (o + i) nan
  num i h = get_d_part fs a n nan (o + i) (b + i) (omega arith) h

  filter-part : o + 56 ≤ n → filter_at fs b ≡ filter_at (part a n fs) o
  filter-part h =
      λ i. record {
        x = tab-of-part fs a n nan o b 7 e (omega arith) i;
        p = tab-of-part fs a n nan (o + 7) (b + 7) 49 (omega arith) (omega arith) i;
      }

  box-part : (tag : ℕ) → o + 5 ≤ n → box_at tag fs b ≡ box_at tag (part a n fs) o
  box-part tag h = rw (get_d_part fs a n nan o b e (omega arith), num 1 (omega arith), num 2 (omega arith), num 3 (omega arith), num 4 (omega arith))

  list-part : (tag : ℕ) → o + 4 ≤ n → list_at tag fs b ≡ list_at tag (part a n fs) o
  list-part tag h = rw (get_d_part fs a n nan o b e (omega arith), num 1 (omega arith), num 2 (omega arith), num 3 (omega arith))

  direction-part : (tag : ℕ) → o + 2 ≤ n → direction_at tag fs b ≡ direction_at tag (part a n fs) o
  direction-part tag h = rw (get_d_part fs a n nan o b e (omega arith), num 1 (omega arith))

-- ---- a track

-- what the calls read of the whole lists is what its cell holds
pub track-read : (wide : List ℕ) (fs : List Float) (ws : List ℕ) (k : ℕ) {filter saved : Filter} {frozen : Bool} {last : Option Detection} {list : Option DetectBox} {direction : Option Direction} {kept : List (Option Detection)}
    → filter ≡ filter_at fs (3 + 163 * k) → saved ≡ filter_at fs (3 + 163 * k + 56) → frozen ≡ is_set (get_or ws (5 + 15 * k) 0)
    → last ≡ box_at (get_or ws (5 + 15 * k + 4) 0) fs (3 + 163 * k + 112) → list ≡ list_at (get_or ws (5 + 15 * k + 5) 0) fs (3 + 163 * k + 117)
    → direction ≡ direction_at (get_or ws (5 + 15 * k + 6) 0) fs (3 + 163 * k + 121) → kept ≡ kept_at ws (5 + 15 * k + 7) fs (3 + 163 * k + 123)
    → record { id = get_or wide (2 + k) 0; track = record { filter = filter; saved = saved; frozen = frozen; age = get_or ws (5 + 15 * k + 1) 0; streak = get_or ws (5 + 15 * k + 2) 0; since = get_or ws (5 + 15 * k + 3) 0; last = last; list = list; direction = direction; kept = kept } } ≡ thaw_track (cell_at (image_of wide fs ws) k)
unfolding thaw_track cell_at
track-read wide fs ws k p-filter p-saved p-frozen p-last p-list p-direction p-kept =
    let f : ℕ = 3 + 163 * k in
    let w : ℕ = 5 + 15 * k in
    let fs' : List Float = part f 163 fs in
    let ws' : List ℕ = part w 15 ws in
    let word : (o b : ℕ) → b ≡ w + o → o < 15 → get_or ws b 0 ≡ get_or ws' o 0 = get_d_part ws w 15 0 in
    let e-filter : filter_at fs f ≡ filter_at fs' 0 = filter-part fs f 163 0 f (omega arith) (omega arith) in
    let e-saved : filter_at fs (f + 56) ≡ filter_at fs' 56 = filter-part fs f 163 56 (f + 56) refl (omega arith) in
    let e-frozen : is_set (get_or ws w 0) ≡ is_set (get_or ws' 0 0) = ap is_set (word 0 w (omega arith) (omega arith)) in
    let e-last : box_at (get_or ws (w + 4) 0) fs (f + 112) ≡ box_at (get_or ws' 4 0) fs' 112 =
    ap (λ (t : ℕ). box_at t fs (f + 112)) (word 4 (w + 4) refl (omega arith)) ∙ box-part fs f 163 112 (f + 112) refl (get_or ws' 4 0) (omega arith) in
    let e-list : list_at (get_or ws (w + 5) 0) fs (f + 117) ≡ list_at (get_or ws' 5 0) fs' 117 =
    ap (λ (t : ℕ). list_at t fs (f + 117)) (word 5 (w + 5) refl (omega arith)) ∙ list-part fs f 163 117 (f + 117) refl (get_or ws' 5 0) (omega arith) in
    let e-direction : direction_at (get_or ws (w + 6) 0) fs (f + 121) ≡ direction_at (get_or ws' 6 0) fs' 121 =
    ap (λ (t : ℕ). direction_at t fs (f + 121)) (word 6 (w + 6) refl (omega arith)) ∙ direction-part fs f 163 121 (f + 121) refl (get_or ws' 6 0) (omega arith) in
    let e-kept : kept_at ws (w + 7) fs (f + 123) ≡ kept_at ws' 7 fs' 123 =
    tab-ext (λ j. box_at (get_or ws (w + 7 + j) 0) fs (f + 123 + 5 * j)) (λ j. box_at (get_or ws' (7 + j) 0) fs' (123 + 5 * j)) 8
    (λ j b. ap (λ (t : ℕ). box_at t fs (f + 123 + 5 * j)) (word (7 + j) (w + 7 + j) (omega arith) (omega (arith, b))) ∙ box-part fs f 163 (123 + 5 * j) (f + 123 + 5 * j) (omega arith) (get_or ws' (7 + j) 0) (omega (arith, b))) in
    λ i. record {
      id = get_or wide (2 + k) 0;
      track = record {
        filter = (p-filter ∙ e-filter) i;
        saved = (p-saved ∙ e-saved) i;
        frozen = (p-frozen ∙ e-frozen) i;
        age = word 1 (w + 1) refl (omega arith) i;
        streak = word 2 (w + 2) refl (omega arith) i;
        since = word 3 (w + 3) refl (omega arith) i;
        last = (p-last ∙ e-last) i;
        list = (p-list ∙ e-list) i;
        direction = (p-direction ∙ e-direction) i;
        kept = (p-kept ∙ e-kept) i;
      };
    }

-- ---- the tracker

pub map-tab : {A B : Type 0} (g : A → B) (f : ℕ → A) (n : ℕ) → tab (λ j. g (f j)) n ≡ map g (tab f n)
map-tab g f zero = refl
map-tab g f (suc n) = rw (map-tab g f n) (sym (map-append g (tab f n) (f n ∷ [])))
