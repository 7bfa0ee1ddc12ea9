-- A track written: how many numbers it has, and its writes one after another. Assumes nothing.
use Rattle.std.specs.Prelude.{Option, Some, None}
use mathlib.Core.Path.{◌≡◌, refl, ap, ◌∙◌}
use mathlib.Core.List.{List, ◌++◌, map}
use Prim.Native.Nat.{ℕ, ◌+◌, ◌*◌, ◌≤◌}
use native.Mathlib.Numerals.{unary_clauses}
use native.Mathlib.Omega.{arith}
use lib.Ieee.{Float}
use lib.ListN.{length, set, take, length-map, length-append}
use lib.Seq.{sets, length-take-le}
use mir.Val.{Val}
use denote.Laws.{Is}
use Rattle.lists.specs.Lists.{flat}
use Rattle.lists.proofs.All.{all_any, flat-long}
use Rattle.kalman_filter.specs.declared.Filter.{Filter}
use Rattle.kalman_filter.specs.contracts.Filter as Fi
use Rattle.strack.specs.declared.Direction.{Direction}
use Rattle.strack.specs.declared.Track.{Track}
use Rattle.strack.specs.contracts.Track as Tr
use Rattle.frame.specs.declared.Tracked.{Tracked}
use Rattle.frame.specs.contracts.Tracked as Td
use Rattle.std.specs.Int.{from_bool}
use Rattle.image.specs.Image.{filter_floats, tag_of, box_floats, list_floats, direction_floats, freeze_track, floats_of, words_of}
use Rattle.kalman_filter.specs.declared.DetectBox.{DetectBox}
use Rattle.object.specs.declared.Detection.{Detection}
use Rattle.to_image.proofs.Sets.{sets-next}

-- ---- how many numbers

module _ (f : Filter) (vs : List Val) (h : Is Fi.the_row f vs) where
  pub x-long : length f.x ≡ 7
  x-long = h.1.1.0.1.0.1

  pub p-long : length f.p ≡ 49
  p-long = h.1.1.1.0.1.0.1

  pub filter-long : length (filter_floats f) ≡ 56
  filter-long = omega (arith, length-append f.x f.p, x-long, p-long)

pub box-long : (b : Option Detection) → length (box_floats b) ≡ 5
box-long None = refl
box-long (Some d) = refl

pub list-long : (b : Option DetectBox) → length (list_floats b) ≡ 4
list-long None = refl
list-long (Some z) = refl

pub direction-long : (d : Option Direction) → length (direction_floats d) ≡ 2
direction-long None = refl
direction-long (Some d) = refl

pub boxes-long : (ks : List (Option Detection)) → length (flat box_floats ks) ≡ 5 * length ks
boxes-long ks = flat-long box_floats 5 ks (all_any box-long ks)

-- the numbers of the first j
pub first-long : (ks : List (Option Detection)) (j : ℕ) → j ≤ length ks → length (flat box_floats (take j ks)) ≡ 5 * j
first-long ks j h = boxes-long (take j ks) ∙ ap (λ (n : ℕ). 5 * n) (length-take-le j ks h)

module _ (t : Track) (vs : List Val) (h : Is Tr.the_row t vs) where
  pub kept-long : length t.kept ≡ 8
  kept-long = h.1.1.1.1.1.1.1.1.1.1.1.0.1.0.1

  pub first-filter : length (filter_floats t.filter) ≡ 56
  first-filter = filter-long t.filter _ h.1.1.0

  pub saved-filter : length (filter_floats t.saved) ≡ 56
  saved-filter = filter-long t.saved _ h.1.1.1.0

pub full : (e : Tracked) (vs : List Val) → Is Td.the_row e vs → (length (floats_of e) ≡ 163) × (length (words_of e) ≡ 15)
unfolding freeze_track
full e vs h =
    let t : Track = e.track in
    let i : Is Tr.the_row t h.0.1.0 = h.1.1.1.0 in
    let d : List Float = direction_floats t.direction ++ flat box_floats t.kept in
    let l : List Float = list_floats t.list ++ d in
    let b : List Float = box_floats t.last ++ l in
    let s : List Float = filter_floats t.saved ++ b in (
      omega (
        arith,
        length-append (filter_floats t.filter) s,
        length-append (filter_floats t.saved) b,
        length-append (box_floats t.last) l,
        length-append (list_floats t.list) d,
        length-append (direction_floats t.direction) (flat box_floats t.kept),
        first-filter t _ i,
        saved-filter t _ i,
        box-long t.last,
        list-long t.list,
        direction-long t.direction,
        boxes-long t.kept,
        kept-long t _ i,
      ),
      omega (arith, length-map t.kept tag_of, kept-long t _ i),
    )

-- ---- the writes one after another

module _ (e : Tracked) where
  abbrev t : Track
  t = e.track

  -- its floats: six runs
  pub floats-put : (vs : List Val) → Is Td.the_row e vs → (k : ℕ) (l a b c d f r : List Float)
      → a ≡ sets l k (filter_floats t.filter)
      → b ≡ sets a (k + 56) (filter_floats t.saved)
      → c ≡ sets b (k + 112) (box_floats t.last)
      → d ≡ sets c (k + 117) (list_floats t.list)
      → f ≡ sets d (k + 121) (direction_floats t.direction)
      → r ≡ sets f (k + 123) (flat box_floats t.kept)
      → r ≡ sets l k (floats_of e)
  unfolding freeze_track
  floats-put vs h k l a b c d f r p₁ p₂ p₃ p₄ p₅ p₆ =
      let one : k + 56 ≡ k + length (filter_floats t.filter) = omega (arith, first-filter t _ h.1.1.1.0) in
      let two : k + 112 ≡ k + 56 + length (filter_floats t.saved) = omega (arith, saved-filter t _ h.1.1.1.0) in
      let three : k + 117 ≡ k + 112 + length (box_floats t.last) = omega (arith, box-long t.last) in
      let four : k + 121 ≡ k + 117 + length (list_floats t.list) = omega (arith, list-long t.list) in
      let five : k + 123 ≡ k + 121 + length (direction_floats t.direction) = omega (arith, direction-long t.direction) in
      sets-next l a r k (k + 56) (filter_floats t.filter) _ p₁ one
      (sets-next a b r (k + 56) (k + 112) (filter_floats t.saved) _ p₂ two
      (sets-next b c r (k + 112) (k + 117) (box_floats t.last) _ p₃ three
      (sets-next c d r (k + 117) (k + 121) (list_floats t.list) _ p₄ four
      (sets-next d f r (k + 121) (k + 123) (direction_floats t.direction) (flat box_floats t.kept) p₅ five p₆))))

  -- its words: seven stores and a run
  pub words-put : (k frozen last list direction : ℕ) (l r : List ℕ)
      → frozen ≡ from_bool t.frozen
      → last ≡ tag_of t.last
      → list ≡ tag_of t.list
      → direction ≡ tag_of t.direction
      → r ≡ sets (set (set (set (set (set (set (set l k frozen) (k + 1) t.age) (k + 2) t.streak) (k + 3) t.since) (k + 4) last) (k + 5) list) (k + 6) direction) (k + 7) (map tag_of t.kept)
      → r ≡ sets l k (words_of e)
  unfolding freeze_track
  words-put k frozen last list direction l r p₁ p₂ p₃ p₄ p = rw (← p₁, ← p₂, ← p₃, ← p₄) (simp unary_clauses at p)
