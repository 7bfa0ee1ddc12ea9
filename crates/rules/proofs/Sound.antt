-- The state rules of the live tracks, one track after another. Assumes nothing.
use mathlib.Core.Path.{◌≡◌, refl, ap, ◌∙◌}
use mathlib.Core.Bool.{Bool, true, false, ◌&&◌}
use mathlib.Core.List.{List, ◌∷◌}
use Prim.Native.Nat.{ℕ, suc, ◌+◌, ◌≤◌, ◌<◌}
use native.Mathlib.Numerals.{add-one}
use native.Mathlib.Omega.{arith}
use lib.Dec.{leb, ltb}
use lib.ListN.{length, take, drop, get_or, drop_of_length-le}
use lib.Seq.{drop-cons, get_or-take, length-take-le}
use borrow.Author.Tests.{ltb-true}
use Rattle.lists.specs.Lists.{every}
use Rattle.frame.specs.declared.Settings.{Settings}
use Rattle.frame.specs.declared.Tracked.{Tracked}
use Rattle.frame.specs.State.{rising, track_rules}
use Rattle.rules.specs.Rules.{sound_at, sound_from}

module _ (s : Settings) (frames issued : ℕ) where
  -- the test of one track
  abbrev tested : ℕ → Tracked → Bool
  tested from e = sound_at s frames issued from e

  abbrev rest : ℕ → List Tracked → Bool
  rest from es = sound_from s frames issued from es

  first : (from : ℕ) (e : Tracked) (es : List Tracked) (q : Bool) → tested from e ≡ q → rest from (e ∷ es) ≡ (q && rest (suc e.id) es)
  first from e es q h = go (leb from e.id) (ltb e.id issued) (track_rules s frames e) (rising (suc e.id) issued es) (every (track_rules s frames) es) ∙ ap (λ (b : Bool). b && rest (suc e.id) es) h
    where
      go : (a b c r v : Bool) → ((a && b && r) && (c && v)) ≡ ((a && b && c) && (r && v))
      go false b c r v = refl
      go true false c r v = refl
      go true true false false v = refl
      go true true false true v = refl
      go true true true r v = refl

  module _ (l : List Tracked) (n i from : ℕ) (d : Tracked) (short : n ≤ length l) (below : i < n) where
    here : drop i (take n l) ≡ get_or l i d ∷ drop (i + 1) (take n l)
    here = drop-cons (take n l) i d (omega (arith, length-take-le n l short)) ∙ rw (get_or-take n l i d below, add-one i)

    -- the track at i passes
    pub passed : tested from (get_or l i d) ≡ true → rest from (drop i (take n l)) ≡ rest ((get_or l i d).id + 1) (drop (i + 1) (take n l))
    passed h = ap (rest from) here ∙ first from (get_or l i d) (drop (i + 1) (take n l)) true h ∙ rw (add-one (get_or l i d).id)

    -- or doesn't
    pub failed : tested from (get_or l i d) ≡ false → rest from (drop i (take n l)) ≡ false
    failed h = ap (rest from) here ∙ first from (get_or l i d) (drop (i + 1) (take n l)) false h

  pub none_left : (l : List Tracked) (n from : ℕ) → n ≤ length l → rest from (drop n (take n l)) ≡ true
  none_left l n from h = rw (drop_of_length-le (take n l) {i = n} (omega (arith, length-take-le n l h)))

  -- an id that passed can be followed by another
  pub id_below : (from : ℕ) (e : Tracked) → tested from e ≡ true → e.id < issued
  id_below from e h = ltb-true e.id issued (go (leb from e.id) (ltb e.id issued) (track_rules s frames e) h)
    where
      go : (a b c : Bool) → (a && b && c) ≡ true → b ≡ true
      go a true c e = refl
      go true false c e = e
      go false false c e = e
