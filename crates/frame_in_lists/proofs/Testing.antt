-- The test of an image's state, one live track after another. Assumes nothing.
use mathlib.Core.Path.{◌≡◌, refl, ap, ◌∙◌}
use mathlib.Core.Bool.{Bool, true, false, ◌&&◌}
use mathlib.Core.List.{List, [], ◌∷◌, map}
use Prim.Native.Nat.{ℕ, ◌+◌, ◌≤◌, ◌<◌}
use native.Mathlib.Numerals.{add-one}
use native.Mathlib.Omega.{arith}
use lib.ListN.{length, take, drop, get_or, length-map, drop_of_length-le, get_or-map}
use lib.Seq.{drop-cons, get_or-take, length-take-le}
use Rattle.lists.specs.Lists.{every}
use Rattle.lapjv_walk.proofs.Cases.{and_left, and_right, and-false}
use Rattle.frame.specs.declared.Settings.{Settings}
use Rattle.frame.specs.declared.Tracked.{Tracked}
use Rattle.frame.specs.State.{state_rules}
use Rattle.rules.specs.Rules.{total_rules, sound_at, sound_from}
use Rattle.rules.proofs.Sound.{passed, failed, none_left}
use Rattle.image.specs.declared.TrackerImage.{TrackerImage}
use Rattle.image.specs.Image.{Cell, tagged, thaw_track, thaw_tracker, meant_track, meant, cells, issued_in, count_in, byte_in, frames_in}
use Rattle.frame_in_lists.specs.InPlace.{settings_in, usable_totals}

-- ---- the live tracks

module _ (s : Settings) (frames issued : ℕ) (w : List Cell) (n : ℕ) where
  abbrev l : List Tracked
  l = map thaw_track w

  -- the tracks from k on are usable
  abbrev pub usable : ℕ → ℕ → Bool
  usable from k = every meant_track (drop k (take n w)) && sound_from s frames issued from (drop k (take n l))

  module _ (from k : ℕ) (d : Cell) (short : n ≤ length w) (below : k < n) where
    abbrev c : Cell
    c = get_or w k d

    here : drop k (take n w) ≡ c ∷ drop (k + 1) (take n w)
    here = drop-cons (take n w) k d (omega (arith, length-take-le n w short)) ∙ rw (get_or-take n w k d below, add-one k)

    meant-here : every meant_track (drop k (take n w)) ≡ (meant_track c && every meant_track (drop (k + 1) (take n w)))
    meant-here = ap (every meant_track) here

    at : get_or l k (thaw_track d) ≡ thaw_track c
    at = get_or-map thaw_track w k d

    long : n ≤ length l
    long = omega (arith, short, length-map w thaw_track)

    -- the track at k passes
    pub usable-passed : (meant_track c && sound_at s frames issued from (thaw_track c)) ≡ true → usable from k ≡ usable ((thaw_track c).id + 1) (k + 1)
    usable-passed h =
        let m : meant_track c ≡ true = and_left (meant_track c) (sound_at s frames issued from (thaw_track c)) h in
        let o : sound_at s frames issued from (get_or l k (thaw_track d)) ≡ true = ap (sound_at s frames issued from) at ∙ and_right (meant_track c) (sound_at s frames issued from (thaw_track c)) h in
        let p : sound_from s frames issued from (drop k (take n l)) ≡ sound_from s frames issued ((thaw_track c).id + 1) (drop (k + 1) (take n l))
        = passed s frames issued l n k from (thaw_track d) long below o ∙ ap (λ (e : Tracked). sound_from s frames issued (e.id + 1) (drop (k + 1) (take n l))) at in
        let q : every meant_track (drop k (take n w)) ≡ every meant_track (drop (k + 1) (take n w)) = meant-here ∙ ap (λ (b : Bool). b && every meant_track (drop (k + 1) (take n w))) m in
        (λ i. q i && p i)

    -- or doesn't
    pub usable-failed : (meant_track c && sound_at s frames issued from (thaw_track c)) ≡ false → usable from k ≡ false
    usable-failed h = go (meant_track c) refl h
      where
        go : (b : Bool) → meant_track c ≡ b → (b && sound_at s frames issued from (thaw_track c)) ≡ false → usable from k ≡ false
        go false e f = ap (λ (b : Bool). b && sound_from s frames issued from (drop k (take n l))) (meant-here ∙ ap (λ (b : Bool). b && every meant_track (drop (k + 1) (take n w))) e)
        go true e f = ap (λ (b : Bool). every meant_track (drop k (take n w)) && b) (failed s frames issued l n k from (thaw_track d) long below (ap (sound_at s frames issued from) at ∙ f)) ∙ and-false (every meant_track (drop k (take n w)))

  pub usable-all : (from : ℕ) → n ≤ length w → usable from n ≡ true
  usable-all from h =
      let m : drop n (take n w) ≡ [] = drop_of_length-le (take n w) {i = n} (omega (arith, length-take-le n w h)) in
      (λ i. every meant_track (m i) && none_left s frames issued l n from (omega (arith, h, length-map w thaw_track)) i)

-- ---- the whole state

module _ (i : TrackerImage) where
  abbrev pub tracks : Bool
  tracks = usable (settings_in i) (frames_in i) (issued_in i) (cells i) (count_in i) 0 0

  apart : (u m a r e : Bool) → ((u && m) && (a && r && e)) ≡ ((u && a) && (m && (r && e)))
  apart false m a r e = refl
  apart true m true r e = refl
  apart true false false r e = refl
  apart true true false r e = refl

  tested : (meant i && state_rules (thaw_tracker i)) ≡ (usable_totals i && tracks)
  unfolding meant state_rules total_rules thaw_tracker
  tested = apart (tagged (byte_in i)) _ (total_rules (settings_in i) (frames_in i) (issued_in i) (count_in i)) _ _

  pub bad-totals : usable_totals i ≡ false → (meant i && state_rules (thaw_tracker i)) ≡ false
  bad-totals h = tested ∙ ap (λ (b : Bool). b && tracks) h

  pub bad-tracks : tracks ≡ false → (meant i && state_rules (thaw_tracker i)) ≡ false
  bad-tracks h = tested ∙ ap (λ (b : Bool). usable_totals i && b) h ∙ and-false (usable_totals i)

  pub all-usable : usable_totals i ≡ true → tracks ≡ true → (meant i && state_rules (thaw_tracker i)) ≡ true
  all-usable h k = tested ∙ (λ j. h j && k j)
