-- A frame on a state that obeys the state rules leaves a state that obeys them. Assumes nothing.
use mathlib.Core.Path.{◌≡◌, refl, sym, ap, subst, ◌∙◌}
use mathlib.Core.Bool.{Bool, true, false}
use mathlib.Core.List.{List, [], ◌∷◌, map}
use Prim.Native.Nat.{ℕ, suc, ◌+◌, ◌-◌, ◌≤◌, ◌<◌}
use native.Mathlib.Omega.{arith}
use lib.ListN.{length, replicate, length-append}
use lib.Seq.{take-append_seam}
use borrow.Author.Tests.{leb-true}
use Rattle.lists.specs.Lists.{put, keep, every, All}
use Rattle.lists.proofs.All.{all_append, keep_all}
use Rattle.lists.proofs.Keep.{keep-short}
use Rattle.lapjv_walk.proofs.Cases.{and_left, and_right}
use Rattle.strack.specs.declared.Track.{Track}
use Rattle.strack.specs.Track.{birth_of, track_predict}
use Rattle.frame.specs.declared.Settings.{Settings}
use Rattle.frame.specs.declared.Tracked.{Tracked}
use Rattle.frame.specs.declared.Tracker.{Tracker}
use Rattle.frame.specs.State.{blank, live, state_of, rising, track_rules, state_rules}
use Rattle.frame.specs.Objects.{Obj}
use Rattle.frame.specs.Rounds.{Slot, Work}
use Rattle.frame.specs.Frame.{with_track, predict_tracked, unbroken, predicted_tracks, give, give_all, births, is_young}
use Rattle.frame.proofs.Rules.{Bounded, bounded, track-rules, Sound, sound, state-rules}
use Rattle.frame.proofs.OwnRules.{Own, own-born, own-given, given-age}
use Rattle.frame.proofs.Rising.{given, with_born, kept-rising}

-- ---- each track

module _ (s : Settings) (frames : ℕ) where
  -- a predicted track: the one before it obeyed the rules
  abbrev Ahead : Tracked → Type 0
  Ahead e = (u : Track) × (e.track ≡ track_predict u) × (u.age ≤ frames) × Own u

  ahead : (e : Tracked) → track_rules s frames e ≡ true → Ahead (predict_tracked e)
  ahead e h = let b : Bounded s frames e = bounded s frames e h in (e.track, refl, b.age, b.own)

  all-ahead : (es : List Tracked) → every (track_rules s frames) es ≡ true → All Ahead (map predict_tracked es)
  all-ahead [] h = tt
  all-ahead (e ∷ es) h =
      let a = track_rules s frames e in
      let b = every (track_rules s frames) es in
      (ahead e (and_left a b h), all-ahead es (and_right a b h))

  -- a track at the frame's end, whether it ages out or not
  abbrev Aged : Tracked → Type 0
  Aged e = (e.track.age ≤ frames + 1) × Own e.track

  given-aged : (dt : ℕ) (es : List Tracked) (ss : List Slot) → All Ahead es → All Aged (give_all dt es ss)
  given-aged dt [] ss h = tt
  given-aged dt (e ∷ es) [] h = tt
  given-aged dt (e ∷ es) (a ∷ ss) h = (here, given-aged dt es ss h.1)
    where
      u : Track
      u = h.0.0

      here : Aged (with_track e (give dt a.got e.track))
      here = subst (λ (x : Track). Aged (with_track e (give dt a.got x))) (sym h.0.1) (omega (arith, given-age dt a.got u, h.0.2), own-given u h.0.3 dt a.got)

  born-aged : (i : ℕ) (os : List Obj) → All Aged (births i os)
  unfolding birth_of
  born-aged i [] = tt
  born-aged i (o ∷ os) = ((omega arith, own-born o.det), born-aged (suc i) os)

  young-rules : (e : Tracked) → is_young s e ≡ true → Aged e → track_rules s (frames + 1) e ≡ true
  young-rules e y a = track-rules s (frames + 1) e (record { age = a.0; since = leb-true e.track.since s.max_age y; own = a.1 })

  kept-rules : (es : List Tracked) → All Aged es → every (track_rules s (frames + 1)) (keep (is_young s) es) ≡ true
  kept-rules [] h = refl
  kept-rules (e ∷ es) h = go (is_young s e) refl (kept-rules es h.1)
    where
      go : (b : Bool) → is_young s e ≡ b → every (track_rules s (frames + 1)) (keep (is_young s) es) ≡ true → every (track_rules s (frames + 1)) (put b e (keep (is_young s) es)) ≡ true
      go true y r = rw (young-rules e y h.0, r)
      go false y r = r

-- ---- the state

given-short : (dt : ℕ) (es : List Tracked) (ss : List Slot) → length (give_all dt es ss) ≤ length es
given-short dt [] ss = omega arith
given-short dt (e ∷ es) [] = omega arith
given-short dt (e ∷ es) (s ∷ ss) = omega (arith, given-short dt es ss)

born-count : (i : ℕ) (os : List Obj) → length (births i os) ≡ length os
born-count i [] = refl
born-count i (o ∷ os) = omega (arith, born-count (suc i) os)

pub live_of : (s : Settings) (f i : ℕ) (es : List Tracked) → live (state_of s f i es) ≡ es
unfolding state_of
live_of s f i es = take-append_seam es (replicate (64 - length es) blank)

module _ (t : Tracker) (w : Work) where
  abbrev left-live : List Tracked
  left-live = keep (is_young t.settings) (with_born t w)

  module _ (fits : length (predicted_tracks (live t)) + length w.left ≤ 64) where
    pub left-few : length left-live ≤ 64
    left-few =
        omega
        (arith, fits, keep-short (is_young t.settings) (with_born t w), length-append (given t w) (births t.issued w.left), given-short t.settings.delta_t (predicted_tracks (live t)) w.slots, born-count t.issued w.left)

    module _ (fine : state_rules t ≡ true) (going : t.frames < 1000000) where
      all-aged : All (Aged t.settings t.frames) (with_born t w)
      unfolding predicted_tracks
      all-aged =
          all_append (Aged t.settings t.frames) (given t w) (births t.issued w.left)
          (given-aged t.settings t.frames t.settings.delta_t (predicted_tracks (live t)) w.slots (keep_all (Ahead t.settings t.frames) unbroken (map predict_tracked (live t)) (all-ahead t.settings t.frames (live t) (sound t fine).each)))
          (born-aged t.settings t.frames t.issued w.left)

      pub sound-after : state_rules (state_of t.settings (t.frames + 1) (t.issued + length w.left) left-live) ≡ true
      unfolding state_of
      sound-after =
          let l : live (state_of t.settings (t.frames + 1) (t.issued + length w.left) left-live) ≡ left-live = live_of t.settings (t.frames + 1) (t.issued + length w.left) left-live in
          let p : Sound t = sound t fine in
          state-rules (state_of t.settings (t.frames + 1) (t.issued + length w.left) left-live) (record {
            in-range = p.in-range;
            frames = omega (arith, going);
            issued = omega (arith, p.issued, fits);
            count = left-few;
            ids = ap (rising 0 (t.issued + length w.left)) l ∙ kept-rising t w fine (is_young t.settings);
            each = ap (every (track_rules t.settings (t.frames + 1))) l ∙ kept-rules t.settings t.frames (with_born t w) all-aged;
          })
