-- What the state rules tell of each track: it can be predicted, and given a box after that. Assumes nothing.
use mathlib.Core.Path.{◌≡◌, refl, sym, ap, ◌∙◌}
use mathlib.Core.Bool.{Bool, true, false, ◌&&◌}
use mathlib.Core.List.{List, [], ◌∷◌, map}
use Prim.Native.Nat.{ℕ, zero, suc, ◌+◌, ◌≤◌, ◌<◌}
use native.Mathlib.Nat.{not-suc-le-zero, le_of_suc-le-suc}
use native.Mathlib.Omega.{arith}
use borrow.Author.Tests.{le-leb}
use lib.Dec.{leb}
use lib.ListN.{length, take, get_or, length-take, length-map}
use lib.Seq.{get_or-take}
use Rattle.lists.specs.Lists.{put, keep, every}
use Rattle.lists.proofs.Keep.{keep-short}
use Rattle.strack.specs.Track.{streak_after, track_predict}
use Rattle.frame.specs.declared.Settings.{Settings}
use Rattle.frame.specs.declared.Tracked.{Tracked}
use Rattle.frame.specs.declared.Tracker.{Tracker}
use Rattle.frame.specs.State.{live, track_rules, state_rules}
use Rattle.lapjv_walk.proofs.Cases.{and_left, and_right}
use Rattle.frame.proofs.OwnRules.{streak-after}
use Rattle.frame.proofs.Rules.{ranges, Bounded, bounded, Sound, sound}
use Rattle.frame.specs.Frame.{predict_tracked, unbroken, predicted_tracks}
use Rattle.one_track.specs.OneTrack.{givable}

-- ---- tests

and_both : (a b : Bool) → a ≡ true → b ≡ true → (a && b) ≡ true
and_both a b p q = rw (p, q)

pub every-at : {A : Type 0} (p : A → Bool) (l : List A) (i : ℕ) (d : A) → every p l ≡ true → i < length l → p (get_or l i d) ≡ true
every-at p [] i d e h = absurd (not-suc-le-zero h)
every-at p (x ∷ l) zero d e h = and_left (p x) (every p l) e
every-at p (x ∷ l) (suc i) d e h = every-at p l i d (and_right (p x) (every p l) e) (le_of_suc-le-suc h)

-- at a place among the first n
pub every-taken : {A : Type 0} (p : A → Bool) (l : List A) (n i : ℕ) (d : A) → every p (take n l) ≡ true → i < n → i < length l → p (get_or l i d) ≡ true
every-taken p l n i d e h m = sym (ap p (get_or-take n l i d h)) ∙ every-at p (take n l) i d e (omega (arith, length-take n l))

-- ---- prediction

pub can-predict : (t : Tracker) (i : ℕ) (d : Tracked) → Sound t → i < t.count → i < length t.table
    → ((get_or t.table i d).track.age + 1 < 4294967296) × ((get_or t.table i d).track.since + 1 < 4294967296)
can-predict t i d s h m =
    let b = bounded t.settings t.frames (get_or t.table i d) (every-taken (track_rules t.settings t.frames) t.table t.count i d s.each h m) in
    (omega (arith, b.age, s.frames), omega (arith, b.since, (ranges t.settings s.in-range).max-age))

predict-givable : (s : Settings) (frames : ℕ) (e : Tracked) → s.max_age ≤ 255 → frames ≤ 1000000 → Bounded s frames e → givable (predict_tracked e) ≡ true
unfolding givable track_predict
predict-givable s frames e m f b =
    and_both (leb (e.track.since + 1) 256) (leb (streak_after e.track.since e.track.streak) 1000000) (le-leb (e.track.since + 1) 256 (omega (arith, b.since, m)))
    (le-leb (streak_after e.track.since e.track.streak) 1000000 (omega (arith, streak-after e.track b.own, b.age, f)))

kept-givable : (s : Settings) (frames : ℕ) (es : List Tracked) → s.max_age ≤ 255 → frames ≤ 1000000 → every (track_rules s frames) es ≡ true → every givable (keep unbroken (map predict_tracked es)) ≡ true
kept-givable s frames [] m f h = refl
kept-givable s frames (e ∷ es) m f h =
    go (unbroken (predict_tracked e)) (predict-givable s frames e m f (bounded s frames e (and_left (track_rules s frames e) (every (track_rules s frames) es) h)))
    (kept-givable s frames es m f (and_right (track_rules s frames e) (every (track_rules s frames) es) h))
  where
    go : (b : Bool) → givable (predict_tracked e) ≡ true → every givable (keep unbroken (map predict_tracked es)) ≡ true → every givable (put b (predict_tracked e) (keep unbroken (map predict_tracked es))) ≡ true
    go true p q = and_both (givable (predict_tracked e)) (every givable (keep unbroken (map predict_tracked es))) p q
    go false p q = q

pub predicted-givable : (t : Tracker) → state_rules t ≡ true → every givable (predicted_tracks (live t)) ≡ true
unfolding predicted_tracks
predicted-givable t h = let s = sound t h in kept-givable t.settings t.frames (live t) (ranges t.settings s.in-range).max-age s.frames s.each

pub predicted-short : (t : Tracker) → state_rules t ≡ true → length (predicted_tracks (live t)) ≤ 64
unfolding predicted_tracks
predicted-short t h =
    omega (arith, (sound t h).count, keep-short unbroken (map predict_tracked (live t)), length-map (live t) predict_tracked, length-take t.count t.table)
