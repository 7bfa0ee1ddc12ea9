-- Every replay is sound: each step keeps it. Assumes nothing.
use mathlib.Core.Path.{◌≡◌, refl}
use Rattle.std.specs.Prelude.{Some}
use mathlib.Core.List.{List, [], ◌∷◌}
use Prim.Native.Nat.{ℕ, zero, suc, ◌≤◌}
use native.Mathlib.Omega.{arith}
use native.Mathlib.Numerals.{add-one}
use Rattle.kalman_filter.specs.declared.DetectBox.{DetectBox}
use Rattle.kalman_filter.specs.Filter.{predict_of}
use Rattle.object.specs.declared.Detection.{Detection}
use Rattle.object.specs.Object.{corners_of}
use Rattle.strack.specs.Boxes.{measure_of}
use Rattle.strack.specs.Track.{streak_after, area_held}
use Rattle.history.specs.Uncut.{Uncut, born, predicted, boxed, missed}
use Rattle.history.specs.Replay.{Line, miss, box, written, replay}
use Rattle.history.specs.Sound.{Phase, never, watched, lost, Sound}
use Rattle.history.proofs.Ages.{newest-age-more, newest-more}

streak-falls : (since streak : ℕ) → streak_after since streak ≤ streak
streak-falls zero streak = omega arith
streak-falls (suc n) streak = omega arith

sound-born : (b : Detection) → Sound (born b)
unfolding born
sound-born b = record {
  streak_within = omega arith;
  since_within = omega arith;
  ages_within = omega arith;
  newest_last = refl;
  list_last = refl;
  phase = never refl refl refl refl refl refl;
}

module _ (dt : ℕ) (b : Detection) (w : Uncut) where
  abbrev z' : DetectBox
  z' = measure_of (corners_of b)

  -- whatever came before, also where the box ends a gap
  box-on-top : (boxed dt b (predicted w)).history_obs ≡ Some z' ∷ w.history_obs
  unfolding boxed predicted
  box-on-top = refl

  watched-after : Phase w → Phase (boxed dt b (predicted w))
  unfolding boxed predicted
  watched-after (never l o s e n a) =
      watched z' w.history_obs refl refl (rw (o, s)) box-on-top refl (omega arith)
  watched-after (watched z h l o s e n a) =
      watched z' w.history_obs refl refl (rw o s) box-on-top refl (omega arith)
  watched-after (lost n f z h l o s e m a) =
      watched z' w.history_obs refl refl (rw (o, s)) box-on-top refl (omega arith)

  sound-box : Sound w → Sound (boxed dt b (predicted w))
  unfolding boxed predicted
  sound-box h = record {
    streak_within = omega (arith, streak-falls w.since w.streak, h.streak_within);
    since_within = omega arith;
    ages_within = omega (arith, newest-age-more w.observations w.age b h.ages_within);
    newest_last = newest-more w.observations w.age b h.ages_within;
    list_last = refl;
    phase = watched-after h.phase;
  }

module _ (w : Uncut) where
  lost-after : Phase w → Phase (missed (predicted w))
  unfolding missed predicted
  lost-after (never l o s e n a) = never l refl (rw (o, s)) e n (rw a)
  lost-after (watched z h l o s e n a) =
      lost 0 (predict_of (area_held w.filter)) z h l refl (rw o) (rw e) (rw n) (omega arith)
  lost-after (lost n f z h l o s e m a) =
      lost (suc n) f z h l refl (rw (o, s)) (rw e) (rw m (add-one (suc n))) (omega arith)

  sound-miss : Sound w → Sound (missed (predicted w))
  unfolding missed predicted
  sound-miss h = record {
    streak_within = omega (arith, streak-falls w.since w.streak, h.streak_within);
    since_within = omega (arith, h.since_within);
    ages_within = omega (arith, h.ages_within);
    newest_last = h.newest_last;
    list_last = h.list_last;
    phase = lost-after h.phase;
  }

pub sound-written : (dt : ℕ) (l : Line) (w : Uncut) → Sound w → Sound (written dt l (predicted w))
sound-written dt miss w h = sound-miss w h
sound-written dt (box b) w h = sound-box dt b w h

pub replay-sound : (dt : ℕ) (b : Detection) (ls : List Line) → Sound (replay dt b ls)
unfolding replay
replay-sound dt b [] = sound-born b
replay-sound dt b (l ∷ ls) = sound-written dt l (replay dt b ls) (replay-sound dt b ls)
