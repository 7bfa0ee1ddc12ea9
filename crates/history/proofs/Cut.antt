-- Cutting commutes with birth, predict, a box and a miss, from every replay: the code may keep the last box of the list and eight ages.
-- Assumes nothing.
use mathlib.Core.Path.{◌≡◌, refl, sym, ap, ◌∙◌}
use Rattle.std.specs.Prelude.{Option, Some, None}
use Rattle.std.specs.Option.{is_some, option_or, unwrap_or}
use mathlib.Core.List.{List, [], ◌∷◌}
use Prim.Native.Nat.{ℕ, zero, suc, ◌+◌, ◌≤◌}
use native.Mathlib.Omega.{arith}
use Rattle.kalman_filter.specs.declared.DetectBox.{DetectBox}
use Rattle.kalman_filter.specs.Filter.{predict_of}
use Rattle.gap.specs.Gap.{replay_of}
use Rattle.lists.specs.Lists.{pick}
use Rattle.object.specs.declared.Detection.{Detection}
use Rattle.strack.specs.declared.Track.{Track}
use Rattle.object.specs.Object.{corners_of}
use Rattle.strack.specs.Boxes.{measure_of}
use Rattle.strack.specs.Track.{streak_after, no_filter, filter_after, saved_after, freezes, heading_from, heading_of, k_previous_of, previous_of, birth_of, track_predict, track_box, track_miss, area_held}
use Rattle.history.specs.Uncut.{Uncut, Side, at_box, saved_at, last_held, frames_back, find_previous_box, k_previous_obs, heading_of_uncut, born, predicted, boxed, missed}
use Rattle.history.specs.Replay.{Line, miss, box, written, replay, cut, written_cut, replay_cut}
use Rattle.history.specs.Sound.{Phase, never, watched, lost, Sound, misses}
use Rattle.history.proofs.Ages.{kept-box, kept-miss, oldest-kept, previous-in}
use Rattle.history.proofs.Sound.{replay-sound}

-- misses on top of the list hide no box
pub held-under : (n : ℕ) (z : DetectBox) (h : List (Option DetectBox)) → last_held (misses n (Some z ∷ h)) ≡ Some z
held-under zero z h = refl
held-under (suc n) z h = held-under n z h

-- the gap is the frames since the last box
back-under : (n : ℕ) (z : DetectBox) (h : List (Option DetectBox)) → frames_back (misses n (Some z ∷ h)) ≡ n + 1
back-under zero z h = refl
back-under (suc n) z h = ap suc (back-under n z h) ∙ omega arith

pub gap-is-since : (n : ℕ) (w : Uncut) (z : DetectBox) (h : List (Option DetectBox)) → w.history_obs ≡ misses (suc n) (Some z ∷ h) → w.since ≡ suc n → frames_back w.history_obs ≡ w.since + 1
gap-is-since n w z h e m = rw (e, m) (back-under (suc n) z h)

pub cut-born : (b : Detection) → cut (born b) ≡ birth_of b
unfolding cut born birth_of
cut-born b = refl

-- ---- the boxes before

module _ (dt : ℕ) (few : dt ≤ 8) (w : Uncut) where
  pub previous-found : find_previous_box dt (predicted w) ≡ previous_of dt (track_predict (cut w))
  unfolding cut track_predict predicted find_previous_box previous_of
  previous-found = ap (λ (l : Option Detection). option_or l w.last) (sym (oldest-kept w.observations w.age dt few))

  previous-cut : pick (is_some w.last) (find_previous_box dt (predicted w)) None ≡ k_previous_of dt (track_predict (cut w))
  unfolding cut track_predict k_previous_of
  previous-cut = ap (λ (l : Option Detection). pick (is_some w.last) l None) previous-found

  -- k_previous_obs of the whole track, asked after predict, is that of the cut one
  pub k-previous-cut : Sound w → k_previous_obs dt (predicted w) ≡ k_previous_of dt (track_predict (cut w))
  unfolding k_previous_obs predicted find_previous_box
  k-previous-cut h = previous-in dt (w.age + 1) w.observations w.last h.newest_last ∙ previous-cut

-- ---- a box

module _ (dt : ℕ) (few : dt ≤ 8) (b : Detection) (w : Uncut) (h : Sound w) where
  abbrev z' : DetectBox
  z' = measure_of (corners_of b)

  abbrev side : Side
  side = at_box z' (predicted w) w.observed w.saved

  filter-cut : Phase w → side.filter ≡ filter_after (is_some w.saved) (track_predict (cut w)) z'
  unfolding cut track_predict predicted
  filter-cut (never l o s e n a) = rw (o, s)
  filter-cut (watched z k l o s e n a) = rw (o, s)
  filter-cut (lost n f z k l o s e m a) = rw (o, s, e, m, held-under n z k) (ap (λ (g : ℕ). replay_of g z z' f) (ap (λ (j : ℕ). suc j) (back-under n z k) ∙ omega arith))

  unsaved : Phase w → side.saved ≡ None
  unfolding predicted
  unsaved (never l o s e n a) = rw (o, s)
  unsaved (watched z k l o s e n a) = rw o s
  unsaved (lost n f z k l o s e m a) = rw (o, s)

  heading-cut : heading_of_uncut dt b (predicted w) ≡ heading_of dt b (track_predict (cut w))
  unfolding heading_of predicted cut track_predict
  heading-cut = ap (λ (l : Option Detection). heading_from l b w.direction) (previous-cut dt few w)

  pub cut-boxed : cut (boxed dt b (predicted w)) ≡ track_box dt b (track_predict (cut w))
  unfolding cut boxed predicted track_box track_predict
  cut-boxed = λ i. record {
    filter = filter-cut h.phase i;
    saved = unwrap_or (unsaved h.phase i) no_filter;
    frozen = is_some (unsaved h.phase i);
    age = w.age + 1;
    streak = streak_after w.since w.streak + 1;
    since = 0;
    last = Some b;
    list = Some z';
    direction = heading-cut i;
    kept = kept-box w.observations w.age b i;
  }

-- ---- a miss

module _ (w : Uncut) (h : Sound w) where
  saved-cut : Phase w → unwrap_or (saved_at w.observed (predicted w)) no_filter ≡ saved_after (freezes (track_predict (cut w))) (track_predict (cut w))
  unfolding cut track_predict predicted freezes
  saved-cut (never l o s e n a) = rw (o, s, l)
  saved-cut (watched z k l o s e n a) = rw (o, s, l)
  saved-cut (lost n f z k l o s e m a) = rw (o, s, l)

  frozen-cut : Phase w → is_some (saved_at w.observed (predicted w)) ≡ is_some w.last
  unfolding predicted
  frozen-cut (never l o s e n a) = rw (o, s, l)
  frozen-cut (watched z k l o s e n a) = rw (o, l)
  frozen-cut (lost n f z k l o s e m a) = rw (o, s, l)

  pub cut-missed : cut (missed (predicted w)) ≡ track_miss (track_predict (cut w))
  unfolding cut missed predicted track_miss track_predict
  cut-missed = λ i. record {
    filter = predict_of (area_held w.filter);
    saved = saved-cut h.phase i;
    frozen = frozen-cut h.phase i;
    age = w.age + 1;
    streak = streak_after w.since w.streak;
    since = w.since + 1;
    last = w.last;
    list = last_held w.history_obs;
    direction = w.direction;
    kept = kept-miss w.observations w.age h.ages_within i;
  }

-- ---- a whole replay

pub cut-written : (dt : ℕ) → dt ≤ 8 → (l : Line) (w : Uncut) → Sound w → cut (written dt l (predicted w)) ≡ written_cut dt l (track_predict (cut w))
cut-written dt few miss w h = cut-missed w h
cut-written dt few (box b) w h = cut-boxed dt few b w h

pub cut-replay : (dt : ℕ) → dt ≤ 8 → (b : Detection) (ls : List Line) → cut (replay dt b ls) ≡ replay_cut dt b ls
unfolding replay replay_cut
cut-replay dt few b [] = cut-born b
cut-replay dt few b (l ∷ ls) =
    cut-written dt few l (replay dt b ls) (replay-sound dt b ls) ∙ ap (λ (t : Track). written_cut dt l (track_predict t)) (cut-replay dt few b ls)
