-- What birth, predict, a box, a miss and the boxes before come to, case by case, as the code goes. Assumes nothing.
use mathlib.Core.Path.{◌≡◌, refl, sym, ap, ◌∙◌}
use mathlib.Core.Bool.{Bool, true, false, not, ◌&&◌}
use mathlib.Core.List.{List, [], ◌∷◌}
use Rattle.std.specs.Prelude.{Option, Some, None}
use Rattle.std.specs.Option.{is_some, option_or}
use Prim.Native.Nat.{ℕ, zero, suc, ◌+◌, ◌<◌, ◌≤◌}
use native.Mathlib.Omega.{arith}
use lib.Seq.{take-suc}
use Rattle.lists.specs.Lists.{tab}
use lib.ListN.{get_or, take, length}
use Rattle.kalman_filter.specs.declared.Filter.{Filter}
use Rattle.strack.specs.declared.Track.{Track}
use Rattle.strack.specs.declared.Direction.{Direction}
use Rattle.object.specs.declared.Detection.{Detection}
use Rattle.object.specs.Object.{corners_of}
use Rattle.kalman_filter.specs.declared.DetectBox.{DetectBox}
use Rattle.strack.specs.Boxes.{measure_of}
use Rattle.strack.specs.Track.{no_filter, shifted, streak_after, oldest_of, previous_of, k_previous_of, heading_of, filter_after, track_box, saved_after, freezes, track_miss}

-- ---- the oldest of the last ages

pub oldest-none : (kept : List (Option Detection)) → oldest_of 0 kept ≡ None
unfolding oldest_of
oldest-none kept = refl

oldest-more : (dt : ℕ) (kept : List (Option Detection)) → oldest_of (suc dt) kept ≡ option_or (get_or kept dt None) (oldest_of dt kept)
unfolding oldest_of
oldest-more dt kept = refl

-- a box at the age that is tried ends the search
pub oldest-here : (n dt : ℕ) (kept : List (Option Detection)) → dt ≡ suc n → is_some (get_or kept n None) ≡ true → oldest_of dt kept ≡ (get_or kept n None)
oldest-here n dt kept e seen = rw e (oldest-more n kept ∙ found (get_or kept n None) seen)
  where
    found : (l : Option Detection) → is_some l ≡ true → option_or l (oldest_of n kept) ≡ l
    found None h = cc
    found (Some d) h = refl

pub oldest-before : (n dt : ℕ) (kept : List (Option Detection)) → dt ≡ suc n → is_some (get_or kept n None) ≡ false → oldest_of dt kept ≡ oldest_of n kept
oldest-before n dt kept e unseen = rw e (oldest-more n kept ∙ passed (get_or kept n None) unseen)
  where
    passed : (l : Option Detection) → is_some l ≡ false → option_or l (oldest_of n kept) ≡ oldest_of n kept
    passed None h = refl
    passed (Some d) h = cc

pub k-previous-seen : (dt : ℕ) (t : Track) → is_some t.last ≡ true → previous_of dt t ≡ k_previous_of dt t
unfolding k_previous_of
k-previous-seen dt t e = rw e

pub k-previous-none : (dt : ℕ) (t : Track) → is_some t.last ≡ false → None ≡ k_previous_of dt t
unfolding k_previous_of
k-previous-none dt t e = rw e

-- ---- predict

pub streak-broken : (since streak : ℕ) → 0 < since → 0 ≡ streak_after since streak
streak-broken zero streak h = absurd (omega arith)
streak-broken (suc n) streak h = refl

pub streak-goes-on : (since streak : ℕ) → since ≤ 0 → streak ≡ streak_after since streak
streak-goes-on zero streak h = refl
streak-goes-on (suc n) streak h = absurd (omega arith)

-- ---- the boxes of the last eight ages

take-tab : {A : Type 0} (d : A) (n : ℕ) (l : List A) → n ≤ length l → tab (λ i. get_or l i d) n ≡ take n l
take-tab d zero l h = refl
take-tab d (suc n) l h = rw (take-tab d n l (omega arith)) (sym (take-suc l n d h))

pub shifted-is : (d : Option Detection) (l : Option Detection) (k : List (Option Detection)) → length k ≡ 8 → l ∷ get_or k 0 d ∷ get_or k 1 d ∷ get_or k 2 d ∷ get_or k 3 d ∷ get_or k 4 d ∷ get_or k 5 d ∷ get_or k 6 d ∷ [] ≡ shifted l k
shifted-is d l k e = ap (λ (m : List (Option Detection)). l ∷ m) (take-tab d 7 k (omega arith))

-- ---- a box

-- a track whose parts are those of the rule
pub box-is : (dt : ℕ) (b : Detection) (t : Track) (z : DetectBox) (f none : Filter) (l : Option Detection) (list : Option DetectBox) (d : Option Direction) (k : List (Option Detection)) → z ≡ measure_of (corners_of b) → f ≡ filter_after t.frozen t z → none ≡ no_filter → l ≡ Some b → list ≡ Some z → d ≡ heading_of dt b t → k ≡ shifted l t.kept → ◌≡◌ {A = Track} (record { filter = f; saved = none; frozen = false; age = t.age; streak = t.streak + 1; since = 0; last = l; list = list; direction = d; kept = k }) (track_box dt b t)
unfolding track_box
box-is dt b t z f none l list d k ez ef en el es ed ek = rw (ek, es, ef, ed, en, el, ez)

-- ---- a miss

-- what is saved stays while a track is frozen
pub frozen-keeps : (t : Track) → t.frozen ≡ true → t.saved ≡ saved_after (freezes t) t
unfolding freezes
frozen-keeps t e = go (is_some t.last) t.frozen e
  where
    go : (b f : Bool) → f ≡ true → t.saved ≡ saved_after (b && not f) t
    go false f e = refl
    go true true e = refl
    go true false e = cc

pub miss-is : (t : Track) (saved : Filter) (frozen : Bool) (k : List (Option Detection)) → saved ≡ saved_after (freezes t) t → frozen ≡ is_some t.last → k ≡ shifted None t.kept → ◌≡◌ {A = Track} (record { filter = t.filter; saved = saved; frozen = frozen; age = t.age; streak = t.streak; since = t.since; last = t.last; list = t.list; direction = t.direction; kept = k }) (track_miss t)
unfolding track_miss
miss-is t saved frozen k es ef ek = rw (ek, ef, es)
