-- The ids of a frame's tracks: the live ones in their order, then the newborn's. So they rise strictly, and stay below the ids issued. Assumes nothing.
use mathlib.Core.Path.{◌≡◌, refl, sym, ap, subst, ◌∙◌}
use mathlib.Core.Bool.{Bool, true, false, ◌&&◌}
use mathlib.Core.List.{List, [], ◌∷◌, ◌++◌, map}
use Prim.Native.Nat.{ℕ, zero, suc, ◌+◌, ◌≤◌, ◌<◌}
use native.Mathlib.Omega.{arith}
use lib.Dec.{leb, ltb}
use lib.ListN.{length}
use borrow.Author.Tests.{leb-true, ltb-true, le-leb, lt-ltb}
use Rattle.lists.specs.Lists.{put, keep, up_from, All}
use Rattle.lists.proofs.All.{all_any, all_append, map-append, map-map}
use Rattle.lapjv_walk.proofs.Cases.{never}
use Rattle.frame.specs.declared.Tracked.{Tracked}
use Rattle.frame.specs.declared.Tracker.{Tracker}
use Rattle.frame.specs.State.{live, rising, state_rules}
use Rattle.frame.specs.Objects.{Obj}
use Rattle.frame.specs.Rounds.{Slot, Work}
use Rattle.frame.specs.Frame.{predict_tracked, unbroken, predicted_tracks, give_all, births}
use Rattle.frame.specs.Contract.{live_ids, Subsequence, none, left, taken}
use Rattle.frame.proofs.Rules.{sound}

abbrev pub ids_of : List Tracked → List ℕ
ids_of es = map (λ (e : Tracked). e.id) es

-- ---- subsequences

sub-none : (l : List ℕ) → Subsequence [] l
sub-none [] = none
sub-none (a ∷ l) = left a (sub-none l)

pub sub_refl : (l : List ℕ) → Subsequence l l
sub_refl [] = none
sub_refl (a ∷ l) = taken a (sub_refl l)

pub sub_trans : {j k l : List ℕ} → Subsequence j k → Subsequence k l → Subsequence j l
sub_trans s none = s
sub_trans s (left a t) = left a (sub_trans s t)
sub_trans (left a s) (taken b t) = left a (sub_trans s t)
sub_trans (taken a s) (taken b t) = taken a (sub_trans s t)

sub-all : (P : ℕ → Type 0) {k l : List ℕ} → Subsequence k l → All P l → All P k
sub-all P none h = tt
sub-all P (left a s) h = sub-all P s h.1
sub-all P (taken a s) h = (h.0, sub-all P s h.1)

pub sub-keep : (p : Tracked → Bool) (es : List Tracked) → Subsequence (ids_of (keep p es)) (ids_of es)
sub-keep p [] = none
sub-keep p (e ∷ es) = go (p e) (sub-keep p es)
  where
    go : (b : Bool) → Subsequence (ids_of (keep p es)) (ids_of es) → Subsequence (ids_of (put b e (keep p es))) (ids_of (e ∷ es))
    go true s = taken e.id s
    go false s = left e.id s

sub-given : (dt : ℕ) (es : List Tracked) (ss : List Slot) → Subsequence (ids_of (give_all dt es ss)) (ids_of es)
sub-given dt [] ss = none
sub-given dt (e ∷ es) [] = sub-none (ids_of (e ∷ es))
sub-given dt (e ∷ es) (s ∷ ss) = taken e.id (sub-given dt es ss)

-- ---- strictly rising ids

abbrev pub Climbing : List ℕ → Type 0
Climbing [] = Unit {0}
Climbing (a ∷ l) = All (λ b. a < b) l × Climbing l

sub-climbing : {k l : List ℕ} → Subsequence k l → Climbing l → Climbing k
sub-climbing none h = tt
sub-climbing (left a s) h = sub-climbing s h.1
sub-climbing (taken a s) h = (sub-all (λ b. a < b) s h.0, sub-climbing s h.1)

pub all-imp : {P Q : ℕ → Type 0} → ((a : ℕ) → P a → Q a) → (l : List ℕ) → All P l → All Q l
all-imp f [] h = tt
all-imp f (a ∷ l) h = (f a h.0, all-imp f l h.1)

climbing-append : (m : ℕ) (k l : List ℕ) → Climbing k → All (λ a. a < m) k → Climbing l → All (λ b. m ≤ b) l → Climbing (k ++ l)
climbing-append m [] l c h d g = d
climbing-append m (a ∷ k) l c h d g = (all_append (λ b. a < b) k l c.0 (all-imp (λ b u. omega (arith, h.0, u)) l g), climbing-append m k l c.1 h.1 d g)

from_on : (i n : ℕ) → All (λ b. i ≤ b) (up_from i n)
from_on i zero = tt
from_on i (suc n) = (omega arith, all-imp (λ b u. omega (arith, u)) (up_from (suc i) n) (from_on (suc i) n))

from-climbing : (i n : ℕ) → Climbing (up_from i n)
from-climbing i zero = tt
from-climbing i (suc n) = (all-imp (λ b u. omega (arith, u)) (up_from (suc i) n) (from_on (suc i) n), from-climbing (suc i) n)

from-under : (i n : ℕ) → All (λ b. b < i + n) (up_from i n)
from-under i zero = tt
from-under i (suc n) = (omega arith, all-imp (λ b u. omega (arith, u)) (up_from (suc i) n) (from-under (suc i) n))

pub record Rises (from below : ℕ) (l : List ℕ) : Type 0 where
  pub above : All (λ b. from ≤ b) l
  pub under : All (λ b. b < below) l
  pub climbs : Climbing l

rises : (from below : ℕ) (es : List Tracked) → rising from below es ≡ true → Rises from below (ids_of es)
rises from below [] h = record { above = tt; under = tt; climbs = tt }
rises from below (e ∷ es) h = go (leb from e.id) refl (ltb e.id below) refl h (rises (suc e.id) below es)
  where
    go : (a : Bool) → leb from e.id ≡ a → (b : Bool) → ltb e.id below ≡ b → (a && b && rising (suc e.id) below es) ≡ true
        → (rising (suc e.id) below es ≡ true → Rises (suc e.id) below (ids_of es)) → Rises from below (ids_of (e ∷ es))
    go true p true q r ih =
        let i : from ≤ e.id = leb-true from e.id p in
        let k : Rises (suc e.id) below (ids_of es) = ih r in
        record {
          above = (i, all-imp (λ b u. omega (arith, i, u)) (ids_of es) k.above);
          under = (ltb-true e.id below q, k.under);
          climbs = (all-imp (λ b u. omega (arith, u)) (ids_of es) k.above, k.climbs);
        }
    go true p false q r ih = never r
    go false p b q r ih = never r

rising-of : (from below : ℕ) (es : List Tracked) → Rises from below (ids_of es) → rising from below es ≡ true
rising-of from below [] r = refl
rising-of from below (e ∷ es) r =
    rw (le-leb from e.id r.above.0, lt-ltb e.id below r.under.0)
    (rising-of (suc e.id) below es (record { above = all-imp (λ b u. omega (arith, u)) (ids_of es) r.climbs.0; under = r.under.1; climbs = r.climbs.1 }))

-- ---- a frame's tracks, before any ages out

pub born-ids : (i : ℕ) (os : List Obj) → ids_of (births i os) ≡ up_from i (length os)
born-ids i [] = refl
born-ids i (o ∷ os) = ap (λ l. i ∷ l) (born-ids (suc i) os)

predicted-ids : (es : List Tracked) → ids_of (map predict_tracked es) ≡ ids_of es
predicted-ids es = map-map (λ (e : Tracked). e.id) predict_tracked es

sub-predicted : (es : List Tracked) → Subsequence (ids_of (predicted_tracks es)) (ids_of es)
unfolding predicted_tracks
sub-predicted es = subst (λ (l : List ℕ). Subsequence (ids_of (keep unbroken (map predict_tracked es))) l) (predicted-ids es) (sub-keep unbroken (map predict_tracked es))

module _ (t : Tracker) (w : Work) where
  abbrev pub given : List Tracked
  given = give_all t.settings.delta_t (predicted_tracks (live t)) w.slots

  abbrev pub with_born : List Tracked
  with_born = given ++ births t.issued w.left

  pub lineal : Subsequence (ids_of given) (live_ids t)
  lineal = sub_trans (sub-given t.settings.delta_t (predicted_tracks (live t)) w.slots) (sub-predicted (live t))

  module _ (fine : state_rules t ≡ true) where
    old : Rises 0 t.issued (live_ids t)
    old = rises 0 t.issued (live t) (sound t fine).ids

    abbrev born : List ℕ
    born = up_from t.issued (length w.left)

    with-born-ids : ids_of with_born ≡ ids_of given ++ born
    with-born-ids = map-append (λ (e : Tracked). e.id) given (births t.issued w.left) ∙ ap (λ (l : List ℕ). ids_of given ++ l) (born-ids t.issued w.left)

    pub with-born-rise : Rises 0 (t.issued + length w.left) (ids_of with_born)
    with-born-rise = subst (Rises 0 (t.issued + length w.left)) (sym with-born-ids) (record {
      above = all_any (λ b. omega arith) (ids_of given ++ born);
      under = all_append (λ b. b < t.issued + length w.left) (ids_of given) born (all-imp (λ b u. omega (arith, u)) (ids_of given) (sub-all (λ b. b < t.issued) lineal old.under)) (from-under t.issued (length w.left));
      climbs = climbing-append t.issued (ids_of given) born (sub-climbing lineal old.climbs) (sub-all (λ b. b < t.issued) lineal old.under) (from-climbing t.issued (length w.left)) (from_on t.issued (length w.left));
    })

    -- those of them that pass a test
    pub kept-rising : (p : Tracked → Bool) → rising 0 (t.issued + length w.left) (keep p with_born) ≡ true
    kept-rising p =
        let s : Subsequence (ids_of (keep p with_born)) (ids_of with_born) = sub-keep p with_born in
        rising-of 0 (t.issued + length w.left) (keep p with_born) (record { above = sub-all (λ b. 0 ≤ b) s with-born-rise.above; under = sub-all (λ b. b < t.issued + length w.left) s with-born-rise.under; climbs = sub-climbing s with-born-rise.climbs })
