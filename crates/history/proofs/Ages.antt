-- Eight ages suffice: the kept boxes follow `observations` through a box and a miss, and answer what the whole map answers. Assumes nothing.
use mathlib.Core.Path.{◌≡◌, refl, sym, ap, ◌∙◌}
use mathlib.Core.Bool.{Bool, true, false}
use mathlib.Core.List.{List, [], ◌∷◌}
use mathlib.Core.Logic.{⊎_elim}
use Rattle.std.specs.Prelude.{Option, Some, None}
use Rattle.std.specs.Option.{is_some, option_or}
use Prim.Native.Nat.{ℕ, zero, suc, ◌+◌, ◌-◌, ◌≤◌, ◌<◌}
use native.Mathlib.Nat.{not-suc-le-zero, eq-or-lt_of_le}
use native.Mathlib.Omega.{arith}
use lib.Dec.{leb, eqb}
use lib.ListN.{get_or}
use borrow.Author.Tests.{leb-true, leb-false, eqb-false, le-leb, lt-leb, ne_eqb, eq-eqb}
use Rattle.lists.specs.Lists.{pick, tab}
use Rattle.lists.proofs.Tab.{tab-ext, get_or-tab}
use Rattle.object.specs.declared.Detection.{Detection}
use Rattle.strack.specs.Track.{shifted, oldest_of}
use Rattle.history.specs.Uncut.{Dated, box_at, highest, newest_age, newest_box, box_ago, oldest_box, previous_in}
use Rattle.history.specs.Replay.{kept_at}

highest-left : (a b : ℕ) → a ≤ highest a b
highest-left a b = go (leb a b) refl
  where
    go : (t : Bool) → leb a b ≡ t → a ≤ pick t b a
    go true e = leb-true a b e
    go false e = omega arith

highest-right : (a b : ℕ) → b ≤ highest a b
highest-right a b = go (leb a b) refl
  where
    go : (t : Bool) → leb a b ≡ t → b ≤ pick t b a
    go true e = omega arith
    go false e = let h : b < a = leb-false a b e in omega arith

-- no box above the newest age
pub none_above : (os : List Dated) (a : ℕ) → newest_age os < a → box_at os a ≡ None
none_above [] a h = refl
none_above (o ∷ os) a h =
    let e : eqb o.age a ≡ false = ne_eqb o.age a (λ q. omega (arith, q, highest-left o.age (newest_age os))) in
    rw e (none_above os a (omega (arith, highest-right o.age (newest_age os))))

found-step : (o : Dated) (os : List Dated) → (o.age < newest_age os → is_some (newest_box os) ≡ true) → is_some (newest_box (o ∷ os)) ≡ true
found-step o os ih = go (leb o.age (newest_age os)) refl
  where
    below : (t : Bool) → eqb o.age (newest_age os) ≡ t → o.age ≤ newest_age os → is_some (pick t (Some o.box) (newest_box os)) ≡ true
    below true e h = refl
    below false e h = ⊎_elim (λ q. absurd (eqb-false o.age (newest_age os) e q)) ih (eq-or-lt_of_le h)

    go : (t : Bool) → leb o.age (newest_age os) ≡ t → is_some (box_at (o ∷ os) (pick t (newest_age os) o.age)) ≡ true
    go true e = below (eqb o.age (newest_age os)) refl (leb-true o.age (newest_age os) e)
    go false e = rw (eq-eqb o.age o.age refl)

-- where there are boxes, one stands at the newest age
pub newest-found : (o : Dated) (os : List Dated) → is_some (newest_box (o ∷ os)) ≡ true
newest-found o [] = found-step o [] (λ h. absurd (not-suc-le-zero h))
newest-found o (p ∷ os) = found-step o (p ∷ os) (λ h. newest-found p os)

-- k_previous_obs from what `observations` and the last box agree on
pub previous-in : (dt a : ℕ) (os : List Dated) (l : Option Detection) → newest_box os ≡ l → previous_in dt a os ≡ pick (is_some l) (option_or (oldest_box os a dt) l) None
previous-in dt a [] l e = rw (sym e)
previous-in dt a (o ∷ os) l e =
    let s : is_some l ≡ true = ap is_some (sym e) ∙ newest-found o os in
    rw s (ap (option_or (oldest_box (o ∷ os) a dt)) e)

module _ (os : List Dated) (a : ℕ) (b : Detection) where
  abbrev pub more : List Dated
  more = record { age = a + 1; box = b } ∷ os

  pub newest-age-more : newest_age os ≤ a → newest_age more ≡ a + 1
  newest-age-more h = rw (lt-leb (a + 1) (newest_age os) (omega arith))

  -- the box of highest age is the last one given
  pub newest-more : newest_age os ≤ a → newest_box more ≡ Some b
  newest-more h = rw (newest-age-more h, eq-eqb (a + 1) (a + 1) refl)

  before_more : (k : ℕ) → box_ago more (a + 1) (suc k) ≡ box_ago os (a + 1) (suc k)
  before_more k = rw (ne_eqb (a + 1) (a + 1 - suc k) (λ q. omega (arith, q)))

ago-none : (os : List Dated) (a : ℕ) → box_ago os a 0 ≡ box_at os a
ago-none os a =
    let e : a - 0 ≡ a = omega arith in
    rw (le-leb 0 a (omega arith), e)

-- one age later, each box is one age further back
ago-later : (os : List Dated) (a k : ℕ) → box_ago os (a + 1) (suc k) ≡ box_ago os a k
ago-later os a k = go (leb k a) refl
  where
    go : (t : Bool) → leb k a ≡ t → box_ago os (a + 1) (suc k) ≡ pick t (box_at os (a - k)) None
    go true e =
        let h : k ≤ a = leb-true k a e in
        let e₂ : a + 1 - suc k ≡ a - k = omega arith in
        rw (le-leb (suc k) (a + 1) (omega arith), e₂)
    go false e =
        let h : a < k = leb-false k a e in
        rw (lt-leb (suc k) (a + 1) (omega arith))

shift : (f g : ℕ → Option Detection) → ((k : ℕ) → f (suc k) ≡ g k) → tab f 8 ≡ shifted (f 0) (tab g 8)
shift f g h = ap (λ (l : List (Option Detection)). f 0 ∷ l) (tab-ext (λ k. f (suc k)) g 7 (λ k l. h k))

pub kept-box : (os : List Dated) (a : ℕ) (b : Detection) → kept_at (a + 1) (more os a b) ≡ shifted (Some b) (kept_at a os)
kept-box os a b =
    let e : box_ago (more os a b) (a + 1) 0 ≡ Some b = ago-none (more os a b) (a + 1) ∙ rw (eq-eqb (a + 1) (a + 1) refl) in
    shift (box_ago (more os a b) (a + 1)) (box_ago os a) (λ k. before_more os a b k ∙ ago-later os a k) ∙ ap (λ (l : Option Detection). shifted l (kept_at a os)) e

pub kept-miss : (os : List Dated) (a : ℕ) → newest_age os ≤ a → kept_at (a + 1) os ≡ shifted None (kept_at a os)
kept-miss os a h =
    let e : box_ago os (a + 1) 0 ≡ None = ago-none os (a + 1) ∙ none_above os (a + 1) (omega arith) in
    shift (box_ago os (a + 1)) (box_ago os a) (ago-later os a) ∙ ap (λ (l : Option Detection). shifted l (kept_at a os)) e

-- the kept boxes answer as the whole map does
pub oldest-kept : (os : List Dated) (a dt : ℕ) → dt ≤ 8 → oldest_of dt (kept_at a os) ≡ oldest_box os (a + 1) dt
unfolding oldest_of
oldest-kept os a zero h = refl
oldest-kept os a (suc dt) h =
    let e : get_or (kept_at a os) dt None ≡ box_ago os (a + 1) (suc dt) = get_or-tab (λ k. box_ago os a k) 8 None dt (omega arith) ∙ sym (ago-later os a dt) in
    rw (e, oldest-kept os a dt (omega arith))
