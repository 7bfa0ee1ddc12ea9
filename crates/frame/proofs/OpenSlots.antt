-- The slots without a grant, by their places: each is there and has none. Assumes nothing.
use Rattle.std.specs.Prelude.{Option, Some, None}
use mathlib.Core.Path.{◌≡◌, refl, ◌∙◌}
use mathlib.Core.List.{List, [], ◌∷◌, map}
use Prim.Native.Nat.{ℕ, zero, suc, ◌+◌, ◌<◌}
use native.Mathlib.Nat.{not-suc-le-zero, le_of_suc-le-suc}
use native.Mathlib.Omega.{arith}
use lib.ListN.{length, get_or}
use Rattle.object.specs.declared.Corners.{Corners}
use Rattle.frame.specs.Rounds.{View, Grant, Slot, no_corners, slot_at, unless_granted, open_from}

-- the j-th open slot, counted from b, stands d places behind b and has no grant
pub record OpenAt (b : ℕ) (ss : List Slot) (j : ℕ) : Type 0 where
  pub d : ℕ
  pub place : get_or (open_from b ss) j 0 ≡ b + d
  pub there : d < length ss
  pub empty : (slot_at ss d).got ≡ None

open-behind : (b : ℕ) (a : Slot) (ss : List Slot) (j k : ℕ) → get_or (open_from b (a ∷ ss)) j 0 ≡ get_or (open_from (suc b) ss) k 0 → OpenAt (suc b) ss k → OpenAt b (a ∷ ss) j
open-behind b a ss j k e o = record { d = suc o.d; place = e ∙ o.place ∙ omega arith; there = omega (arith, o.there); empty = o.empty }

pub open_at : (b : ℕ) (ss : List Slot) (j : ℕ) → j < length (open_from b ss) → OpenAt b ss j
open_at b [] j h = absurd (not-suc-le-zero h)
open_at b (a ∷ ss) j h = go a.got refl j h (open_at (suc b) ss)
  where
    go : (g : Option Grant) → a.got ≡ g → (j : ℕ) → j < length (unless_granted g b (open_from (suc b) ss)) → ((k : ℕ) → k < length (open_from (suc b) ss) → OpenAt (suc b) ss k) → OpenAt b (a ∷ ss) j
    go None e zero l ih = record { d = 0; place = rw e (omega arith); there = omega arith; empty = e }
    go None e (suc j) l ih = open-behind b a ss (suc j) j (rw e refl) (ih j (le_of_suc-le-suc l))
    go (Some g) e j l ih = open-behind b a ss j j (rw e refl) (ih j l)

get_or-map-below : {A B : Type 0} (f : A → B) (l : List A) (i : ℕ) (d : A) (z : B) → i < length l → get_or (map f l) i z ≡ f (get_or l i d)
get_or-map-below f [] i d z h = absurd (not-suc-le-zero h)
get_or-map-below f (a ∷ l) zero d z h = refl
get_or-map-below f (a ∷ l) (suc i) d z h = get_or-map-below f l i d z (le_of_suc-le-suc h)

-- the boxes that a later round compares with, one for each slot without a grant
pub box-at : (target : View → Corners) (ss : List Slot) (j : ℕ) → j < length (open_from 0 ss)
    → get_or (map (λ i. target (slot_at ss i).view) (open_from 0 ss)) j no_corners ≡ target (slot_at ss (get_or (open_from 0 ss) j 0)).view
box-at target ss j h = get_or-map-below (λ i. target (slot_at ss i).view) (open_from 0 ss) j 0 no_corners h
