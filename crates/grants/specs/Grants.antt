-- Grants and open slots as the code keeps them. Definitions only.
use Rattle.std.specs.Option.{is_none}
use Rattle.std.specs.Prelude.{◌≡◌, Bool, List, [], ◌∷◌, ◌++◌, map, ℕ, ◌+◌, ◌-◌, ◌<◌, Float, ℤ, pos, negsuc, length, get_or, set, replicate, Option, Some, None}
use Rattle.lists.specs.Lists.{tab, keep, flat}
use Rattle.object.specs.declared.Corners.{Corners}
use Rattle.object.specs.declared.Detection.{Detection}
use Rattle.frame.specs.Objects.{Obj}
use Rattle.frame.specs.Rounds.{Slot, left_by, grant_of}
use Rattle.objects.specs.declared.Dets.{Dets}
use Rattle.objects.specs.Cells.{padded}
use Rattle.objects.specs.Dets.{dets_of}
use Rattle.grants.specs.declared.Places.{Places}
use Rattle.matching.specs.Associate.{four_of}

-- ---- grants

-- nothing past the slots
unfoldable pub grants_of : List Slot → List (Option Detection)
grants_of ss = map grant_of ss ++ replicate (64 - length ss) None

-- the slot at a mark is granted the detection
abbrev pub granted : ℤ → Detection → List (Option Detection) → List (Option Detection)
granted (negsuc n) d ks = ks
granted (pos t) d ks = set ks t (Some d)

-- each detection in turn goes to the slot that its mark names
abbrev pub seated : List ℤ → List Detection → List (Option Detection) → List (Option Detection)
seated [] ds ks = ks
seated (m ∷ ms) [] ks = ks
seated (m ∷ ms) (d ∷ ds) ks = seated ms ds (granted m d ks)

-- ---- open slots

abbrev pub is_open : Option Detection → Bool
is_open k = is_none k

-- the places without a grant among the first `count`
unfoldable pub open_in : ℕ → List (Option Detection) → List ℕ
open_in count ks = keep (λ j. is_open (get_or ks j None)) (tab (λ j. j) count)

unfoldable pub places_of : List ℕ → Places
places_of js = record { n = length js; at = js ++ replicate (64 - length js) 0 }

-- one place more
unfoldable pub pushed_place : Places → ℕ → Places
pushed_place p j = record { n = p.n + 1; at = set p.at p.n j }

-- a mark that is free, or names through the places one of n slots
abbrev pub Names : List ℕ → ℕ → ℤ → Type 0
Names js n (negsuc i) = Unit {0}
Names js n (pos t) = (t < 64) × (get_or js t 0 < n)

-- boxes one after another, and NaN past them
unfoldable pub boxes_of : List Corners → List Float
boxes_of bs = padded 256 (flat four_of bs)

-- ---- what a round leaves

-- the objects whose mark is free are left
abbrev pub LeftOf : List ℤ → Dets → Dets → Type 0
LeftOf marks d r = (os : List Obj) → d ≡ dets_of os → r ≡ dets_of (left_by marks os)
