-- The open places: one more, none past the slots, the same as the frame's, and the boxes gathered at them. Assumes nothing.
use Rattle.std.specs.Prelude.{Option, Some, None}
use mathlib.Core.Path.{◌≡◌, refl, sym, ap, ap₂, ◌∙◌}
use mathlib.Core.Bool.{Bool, true, false}
use mathlib.Core.List.{List, [], ◌∷◌, ◌++◌, map, append-nil}
use Prim.Native.Nat.{ℕ, zero, suc, ◌+◌, ◌-◌, ◌*◌, ◌≤◌, ◌<◌}
use native.Mathlib.Nat.{add-zero, zero-add}
use native.Mathlib.Numerals.{add-one}
use native.Mathlib.Omega.{arith}
use lib.Ieee.{Float}
use lib.ListN.{length, get_or, take, replicate, length-append, length-map, get_or-map}
use lib.Seq.{sets, take-suc, take_at, take-length, length-take-le}
use Rattle.lists.specs.Lists.{pick, tab, put, keep, All, flat}
use Rattle.lists.proofs.Tab.{length-tab}
use Rattle.lists.proofs.Keep.{keep_append, keep-short}
use Rattle.lists.proofs.All.{all_append, keep_all, map-append}
use Rattle.object.specs.declared.Corners.{Corners}
use Rattle.matching.specs.Associate.{corners_at, four_of}
use Rattle.frame.specs.Rounds.{Grant, Slot, no_slot, slot_at, no_corners, unless_granted, open_from, box_granted, grant_of}
use Rattle.objects.proofs.Cells.{get_or-padding, sets-padding, flat-push, flat-length, padded-length}
use Rattle.grants.specs.declared.Places.{Places}
use Rattle.grants.specs.Grants.{grants_of, is_open, open_in, places_of, pushed_place, boxes_of}
use Rattle.object.specs.declared.Detection.{Detection}
use Rattle.objects.proofs.Reading.{four-at}

-- ---- the loop over the grants

pub push-one : (js : List ℕ) (j : ℕ) → length js < 64 → pushed_place (places_of js) j ≡ places_of (js ++ (j ∷ []))
unfolding pushed_place places_of
push-one js j h = λ i. record { n = sym (length-append js (j ∷ [])) i; at = sets-padding js (j ∷ []) 64 0 (omega arith) i }

pub places_count : (js : List ℕ) → (places_of js).n ≡ length js
unfolding places_of
places_count js = refl

module _ (ks : List (Option Detection)) where
  abbrev vacant : ℕ → Bool
  vacant j = is_open (get_or ks j None)

  pub few : (n : ℕ) → length (open_in n ks) ≤ n
  unfolding open_in
  few n = omega (arith, keep-short vacant (tab (λ j. j) n), length-tab (λ (j : ℕ). j) n)

  pub room : (n : ℕ) (p : Places) → p ≡ places_of (open_in n ks) → n < 64 → p.n < 64
  room n p e l = rw e (omega (arith, places_count (open_in n ks), few n))

  one_more : (j : ℕ) (q : Bool) → vacant j ≡ q → open_in (j + 1) ks ≡ open_in j ks ++ put q j []
  unfolding open_in
  one_more j q e = rw (add-one j, keep_append vacant (tab (λ j. j) j) (j ∷ [])) (ap (λ (b : Bool). keep vacant (tab (λ j. j) j) ++ put b j []) e)

  turned : (j : ℕ) (q : Bool) → vacant j ≡ q → j < 64 → pick q (pushed_place (places_of (open_in j ks)) j) (places_of (open_in j ks)) ≡ places_of (open_in (j + 1) ks)
  turned j true h l = push-one (open_in j ks) j (omega (arith, few j)) ∙ ap places_of (sym (one_more j true h))
  turned j false h l = ap places_of (sym (one_more j false h ∙ append-nil (open_in j ks)))

  -- one more turn of the loop
  pub turn : (j : ℕ) (p r : Places) (q : Bool) → p ≡ places_of (open_in j ks) → q ≡ vacant j → r ≡ pick q (pushed_place p j) p → j < 64 → r ≡ places_of (open_in (j + 1) ks)
  turn j p r q e g h l = h ∙ rw (e, g) (turned j (vacant j) refl l)

-- ---- no place past the slots

below-tab : (n m : ℕ) → m ≤ n → All (λ j. j < n) (tab (λ j. j) m)
below-tab n zero h = tt
below-tab n (suc m) h = all_append (λ j. j < n) (tab (λ j. j) m) (m ∷ []) (below-tab n m (omega arith)) (omega arith, tt)

pub open-below : (n : ℕ) (ks : List (Option Detection)) → All (λ j. j < n) (open_in n ks)
unfolding open_in
open-below n ks = keep_all (λ j. j < n) (vacant ks) (tab (λ j. j) n) (below-tab n n (omega arith))

all-zero : (n k : ℕ) → 0 < n → All (λ j. j < n) (replicate k 0)
all-zero n zero h = tt
all-zero n (suc k) h = (h, all-zero n k h)

pub all-below : (n m : ℕ) → n ≤ m → (js : List ℕ) → All (λ j. j < n) js → All (λ j. j < m) js
all-below n m h [] a = tt
all-below n m h (j ∷ js) a = (omega (arith, a.0), all-below n m h js a.1)

pub places-below : (js : List ℕ) (m : ℕ) → 0 < m → All (λ j. j < m) js → All (λ j. j < m) (places_of js).at
unfolding places_of
places-below js m h a = all_append (λ j. j < m) js (replicate (64 - length js) 0) a (all-zero m (64 - length js) h)

pub places-at : (js : List ℕ) (t : ℕ) → get_or (places_of js).at t 0 ≡ get_or js t 0
unfolding places_of
places-at js t = get_or-padding js (64 - length js) t 0

pub places-taken : (js : List ℕ) → take (places_of js).n (places_of js).at ≡ js
unfolding places_of
places-taken js = take_at js (replicate (64 - length js) 0) (length js) refl

-- ---- the places that the frame's rounds speak of

open_snoc : (b : ℕ) (ss : List Slot) (s : Slot) → open_from b (ss ++ (s ∷ [])) ≡ open_from b ss ++ unless_granted s.got (b + length ss) []
open_snoc b [] s = ap (λ (k : ℕ). unless_granted s.got k []) (sym (add-zero b))
open_snoc b (a ∷ ss) s = go a.got (open_snoc (suc b) ss s ∙ ap (λ (k : ℕ). open_from (suc b) ss ++ unless_granted s.got k []) (omega arith))
  where
    go : (g : Option Grant) → open_from (suc b) (ss ++ (s ∷ [])) ≡ open_from (suc b) ss ++ unless_granted s.got (b + suc (length ss)) []
        → unless_granted g b (open_from (suc b) (ss ++ (s ∷ []))) ≡ unless_granted g b (open_from (suc b) ss) ++ unless_granted s.got (b + suc (length ss)) []
    go None e = ap (λ l. b ∷ l) e
    go (Some g) e = e

pub grants-at : (ss : List Slot) (j : ℕ) → get_or (grants_of ss) j None ≡ grant_of (slot_at ss j)
unfolding grants_of
grants-at ss j = get_or-padding (map grant_of ss) (64 - length ss) j None ∙ get_or-map grant_of ss j no_slot

put-open : (g : Option Grant) (j : ℕ) → put (is_open (box_granted g)) j [] ≡ unless_granted g j []
put-open None j = refl
put-open (Some g) j = refl

module _ (ss : List Slot) where
  open-steps : (j : ℕ) → j ≤ length ss → open_in j (grants_of ss) ≡ open_from 0 (take j ss)
  unfolding open_in
  open-steps zero h = refl
  open-steps (suc j) h =
      let l : j < length ss = h in
      keep_append (vacant (grants_of ss)) (tab (λ j. j) j) (j ∷ [])
      ∙ ap₂ ◌++◌ (open-steps j (omega arith)) (ap (λ (k : Option Detection). put (is_open k) j []) (grants-at ss j) ∙ put-open (slot_at ss j).got j)
      ∙ sym (ap (open_from 0) (take-suc ss j no_slot l) ∙ open_snoc 0 (take j ss) (slot_at ss j) ∙ ap (λ (k : ℕ). open_from 0 (take j ss) ++ unless_granted (slot_at ss j).got k []) (zero-add (length (take j ss)) ∙ length-take-le j ss (omega arith)))

  pub open_is : open_in (length ss) (grants_of ss) ≡ open_from 0 ss
  open_is = open-steps (length ss) (omega arith) ∙ ap (open_from 0) (take-length ss)

-- ---- boxes at places

pub boxes-push : (bs : List Corners) (b : Corners) → length bs < 64 → sets (boxes_of bs) (4 * length bs) (four_of b) ≡ boxes_of (bs ++ (b ∷ []))
unfolding boxes_of
boxes-push bs b h = flat-push four_of 4 (λ b. refl) 256 bs b (omega arith)

pub gather-turn : (f : ℕ → Corners) (at : List ℕ) (i : ℕ) (out r : List Float) (b : Corners) → out ≡ boxes_of (map f (take i at)) → i < length at → i < 64 → b ≡ f (get_or at i 0) → r ≡ sets out (4 * i) (four_of b)
    → r ≡ boxes_of (map f (take (i + 1) at))
gather-turn f at i out r b e h l g q =
    let n : length (map f (take i at)) ≡ i = length-map (take i at) f ∙ length-take-le i at (omega arith) in
    q ∙ ap (λ (x : Corners). sets out (4 * i) (four_of x)) g ∙ ap₂ (λ (x : List Float) (k : ℕ). sets x (4 * k) (four_of (f (get_or at i 0)))) e (sym n)
    ∙ boxes-push (map f (take i at)) (f (get_or at i 0)) (omega (arith, n))
    ∙ ap boxes_of (sym (map-append f (take i at) (get_or at i 0 ∷ [])) ∙ ap (map f) (sym (take-suc at i 0 h) ∙ ap (λ (k : ℕ). take k at) (sym (add-one i))))

pub gathered-at : (bs : List Corners) → corners_at (boxes_of bs) ≡ λ j. get_or bs j no_corners
unfolding boxes_of
gathered-at bs = λ i j. four-at (λ (b : Corners). b) no_corners refl 256 bs j i

pub gathered-long : (bs : List Corners) → length bs ≤ 64 → length (boxes_of bs) ≡ 256
unfolding boxes_of
gathered-long bs h = padded-length 256 (flat four_of bs) (omega (arith, flat-length four_of 4 (λ b. refl) bs))

pub opened : (count : ℕ) (ks : List (Option Detection)) (p : Places) → count ≤ 64 → p ≡ places_of (open_in count ks) → p.n ≤ 64
opened count ks p h e = rw e (omega (arith, places_count (open_in count ks), few ks count))

pub take-few : {A : Type 0} (n : ℕ) (l : List A) → length (take n l) ≤ n
take-few zero l = omega arith
take-few (suc n) [] = omega arith
take-few (suc n) (x ∷ l) = omega (arith, take-few n l)

pub targets-long : (f : ℕ → Corners) (p : Places) → p.n ≤ 64 → length (boxes_of (map f (take p.n p.at))) ≡ 256
targets-long f p h = gathered-long (map f (take p.n p.at)) (omega (arith, length-map (take p.n p.at) f, take-few p.n p.at))
