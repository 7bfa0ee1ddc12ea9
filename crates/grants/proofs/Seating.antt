-- Grants by marks, on the arrays: one more, and the same as the frame's. Assumes nothing.
use Rattle.std.specs.Prelude.{Option, Some, None}
use mathlib.Core.Path.{◌≡◌, refl, sym, ap, ap₂, subst, ◌∙◌}
use mathlib.Core.Bool.{true, false}
use mathlib.Core.List.{List, [], ◌∷◌, ◌++◌, map}
use Prim.Native.Nat.{ℕ, zero, suc, ◌+◌, ◌-◌, ◌≤◌, ◌<◌}
use native.Mathlib.Nat.{suc_inj}
use native.Mathlib.Numerals.{add-one}
use native.Mathlib.Omega.{arith}
use lib.IntN.{ℤ, pos, negsuc}
use lib.ListN.{length, get_or, take, set, replicate, length-map, length-set, get_or-map}
use lib.Seq.{take-suc, length-take-le, set-append_left}
use Rattle.lists.specs.Lists.{tab, All}
use Rattle.lists.proofs.Tab.{length-tab}
use Rattle.lists.proofs.All.{all-at, all_append}
use Rattle.object.specs.declared.Detection.{Detection}
use Rattle.lapjv_walk.specs.Marks.{free, is_free, index, mark_at}
use Rattle.matching.specs.Paired.{Paired}
use Rattle.frame.specs.Objects.{Obj}
use Rattle.frame.specs.Rounds.{Slot, slot_at, grant_to, seat, place_of, grant_of}
use Rattle.frame.proofs.Seats.{granted-length}
use Rattle.grants.specs.Grants.{grants_of, granted, seated, places_of, Names}
use Rattle.grants.proofs.Opening.{places-at}

-- ---- the loop over the marks

seated-snoc : (ms : List ℤ) (ds : List Detection) (m : ℤ) (d : Detection) (ks : List (Option Detection)) → length ms ≡ length ds → seated (ms ++ (m ∷ [])) (ds ++ (d ∷ [])) ks ≡ granted m d (seated ms ds ks)
seated-snoc [] [] m d ks h = refl
seated-snoc [] (e ∷ ds) m d ks h = absurd (omega arith)
seated-snoc (n ∷ ms) [] m d ks h = absurd (omega arith)
seated-snoc (n ∷ ms) (e ∷ ds) m d ks h = seated-snoc ms ds m d (granted n e ks) (suc_inj h)

-- one more turn of the loop
pub turn : (place : ℤ → ℤ) (marks : List ℤ) (f : ℕ → Detection) (ks out r : List (Option Detection)) (i : ℕ) (d : Detection) → out ≡ seated (take i (map place marks)) (tab f i) ks → d ≡ f i
    → r ≡ granted (place (mark_at marks i)) d out → i < length marks → r ≡ seated (take (i + 1) (map place marks)) (tab f (i + 1)) ks
turn place marks f ks out r i d e g h l =
    let n : length (map place marks) ≡ length marks = length-map marks place in
    let k : length (take i (map place marks)) ≡ length (tab f i) = length-take-le i (map place marks) (omega (arith, n)) ∙ sym (length-tab f i) in
    h ∙ ap₂ (λ (x : Detection) (y : List (Option Detection)). granted (place (mark_at marks i)) x y) g e
    ∙ sym (seated-snoc (take i (map place marks)) (tab f i) (place (mark_at marks i)) (f i) ks k)
    ∙ ap (λ (x : ℤ). seated (take i (map place marks) ++ (x ∷ [])) (tab f i ++ (f i ∷ [])) ks) (sym (get_or-map place marks i (pos 0)))
    ∙ ap (λ (x : List ℤ). seated x (tab f i ++ (f i ∷ [])) ks) (sym (take-suc (map place marks) i (place (pos 0)) (omega (arith, n))))
    ∙ ap (λ (j : ℕ). seated (take j (map place marks)) (tab f j) ks) (sym (add-one i))

-- ---- marks

abbrev pub Below : ℕ → ℤ → Type 0
Below n (negsuc i) = Unit {0}
Below n (pos t) = t < n

all-marks : (P : ℤ → Type 0) (ms : List ℤ) → ((i : ℕ) → i < length ms → P (mark_at ms i)) → All P ms
all-marks P [] h = tt
all-marks P (m ∷ ms) h = (h 0 (omega arith), all-marks P ms (λ i l. h (suc i) (omega arith)))

below_of : (n : ℕ) (m : ℤ) → ((t : ℕ) → m ≡ pos t → t < n) → Below n m
below_of n (negsuc i) h = tt
below_of n (pos t) h = h t refl

pub paired-below : (nd nt : ℕ) (ms : List ℤ) → Paired nd nt ms → All (Below nt) ms
paired-below nd nt ms p = all-marks (Below nt) ms (λ i l. below_of nt (mark_at ms i) (λ t e. p.below i t (omega (arith, p.len)) e))

all-free : (P : ℤ → Type 0) (k : ℕ) → P free → All P (replicate k free)
all-free P zero h = tt
all-free P (suc k) h = (h, all-free P k h)

-- marks among the open places, with free marks behind them
module _ (n : ℕ) (js : List ℕ) (few : length js ≤ 64) (below : All (λ j. j < n) js) where
  one-names : (m : ℤ) → Below (length js) m → Names (places_of js).at n m
  one-names (negsuc i) h = tt
  one-names (pos t) h = (omega arith, rw (places-at js t) (all-at (λ j. j < n) js 0 below t h))

  names : (ms : List ℤ) → All (Below (length js)) ms → All (Names (places_of js).at n) ms
  names [] a = tt
  names (m ∷ ms) a = (one-names m a.0, names ms a.1)

  pub marks-name : (nd k : ℕ) (ms : List ℤ) → Paired nd (length js) ms → All (Names (places_of js).at n) (ms ++ replicate k free)
  marks-name nd k ms p = all_append (Names (places_of js).at n) ms (replicate k free) (names ms (paired-below nd (length js) ms p)) (all-free (Names (places_of js).at n) k tt)

place-below : (js : List ℕ) (n : ℕ) (m : ℤ) → Below (length js) m → All (λ j. j < n) js → Below n (place_of js m)
place-below js n (negsuc i) h a = tt
place-below js n (pos t) h a = all-at (λ j. j < n) js 0 a t h

pub placed_below : (js : List ℕ) (n : ℕ) (ms : List ℤ) → All (Below (length js)) ms → All (λ j. j < n) js → All (Below n) (map (place_of js) ms)
placed_below js n [] h a = tt
placed_below js n (m ∷ ms) h a = (place-below js n m h.0 a, placed_below js n ms h.1 a)

-- ---- the frame's grants

map-set : {A B : Type 0} (f : A → B) (l : List A) (t : ℕ) (a : A) → map f (set l t a) ≡ set (map f l) t (f a)
map-set f [] t a = refl
map-set f (x ∷ l) zero a = refl
map-set f (x ∷ l) (suc t) a = ap (λ r. f x ∷ r) (map-set f l t a)

granted-is : (k : ℕ) (m : ℤ) (o : Obj) (ss : List Slot) → Below (length ss) m → grants_of (grant_to k m o ss) ≡ granted m o.det (grants_of ss)
unfolding grants_of
granted-is k (negsuc n) o ss h = refl
granted-is k (pos t) o ss h =
    let a : Slot = record { view = (slot_at ss t).view; got = Some (record { round = k; obj = o }) } in
    ap₂ (λ (l : List (Option Detection)) (n : ℕ). l ++ replicate (64 - n) None) (map-set grant_of ss t a) (length-set ss t a)
    ∙ sym (set-append_left (map grant_of ss) (replicate (64 - length ss) None) t (grant_of a) (omega (arith, length-map ss grant_of)))

pub seat-is : (k : ℕ) (ms : List ℤ) (os : List Obj) (ss : List Slot) → All (Below (length ss)) ms → grants_of (seat k ms os ss) ≡ seated ms (map (λ (o : Obj). o.det) os) (grants_of ss)
seat-is k [] os ss h = refl
seat-is k (m ∷ ms) [] ss h = refl
seat-is k (m ∷ ms) (o ∷ os) ss h =
    seat-is k ms os (grant_to k m o ss) (subst (λ (n : ℕ). All (Below n) ms) (sym (granted-length k m o ss)) h.1)
    ∙ ap (seated ms (map (λ (o : Obj). o.det) os)) (granted-is k m o ss h.0)

-- ---- one mark

pub granted-free : (js : List ℕ) (m : ℤ) (d : Detection) (ks : List (Option Detection)) → is_free m ≡ true → ks ≡ granted (place_of js m) d ks
granted-free js (negsuc n) d ks h = refl
granted-free js (pos t) d ks h = absurd (let z : ◌≡◌ {A = ℕ} 0 1 = cc in omega arith)

pub granted-named : (js : List ℕ) (m : ℤ) (d : Detection) (ks : List (Option Detection)) → is_free m ≡ false → set ks (get_or js (index m) 0) (Some d) ≡ granted (place_of js m) d ks
granted-named js (negsuc n) d ks h = absurd (let z : ◌≡◌ {A = ℕ} 0 1 = cc in omega arith)
granted-named js (pos t) d ks h = refl

pub named : (js : List ℕ) (n : ℕ) (m : ℤ) → Names js n m → is_free m ≡ false → (index m < 64) × (get_or js (index m) 0 < n)
named js n (negsuc i) a h = absurd (let z : ◌≡◌ {A = ℕ} 0 1 = cc in omega arith)
named js n (pos t) a h = a
