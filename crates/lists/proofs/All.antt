-- Laws of `All`, of maps, of `flat`, of `keep` and of sums over lists. Assumes nothing.
use mathlib.Core.Path.{◌≡◌, refl, sym, ap, ap₂, subst, ◌∙◌}
use mathlib.Core.Bool.{Bool, true, false}
use mathlib.Core.List.Memᴰ
use mathlib.Core.List.{List, [], ◌∷◌, ◌++◌, map, append_assoc, Memᴰ}
use mathlib.Core.Logic.{⊎_elim}
use Prim.Native.Nat.{ℕ, zero, suc, ◌+◌, ◌*◌, ◌<◌}
use native.Mathlib.Nat.{add-zero, suc-add, add-suc, zero-add, not-suc-le-zero, le_of_suc-le-suc}
use native.Mathlib.Omega.{arith}
use lib.ListN.{length, get_or, set, length-append}
use Rattle.lists.specs.Lists.{put, keep, flat, sum_of, up_from, All}

-- ---- All

pub all_map : {A B : Type 0} (P : A → Type 0) (Q : B → Type 0) (f : A → B) → ((x : A) → P x → Q (f x)) → (xs : List A) → All P xs → All Q (map f xs)
all_map P Q f h [] a = tt
all_map P Q f h (x ∷ xs) a = (h x a.0, all_map P Q f h xs a.1)

pub all_append : {A : Type 0} (P : A → Type 0) (xs ys : List A) → All P xs → All P ys → All P (xs ++ ys)
all_append P [] ys a b = b
all_append P (x ∷ xs) ys a b = (a.0, all_append P xs ys a.1 b)

pub all_any : {A : Type 0} {P : A → Type 0} → ((x : A) → P x) → (xs : List A) → All P xs
all_any h [] = tt
all_any h (x ∷ xs) = (h x, all_any h xs)

pub all-at : {A : Type 0} (P : A → Type 0) (xs : List A) (d : A) → All P xs → (i : ℕ) → i < length xs → P (get_or xs i d)
all-at P [] d a i h = absurd (not-suc-le-zero h)
all-at P (x ∷ xs) d a zero h = a.0
all-at P (x ∷ xs) d a (suc i) h = all-at P xs d a.1 i (le_of_suc-le-suc h)

pub all_set : {A : Type 0} (P : A → Type 0) (xs : List A) (i : ℕ) (x : A) → All P xs → P x → All P (set xs i x)
all_set P [] i x a p = tt
all_set P (y ∷ xs) zero x a p = (p, a.1)
all_set P (y ∷ xs) (suc i) x a p = (a.0, all_set P xs i x a.1 p)

pub all-mem : {A : Type 0} (P : A → Type 0) (xs : List A) → All P xs → (x : A) → Memᴰ x xs → P x
all-mem P [] a x m = absurd (Memᴰ.not-nil m)
all-mem P (y ∷ xs) a x m = ⊎_elim (λ e. subst P (sym e) a.0) (λ r. all-mem P xs a.1 x r) (Memᴰ.cases_cons m)

pub all_of : {A : Type 0} (P : A → Type 0) (xs : List A) → ((x : A) → Memᴰ x xs → P x) → All P xs
all_of P [] h = tt
all_of P (x ∷ xs) h = (h x (Memᴰ.head refl), all_of P xs (λ y m. h y (Memᴰ.tail m)))

pub keep_all : {A : Type 0} (P : A → Type 0) (t : A → Bool) (xs : List A) → All P xs → All P (keep t xs)
keep_all P t [] a = tt
keep_all P t (x ∷ xs) a = go (t x) (keep_all P t xs a.1)
  where
    go : (q : Bool) → All P (keep t xs) → All P (put q x (keep t xs))
    go true r = (a.0, r)
    go false r = r

-- ---- maps

pub map-append : {A B : Type 0} (f : A → B) (xs ys : List A) → map f (xs ++ ys) ≡ map f xs ++ map f ys
map-append f [] ys = refl
map-append f (x ∷ xs) ys = ap (λ l. f x ∷ l) (map-append f xs ys)

pub map-map : {A B C : Type 0} (g : B → C) (f : A → B) (xs : List A) → map g (map f xs) ≡ map (λ x. g (f x)) xs
map-map g f [] = refl
map-map g f (x ∷ xs) = ap (λ l. g (f x) ∷ l) (map-map g f xs)

-- to keep after a map is to keep by the mapped test
pub keep-map : {A B : Type 0} (f : A → B) (t : B → Bool) (xs : List A) → keep t (map f xs) ≡ map f (keep (λ x. t (f x)) xs)
keep-map f t [] = refl
keep-map {A} {B} f t (x ∷ xs) = rw (keep-map f t xs) (go (t (f x)))
  where
    go : (b : Bool) → put b (f x) (map f (keep (λ y. t (f y)) xs)) ≡ map f (put b x (keep (λ y. t (f y)) xs))
    go true = refl
    go false = refl

pub keep_same : {A : Type 0} (p q : A → Bool) → ((x : A) → p x ≡ q x) → (xs : List A) → keep p xs ≡ keep q xs
keep_same p q h [] = refl
keep_same p q h (x ∷ xs) = rw (h x, keep_same p q h xs)

-- ---- sums

pub sum-append : {A : Type 0} (f : A → ℕ) (xs ys : List A) → sum_of f (xs ++ ys) ≡ sum_of f xs + sum_of f ys
sum-append f [] ys = omega arith
sum-append f (x ∷ xs) ys = omega (arith, sum-append f xs ys)

pub sum-map : {A B : Type 0} (f : B → ℕ) (g : A → B) (xs : List A) → sum_of f (map g xs) ≡ sum_of (λ x. f (g x)) xs
sum-map f g [] = refl
sum-map f g (x ∷ xs) = ap (λ n. f (g x) + n) (sum-map f g xs)

pub sum-zero : {A : Type 0} (f : A → ℕ) (xs : List A) → All (λ x. f x ≡ 0) xs → sum_of f xs ≡ 0
sum-zero f [] a = refl
sum-zero f (x ∷ xs) a = omega (arith, a.0, sum-zero f xs a.1)

pub sum_same : {A : Type 0} (f g : A → ℕ) → ((x : A) → f x ≡ g x) → (xs : List A) → sum_of f xs ≡ sum_of g xs
sum_same f g h [] = refl
sum_same f g h (x ∷ xs) = ap₂ ◌+◌ (h x) (sum_same f g h xs)

pub length-sum : {A : Type 0} (xs : List A) → sum_of (λ x. 1) xs ≡ length xs
length-sum [] = refl
length-sum (x ∷ xs) = omega (arith, length-sum xs)

-- an element that weighed nothing is replaced
pub sum-set : {A : Type 0} (f : A → ℕ) (xs : List A) (i : ℕ) (a d : A) → i < length xs → f (get_or xs i d) ≡ 0 → sum_of f (set xs i a) ≡ sum_of f xs + f a
sum-set f [] i a d l h = absurd (not-suc-le-zero l)
sum-set f (x ∷ xs) zero a d l h = omega arith
sum-set f (x ∷ xs) (suc i) a d l h = omega (arith, sum-set f xs i a d (le_of_suc-le-suc l) h)

-- ---- numbers in sequence

pub up_from-append : (i m k : ℕ) → up_from i m ++ up_from (i + m) k ≡ up_from i (m + k)
up_from-append i zero k = rw (add-zero i, zero-add k)
up_from-append i (suc m) k = rw (suc-add m k) (ap (λ l. i ∷ l) (rw (add-suc i m, ← suc-add i m) (up_from-append (suc i) m k)))

-- ---- flat

pub flat_append : {A B : Type 0} (f : A → List B) (xs ys : List A) → flat f (xs ++ ys) ≡ flat f xs ++ flat f ys
flat_append f [] ys = refl
flat_append {A} {B} f (x ∷ xs) ys = ap (λ (l : List B). f x ++ l) (flat_append f xs ys) ∙ sym (append_assoc (f x) (flat f xs) (flat f ys))

pub flat-long : {A B : Type 0} (f : A → List B) (w : ℕ) (xs : List A) → All (λ (x : A). length (f x) ≡ w) xs → length (flat f xs) ≡ w * length xs
flat-long f w [] a = omega arith
flat-long f w (x ∷ xs) a = omega (arith, length-append (f x) (flat f xs), a.0, flat-long f w xs a.1)
