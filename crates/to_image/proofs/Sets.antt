-- Runs of stores: one after another, an element more of a list's, of its images' or of one value's. Assumes nothing.
use mathlib.Core.Path.{◌≡◌, refl, sym, ap, ap₂, ◌∙◌}
use mathlib.Core.List.{List, [], ◌∷◌, ◌++◌, append-nil, append_assoc}
use borrow.Rule.Slice.PartMut.{put_mid}
use Prim.Native.Nat.{ℕ, suc, ◌+◌, ◌≤◌, ◌<◌}
use native.Mathlib.Nat.{add-zero, add-suc, suc-add}
use native.Mathlib.Numerals.{add-one}
use native.Mathlib.Omega.{arith}
use lib.ListN.{length, get_or, set, take, drop, replicate, length-replicate}
use lib.Seq.{sets, sets-eq, drop-drop, take-suc, take_all, length-take-le}
use Rattle.lists.specs.Lists.{flat}
use Rattle.lists.proofs.All.{flat_append}

module _ {ℓ} {A : Type ℓ} where
  -- one run after another
  pub sets-append : (l : List A) (k : ℕ) (xs ys : List A) → sets (sets l k xs) (k + length xs) ys ≡ sets l k (xs ++ ys)
  sets-append l k [] ys = ap (λ (n : ℕ). sets l n ys) (add-zero k)
  sets-append l k (x ∷ xs) ys = ap (λ (n : ℕ). sets (sets l k (x ∷ xs)) n ys) (add-suc k (length xs) ∙ sym (suc-add k (length xs))) ∙ sets-append (set l k x) (suc k) xs ys

  -- the same, where what the first left and the second's place are known by equations
  pub sets-next : (l m r : List A) (k n : ℕ) (xs ys : List A) → m ≡ sets l k xs → n ≡ k + length xs → r ≡ sets m n ys → r ≡ sets l k (xs ++ ys)
  sets-next l m r k n xs ys e f g = g ∙ ap₂ (λ (a : List A) (b : ℕ). sets a b ys) e f ∙ sets-append l k xs ys

  -- one turn more of a loop that stores xs from k on
  pub sets-turn : (l m : List A) (k : ℕ) (xs : List A) (j : ℕ) (d v : A) → m ≡ sets l k (take j xs) → j < length xs → v ≡ get_or xs j d → set m (k + j) v ≡ sets l k (take (j + 1) xs)
  sets-turn l m k xs j d v e h f =
      sets-next l m (set m (k + j) v) k (k + j) (take j xs) (v ∷ []) e (omega (arith, length-take-le j xs (omega arith))) refl
      ∙ ap (λ (x : A). sets l k (take j xs ++ (x ∷ []))) f
      ∙ ap (sets l k) (sym (take-suc xs j d h) ∙ ap (λ (n : ℕ). take n xs) (sym (add-one j)))

  -- all of them
  pub sets-done : (l m : List A) (k : ℕ) (xs : List A) (j : ℕ) → m ≡ sets l k (take j xs) → length xs ≤ j → m ≡ sets l k xs
  sets-done l m k xs j e h = e ∙ ap (sets l k) (take_all j xs h)

-- one turn more of a loop that stores g of each from k on
pub flat-turn : {A B : Type 0} (g : A → List B) (l m r : List B) (k n : ℕ) (xs : List A) (j : ℕ) (d : A) → m ≡ sets l k (flat g (take j xs)) → j < length xs → n ≡ k + length (flat g (take j xs)) → r ≡ sets m n (g (get_or xs j d))
    → r ≡ sets l k (flat g (take (j + 1) xs))
flat-turn {A} {B} g l m r k n xs j d e h f p =
    sets-next l m r k n (flat g (take j xs)) (g (get_or xs j d)) e f p
    ∙ ap (sets l k) (sym (ap (flat g) (ap (λ (i : ℕ). take i xs) (add-one j) ∙ take-suc xs j d h) ∙ flat_append g (take j xs) (get_or xs j d ∷ []) ∙ ap (λ (z : List B). flat g (take j xs) ++ z) (append-nil (g (get_or xs j d)))))

-- a run written over a part is a run of stores
pub mid-sets : {A : Type 0} (l : List A) (k n : ℕ) (xs : List A) → n ≡ length xs → k + n ≤ length l → put_mid k n l xs ≡ sets l k xs
mid-sets l k n xs e h =
    ap (λ r. take k l ++ (xs ++ r)) (drop-drop n k l ∙ ap (λ m. drop (k + m) l) e)
    ∙ sym (append_assoc (take k l) xs (drop (k + length xs) l))
    ∙ sym (sets-eq xs l k (omega (arith, e, h)))

-- the same, of v all along
pub mid-filled : {A : Type 0} (l : List A) (k m n : ℕ) (v : A) {r : List A} {j : ℕ} → r ≡ replicate j v → j ≡ n → m ≡ n → k + m ≤ length l → put_mid k m l r ≡ sets l k (replicate n v)
mid-filled {A} l k m n v {r} {j} f e p h = rw (f, e) (mid-sets l k m (replicate n v) (omega (arith, p, length-replicate n v)) h)
