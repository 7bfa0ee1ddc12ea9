-- Flat arrays: an entry more, and what stands at a place, past the entries too. Assumes nothing.
use mathlib.Core.Path.{◌≡◌, refl, sym, ap, ap₂, ◌∙◌}
use mathlib.Core.List.{List, [], ◌∷◌, ◌++◌, append-nil}
use Prim.Native.Nat.{ℕ, zero, suc, ◌+◌, ◌-◌, ◌*◌, ◌≤◌, ◌<◌}
use native.Mathlib.Omega.{arith}
use native.Mathlib.Nat.{add-zero}
use lib.Ieee.{Float, nan}
use lib.ListN.{length, get_or, drop, replicate, length-append, length-replicate, get_or-append, replicate-append-replicate}
use lib.Seq.{sets, sets-eq, take_at, drop-append-add, drop_at, get_or-append-add}
use Rattle.lists.specs.Lists.{flat}
use Rattle.lists.proofs.All.{flat_append}
use Rattle.objects.specs.Cells.{padded}

-- ---- padding

-- to read past a list is to read its padding
pub get_or-padding : {A : Type 0} (xs : List A) (k i : ℕ) (d : A) → get_or (xs ++ replicate k d) i d ≡ get_or xs i d
get_or-padding [] zero i d = refl
get_or-padding [] (suc k) zero d = refl
get_or-padding [] (suc k) (suc i) d = get_or-padding [] k i d
get_or-padding (x ∷ xs) k zero d = refl
get_or-padding (x ∷ xs) k (suc i) d = get_or-padding xs k i d

-- cells from the first free one on
pub sets-padding : {A : Type 0} (xs vs : List A) (n : ℕ) (d : A) → length xs + length vs ≤ n
    → sets (xs ++ replicate (n - length xs) d) (length xs) vs ≡ (xs ++ vs) ++ replicate (n - length (xs ++ vs)) d
sets-padding {A} xs vs n d h =
    sets-eq vs (xs ++ replicate (n - length xs) d) (length xs) long
    ∙ ap₂ (λ (l m : List A). (l ++ vs) ++ m) (take_at xs (replicate (n - length xs) d) (length xs) refl) rest
  where
    long : length xs + length vs ≤ length (xs ++ replicate (n - length xs) d)
    long = omega (arith, length-append xs (replicate (n - length xs) d), length-replicate (n - length xs) d)

    room : n - length xs ≡ length vs + (n - length (xs ++ vs))
    room = omega (arith, length-append xs vs)

    rest : drop (length xs + length vs) (xs ++ replicate (n - length xs) d) ≡ replicate (n - length (xs ++ vs)) d
    rest =
        drop-append-add xs (replicate (n - length xs) d) (length vs)
        ∙ ap (λ (k : ℕ). drop (length vs) (replicate k d)) room
        ∙ ap (drop (length vs)) (sym (replicate-append-replicate (length vs) (n - length (xs ++ vs)) d))
        ∙ drop_at (replicate (length vs) d) (replicate (n - length (xs ++ vs)) d) (length vs) (length-replicate (length vs) d)

pub padded-length : (n : ℕ) (l : List Float) → length l ≤ n → length (padded n l) ≡ n
padded-length n l h = omega (arith, length-append l (replicate (n - length l) nan), length-replicate (n - length l) nan)

-- ---- entries

module _ {A : Type 0} (f : A → List Float) (w : ℕ) (wide : (x : A) → length (f x) ≡ w) where
  pub flat-length : (xs : List A) → length (flat f xs) ≡ w * length xs
  flat-length [] = omega arith
  flat-length (x ∷ xs) = omega (arith, length-append (f x) (flat f xs), wide x, flat-length xs)

  -- one entry more
  pub flat-push : (n : ℕ) (xs : List A) (x : A) → w * length xs + w ≤ n → sets (padded n (flat f xs)) (w * length xs) (f x) ≡ padded n (flat f (xs ++ (x ∷ [])))
  flat-push n xs x h =
      ap (λ (k : ℕ). sets (padded n (flat f xs)) k (f x)) (sym (flat-length xs))
      ∙ sets-padding (flat f xs) (f x) n nan (omega (arith, flat-length xs, wide x))
      ∙ ap (padded n) (sym (flat_append f xs (x ∷ []) ∙ ap (λ (l : List Float). flat f xs ++ l) (append-nil (f x))))

  -- the numbers at place c of an entry, the default's past the entries
  flat-at : (d : A) (c : ℕ) → c < w → get_or (f d) c nan ≡ nan → (xs : List A) (i : ℕ) → get_or (flat f xs) (i * w + c) nan ≡ get_or (f (get_or xs i d)) c nan
  flat-at d c h e [] i = sym e
  flat-at d c h e (x ∷ xs) zero = ap (λ (k : ℕ). get_or (f x ++ flat f xs) k nan) (omega arith) ∙ get_or-append (f x) (flat f xs) nan c (omega (arith, wide x))
  flat-at d c h e (x ∷ xs) (suc i) = ap (λ (k : ℕ). get_or (f x ++ flat f xs) k nan) (omega (arith, wide x)) ∙ get_or-append-add (f x) (flat f xs) (i * w + c) nan ∙ flat-at d c h e xs i

  pub padded-at : (d : A) (c : ℕ) → c < w → get_or (f d) c nan ≡ nan → (n : ℕ) (xs : List A) (i : ℕ) → get_or (padded n (flat f xs)) (i * w + c) nan ≡ get_or (f (get_or xs i d)) c nan
  padded-at d c h e n xs i = get_or-padding (flat f xs) (n - length (flat f xs)) (i * w + c) nan ∙ flat-at d c h e xs i

  pub padded-first : (d : A) → 0 < w → get_or (f d) 0 nan ≡ nan → (n : ℕ) (xs : List A) (i : ℕ) → get_or (padded n (flat f xs)) (i * w) nan ≡ get_or (f (get_or xs i d)) 0 nan
  padded-first d h e n xs i = ap (λ (k : ℕ). get_or (padded n (flat f xs)) k nan) (sym (add-zero (i * w))) ∙ padded-at d 0 h e n xs i
