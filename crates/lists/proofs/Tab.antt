-- Laws of `tab`: its length and entries, two that agree, one after another, and a loop that fills a list from the front. Assumes nothing.
use Prim.Native.Nat.{ℕ, suc, zero, ◌+◌, ◌<◌, ◌≤◌}
use native.Mathlib.Nat.{add-zero, add-suc, not-suc-le-zero, lt-suc_self, le_of_suc-le-suc, eq-or-lt_of_le}
use native.Mathlib.Numerals.{add-one}
use native.Mathlib.Omega.{arith}
use mathlib.Core.Path.{◌≡◌, refl, ap, sym, ◌∙◌}
use mathlib.Core.List.{List, [], ◌∷◌, ◌++◌, append_assoc, append-nil}
use mathlib.Core.Logic.{◌⊎◌, inl, inr}
use lib.ListN.{length, get_or, set, drop, length-append, length-drop, drop_of_length-le, get_or-append}
use lib.Seq.{drop-cons, set_at, get_or_at}
use Rattle.lists.specs.Lists.{tab}

module _ {ℓ} {A : Type ℓ} (f : ℕ → A) where
  pub length-tab : (n : ℕ) → length (tab f n) ≡ n
  length-tab zero = refl
  length-tab (suc n) = length-append (tab f n) (f n ∷ []) ∙ ap (λ (k : ℕ). k + 1) (length-tab n) ∙ add-one n

  get_or-tab-suc : (n j : ℕ) (d : A) → (j ≡ n) ⊎ (j < n) → ((k : ℕ) → k < n → get_or (tab f n) k d ≡ f k) → get_or (tab f (suc n)) j d ≡ f j
  get_or-tab-suc n j d (inl e) h = rw e (get_or_at (tab f n) (f n) [] d n (length-tab n))
  get_or-tab-suc n j d (inr l) h = get_or-append (tab f n) (f n ∷ []) d j (rw (length-tab n) l) ∙ h j l

  pub get_or-tab : (n : ℕ) (d : A) (j : ℕ) → j < n → get_or (tab f n) j d ≡ f j
  get_or-tab zero d j h = absurd (not-suc-le-zero h)
  get_or-tab (suc n) d j h = get_or-tab-suc n j d (eq-or-lt_of_le (le_of_suc-le-suc h)) (get_or-tab n d)

  pub tab-turn : (d : A) (l : List A) (n : ℕ) → n < length l → set (tab f n ++ drop n l) n (f n) ≡ tab f (n + 1) ++ drop (n + 1) l
  tab-turn d l n h = rw (add-one, drop-cons l n d h, set_at (tab f n) (get_or l n d) (drop (suc n) l) (f n) n (length-tab n), append_assoc)

  pub tab-done : (l : List A) (n : ℕ) → length l ≤ n → tab f n ++ drop n l ≡ tab f n
  tab-done l n h = rw (drop_of_length-le l h, append-nil)

  -- one more turn of a loop that fills l from the front
  pub tab-fill : (d : A) (l m : List A) (n : ℕ) (v : A) → m ≡ tab f n ++ drop n l → v ≡ f n → n < length l → set m n v ≡ tab f (n + 1) ++ drop (n + 1) l
  tab-fill d l m n v p q h = rw (p, q) (tab-turn d l n h)

  -- the place that comes next is as it was
  pub tab-rest : (d : A) (l : List A) (n : ℕ) → n < length l → get_or (tab f n ++ drop n l) n d ≡ get_or l n d
  tab-rest d l n h = rw (drop-cons l n d h) (get_or_at (tab f n) (get_or l n d) (drop (suc n) l) d n (length-tab n))

  pub filled-length : (l : List A) (n : ℕ) → n ≤ length l → length (tab f n ++ drop n l) ≡ length l
  filled-length l n h = omega (arith, length-append (tab f n) (drop n l), length-tab n, length-drop n l, h)

  pub tab-append : (n m : ℕ) → tab f n ++ tab (λ j. f (n + j)) m ≡ tab f (n + m)
  tab-append n zero = rw add-zero (append-nil (tab f n))
  tab-append n (suc m) = rw add-suc (sym (append_assoc (tab f n) (tab (λ j. f (n + j)) m) (f (n + m) ∷ [])) ∙ ap (λ (l : List A). l ++ (f (n + m) ∷ [])) (tab-append n m))

pub tab-ext {ℓ} : {A : Type ℓ} (f g : ℕ → A) (n : ℕ) → ((j : ℕ) → j < n → f j ≡ g j) → tab f n ≡ tab g n
tab-ext f g zero h = refl
tab-ext f g (suc n) h = rw (tab-ext f g n (λ j k. h j (omega (arith, k))), h n (lt-suc_self n)) refl
