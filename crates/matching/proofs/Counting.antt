-- Laws of counts and of the largest of them, by what is counted. Assumes nothing.
use mathlib.Core.Path.{◌≡◌, refl, sym, ap, ap₂, ◌∙◌}
use mathlib.Core.Bool.{Bool, true, false}
use mathlib.Core.Logic.{◌⊎◌, inl, inr, ⊎_elim}
use Prim.Native.Nat.{ℕ, zero, suc, ◌+◌, ◌≤◌, ◌<◌}
use native.Mathlib.Nat.{lt-suc_self, not-suc-le-zero, le_of_suc-le-suc, eq-or-lt_of_le}
use native.Mathlib.Omega.{arith}
use lib.Dec.{ltb}
use borrow.Author.Tests.{ltb-true, ltb-false}
use Rattle.lists.specs.Lists.{pick}
use Rattle.matching.specs.Matching.{count_of, fullest, larger}

pub count_same : (p q : ℕ → Bool) (n : ℕ) → ((j : ℕ) → j < n → p j ≡ q j) → count_of p n ≡ count_of q n
count_same p q zero h = refl
count_same p q (suc n) h = ap₂ (λ (k : ℕ) (b : Bool). k + pick b 1 0) (count_same p q n (λ j l. h j (omega (arith, l)))) (h n (lt-suc_self n))

pub count_none : (p : ℕ → Bool) (n : ℕ) → ((i : ℕ) → i < n → p i ≡ false) → count_of p n ≡ 0
count_none p zero h = refl
count_none p (suc n) h = rw (h n (lt-suc_self n)) (omega (arith, count_none p n (λ i l. h i (omega arith))))

pub count-last : (p : ℕ → Bool) (n : ℕ) → p n ≡ true → count_of p (suc n) ≡ count_of p n + 1
count-last p n e = rw e

pub count-more : (p : ℕ → Bool) (n : ℕ) → count_of p n ≤ count_of p (suc n)
count-more p n = omega arith

pub count-one : (p : ℕ → Bool) (n i : ℕ) → i < n → p i ≡ true → 1 ≤ count_of p n
count-one p zero i h e = absurd (not-suc-le-zero h)
count-one p (suc n) i h e =
    ⊎_elim (λ q. omega (arith, count-last p n (ap p (sym q) ∙ e))) (λ q. omega (arith, count-one p n i q e, count-more p n)) (eq-or-lt_of_le (le_of_suc-le-suc h))

pub fullest-same : (f g : ℕ → ℕ) (n : ℕ) → ((i : ℕ) → i < n → f i ≡ g i) → fullest f n ≡ fullest g n
fullest-same f g zero h = refl
fullest-same f g (suc n) h = ap₂ larger (fullest-same f g n (λ i l. h i (omega (arith, l)))) (h n (lt-suc_self n))

pub fullest-most : (f : ℕ → ℕ) (n i : ℕ) → i < n → f i ≤ fullest f n
fullest-most f zero i h = absurd (not-suc-le-zero h)
fullest-most f (suc n) i h = go (ltb (fullest f n) (f n)) refl (eq-or-lt_of_le (le_of_suc-le-suc h)) (fullest-most f n i)
  where
    go : (t : Bool) → ltb (fullest f n) (f n) ≡ t → (i ≡ n) ⊎ (i < n) → (i < n → f i ≤ fullest f n) → f i ≤ pick t (f n) (fullest f n)
    go true e (inl q) ih = rw q (omega arith)
    go true e (inr q) ih = let l : fullest f n < f n = ltb-true (fullest f n) (f n) e in omega (arith, ih q)
    go false e (inl q) ih = rw q (ltb-false (fullest f n) (f n) e)
    go false e (inr q) ih = ih q
