-- Sums of the first n numbers of a rule, and how `count_of` and `fullest` go with them: from the last on, as they are defined, and from the first on.
-- Assumes nothing.
use mathlib.Core.Path.{◌≡◌, refl, sym, ap, ap₂, ◌∙◌}
use mathlib.Core.Bool.{Bool, true, false, not, ◌&&◌, and-true, and_assoc}
use Prim.Native.Nat.{ℕ, zero, suc, ◌+◌, ◌*◌, ◌≤◌, ◌<◌}
use native.Mathlib.Nat.{add-suc, add-zero, lt-suc_self, suc-mul, zero-mul}
use native.Mathlib.Omega.{arith}
use lib.Dec.{leb, ltb, leb-zero}
use borrow.Author.Tests.{ltb-true, ltb-false, leb-true, leb-false, le-leb, lt-leb}
use Rattle.lists.specs.Lists.{pick}
use Rattle.matching.specs.Matching.{count_of, fullest, larger}
use Rattle.matching.proofs.Counting.{count_same, count_none, fullest-same}

-- f 0 + f 1 + .., n of them
abbrev pub sum_below : (ℕ → ℕ) → ℕ → ℕ
sum_below f zero = 0
sum_below f (suc n) = sum_below f n + f n

pub sums_same : (f g : ℕ → ℕ) (n : ℕ) → ((k : ℕ) → k < n → f k ≡ g k) → sum_below f n ≡ sum_below g n
sums_same f g zero h = refl
sums_same f g (suc n) h = ap₂ ◌+◌ (sums_same f g n (λ k l. h k (omega (arith, l)))) (h n (lt-suc_self n))

pub sums-zero : (n : ℕ) → sum_below (λ _. 0) n ≡ 0
sums-zero zero = refl
sums-zero (suc n) = omega (arith, sums-zero n)

sums-add : (f g : ℕ → ℕ) (n : ℕ) → sum_below (λ k. f k + g k) n ≡ sum_below f n + sum_below g n
sums-add f g zero = refl
sums-add f g (suc n) = omega (arith, sums-add f g n)

pub sums-split : (f : ℕ → ℕ) (m k : ℕ) → sum_below f (m + k) ≡ sum_below f m + sum_below (λ i. f (m + i)) k
sums-split f m zero = rw (add-zero m) (omega arith)
sums-split f m (suc k) = rw (add-suc m k) (omega (arith, sums-split f m k))

-- k blocks of m, taken place by place
pub sums-blocks : (f : ℕ → ℕ) (k m : ℕ) → sum_below f (k * m) ≡ sum_below (λ w. sum_below (λ q. f (q * m + w)) k) m
sums-blocks f zero m = rw (zero-mul m) (sym (sums-zero m))
sums-blocks f (suc k) m =
    ap (sum_below f) (suc-mul k m)
    ∙ sums-split f (k * m) m
    ∙ ap (λ (z : ℕ). z + sum_below (λ w. f (k * m + w)) m) (sums-blocks f k m)
    ∙ sym (sums-add (λ w. sum_below (λ q. f (q * m + w)) k) (λ w. f (k * m + w)) m)

-- ---- counts

pub count-sum : (p : ℕ → Bool) (n : ℕ) → count_of p n ≡ sum_below (λ k. pick (p k) 1 0) n
count-sum p zero = refl
count-sum p (suc n) = ap (λ (z : ℕ). z + pick (p n) 1 0) (count-sum p n)

pub count-front : (p : ℕ → Bool) (n : ℕ) → count_of p (suc n) ≡ pick (p 0) 1 0 + count_of (λ i. p (suc i)) n
count-front p zero = omega arith
count-front p (suc n) = omega (arith, count-front p n)

-- where p says of each what q and r say together
pub count_add : (p q r : ℕ → Bool) (n : ℕ) → ((k : ℕ) → k < n → pick (p k) 1 0 ≡ pick (q k) 1 0 + pick (r k) 1 0) → count_of p n ≡ count_of q n + count_of r n
count_add p q r zero h = refl
count_add p q r (suc n) h = omega (arith, count_add p q r n (λ k l. h k (omega (arith, l))), h n (lt-suc_self n))

pub count-rest : (p : ℕ → Bool) (n : ℕ) → count_of p n + count_of (λ k. not (p k)) n ≡ n
count-rest p zero = refl
count-rest p (suc n) = omega (arith, count-rest p n, one (p n))
  where
    one : (t : Bool) → pick t 1 0 + pick (not t) 1 0 ≡ 1
    one true = refl
    one false = refl

-- a test of which one part is the same for all
pub count-and : (t : Bool) (p : ℕ → Bool) (n : ℕ) → count_of (λ k. t && p k) n ≡ pick t (count_of p n) 0
count-and true p n = count_same (λ k. true && p k) p n (λ k l. refl)
count-and false p n = count_none (λ k. false && p k) n (λ k l. refl)

-- ---- the largest

larger-leb : (a b k : ℕ) → leb (larger a b) k ≡ (leb a k && leb b k)
larger-leb a b k = go (ltb a b) (leb a k) (leb b k) refl refl refl
  where
    go : (t x y : Bool) → ltb a b ≡ t → leb a k ≡ x → leb b k ≡ y → leb (pick t b a) k ≡ (x && y)
    go true true y e f g = g
    go true false y e f g = lt-leb b k (omega (arith, ltb-true a b e, leb-false a k f))
    go false true true e f g = f
    go false true false e f g = absurd (no (ltb-false a b e) (leb-true a k f) (leb-false b k g))
      where
        no : b ≤ a → a ≤ k → k < b → ⊥
        no u v w = omega arith
    go false false y e f g = f

-- all are at most k: the first is, and the others are
pub fullest-front : (f : ℕ → ℕ) (n k : ℕ) → leb (fullest f (suc n)) k ≡ (leb (f 0) k && leb (fullest (λ i. f (suc i)) n) k)
fullest-front f zero k =
    larger-leb 0 (f 0) k
    ∙ ap (λ (t : Bool). t && leb (f 0) k) (leb-zero k)
    ∙ sym (and-true (leb (f 0) k))
    ∙ ap (λ (t : Bool). leb (f 0) k && t) (sym (leb-zero k))
fullest-front f (suc n) k =
    larger-leb (fullest f (suc n)) (f (suc n)) k
    ∙ ap (λ (t : Bool). t && leb (f (suc n)) k) (fullest-front f n k)
    ∙ and_assoc (leb (f 0) k) (leb (fullest (λ i. f (suc i)) n) k) (leb (f (suc n)) k)
    ∙ ap (λ (t : Bool). leb (f 0) k && t) (sym (larger-leb (fullest (λ i. f (suc i)) n) (f (suc n)) k))

pub fullest-zero : (f : ℕ → ℕ) (n : ℕ) → ((k : ℕ) → k < n → f k ≡ 0) → fullest f n ≡ 0
fullest-zero f n h = fullest-same f (λ _. 0) n h ∙ zeros n
  where
    zeros : (n : ℕ) → fullest (λ _. 0) n ≡ 0
    zeros zero = refl
    zeros (suc n) = rw (zeros n)

pub fullest-below : (f : ℕ → ℕ) (n b : ℕ) → ((k : ℕ) → k < n → f k ≤ b) → leb (fullest f n) b ≡ true
fullest-below f zero b h = leb-zero b
fullest-below f (suc n) b h = larger-leb (fullest f n) (f n) b ∙ ap₂ ◌&&◌ (fullest-below f n b (λ k l. h k (omega (arith, l)))) (le-leb (f n) b (h n (lt-suc_self n)))
