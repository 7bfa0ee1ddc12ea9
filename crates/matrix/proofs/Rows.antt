-- Rows of a product gathered term by term, and rows put one after another. Assumes nothing.
use Prim.Native.Nat.{ℕ, suc, zero, ◌+◌, ◌-◌, ◌*◌, ◌/◌, ◌%◌, ◌<◌, ◌≤◌}
use native.Mathlib.Nat.{zero-mul, zero-add, add-zero, not-suc-le-zero, mul-add-div_right, mul-add-mod_self_right, add-mul, one-mul, div-eq_of_lt, mod-eq_of_lt, mul-le-mul_right}
use native.Mathlib.Numerals.{add-one}
use native.Mathlib.Omega.{arith}
use mathlib.Core.Path.{◌≡◌, refl, ap, sym, ◌∙◌}
use mathlib.Core.List.{List, ◌++◌, append_assoc}
use lib.Ieee.{Float, nan, add, mul, binary32}
use lib.ListN.{length, get_or, drop, take, length-drop}
use lib.Seq.{take_at, drop_at, drop-drop, get_or-take, get_or-drop, length-take-le}
use borrow.Rule.Slice.PartMut.{put_mid}
use Rattle.lists.specs.Lists.{tab}
use Rattle.lists.proofs.Tab.{length-tab, get_or-tab, filled-length, tab-append, tab-ext}
use Rattle.matrix.specs.Matrix.{sum_to, term, entry_of}
use Rattle.lists.proofs.Fill.{Filled}

-- a row of m places is m long
row_length : (i m : ℕ) → (i + 1) * m - i * m ≡ m
row_length i m = omega (arith, add-mul i 1 m)

-- row i as a part of l
pub part_length : (l : List Float) (i m : ℕ) → (i + 1) * m ≤ length l → length (take ((i + 1) * m - i * m) (drop (i * m) l)) ≡ m
part_length l i m h = rw (row_length i m) (length-take-le m (drop (i * m) l) (omega (arith, length-drop (i * m) l, add-mul i 1 m)))

-- a row is inside a matrix of n rows
pub row_inside : (n m i : ℕ) → i < n → (i + 1) * m ≤ n * m
row_inside n m i h = let k : i + 1 ≤ n = omega arith in mul-le-mul_right m k

-- place j of row i, by its row and by its column
place-row : (m i j : ℕ) → j < m → (i * m + j) / m ≡ i
place-row m i j h = let p : 0 < m = omega arith in mul-add-div_right p i j ∙ (ap (λ (y : ℕ). i + y) (div-eq_of_lt h) ∙ add-zero i)

place-column : (m i j : ℕ) → j < m → (i * m + j) % m ≡ j
place-column m i j h = mul-add-mod_self_right i m j ∙ mod-eq_of_lt h

-- column j of a, n by m, at its places in the transpose
pub column-places : (n m : ℕ) (a : List Float) (j : ℕ) → tab (λ i. get_or a (i * m + j) nan) n ≡ tab (λ i. get_or a ((j * n + i) % n * m + (j * n + i) / n) nan) n
column-places n m a j = tab-ext _ _ n (λ i h. ap (λ (q : ℕ). get_or a q nan) (sym (rw (place-row n j i h, place-column n j i h) refl)))

sum-more-suc : (f : ℕ → Float) (l : ℕ) → 0 < l → add binary32 (sum_to f l) (f l) ≡ sum_to f (suc l)
sum-more-suc f zero h = absurd (not-suc-le-zero h)
sum-more-suc f (suc l) h = refl

sum_more : (f : ℕ → Float) (l : ℕ) → 0 < l → add binary32 (sum_to f l) (f l) ≡ sum_to f (l + 1)
sum_more f l h = rw add-one (sum-more-suc f l h)

module _ (k m : ℕ) (a b : List Float) (i : ℕ) where
  -- row i after its first l terms
  abbrev pub gathered : ℕ → List Float
  gathered l = tab (λ j. sum_to (term k m a b i j) l) m

  pub first-term : (j : ℕ) → mul binary32 (get_or a (i * k) nan) (get_or b j nan) ≡ sum_to (term k m a b i j) 1
  first-term j = simp (add-zero, zero-mul, zero-add)

  -- one more term of entry j, with b's row l as a part of b
  pub more-terms : (o : List Float) (l j : ℕ) → 0 < l → o ≡ gathered l → j < m
      → add binary32 (get_or o j nan) (mul binary32 (get_or a (i * k + l) nan) (get_or (take ((l + 1) * m - l * m) (drop (l * m) b)) j nan)) ≡ sum_to (term k m a b i j) (l + 1)
  more-terms o l j p q h =
      rw (row_length l m, get_or-take m (drop (l * m) b) j nan h, get_or-drop (l * m) b j nan, q, get_or-tab (λ j. sum_to (term k m a b i j) l) m nan j h)
      (sum_more (term k m a b i j) l p)

  -- the entries of row i at their places in the product
  pub row-places : tab (entry_of k m a b i) m ≡ tab (λ j. entry_of k m a b ((i * m + j) / m) ((i * m + j) % m)) m
  row-places = tab-ext _ _ m (λ j h. sym (rw (place-row m i j h, place-column m i j h) refl))

put-tab : (f : ℕ → Float) (l : List Float) (n m : ℕ) → put_mid n m (tab f n ++ drop n l) (tab (λ j. f (n + j)) m) ≡ tab f (n + m) ++ drop (n + m) l
put-tab f l n m =
    ap (λ (x : List Float). x ++ (tab (λ j. f (n + j)) m ++ drop m (drop n (tab f n ++ drop n l)))) (take_at (tab f n) (drop n l) n (length-tab f n))
    ∙ (ap (λ (x : List Float). tab f n ++ (tab (λ j. f (n + j)) m ++ drop m x)) (drop_at (tab f n) (drop n l) n (length-tab f n))
    ∙ (ap (λ (x : List Float). tab f n ++ (tab (λ j. f (n + j)) m ++ x)) (drop-drop m n l)
    ∙ (sym (append_assoc (tab f n) (tab (λ j. f (n + j)) m) (drop (n + m) l)) ∙ ap (λ (x : List Float). x ++ drop (n + m) l) (tab-append f n m))))

-- row i put in after those before it
pub filled_row : (f : ℕ → Float) (l o r : List Float) (i m : ℕ) → Filled f l o (i * m) → (i + 1) * m ≤ length l → r ≡ tab (λ j. f (i * m + j)) m
    → Filled f l (put_mid (i * m) ((i + 1) * m - i * m) o r) ((i + 1) * m)
filled_row f l o r i m p h q =
    let n : (i + 1) * m ≡ i * m + m = add-mul i 1 m ∙ ap (λ (x : ℕ). i * m + x) (one-mul m) in
    let t : put_mid (i * m) m o r ≡ tab f (i * m + m) ++ drop (i * m + m) l = rw (p.front, q) (put-tab f l (i * m) m) in
    rw (row_length i m, n) (record {
      same = ap length t ∙ filled-length f l (i * m + m) (omega (arith, n));
      inside = omega (arith, n);
      front = t;
    })
