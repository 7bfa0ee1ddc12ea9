-- Matrices of f32 as lists, row after row: the arithmetic at every size (document 01, stand-ins, "Matrix product"). Definitions only.
use Rattle.std.specs.Prelude.{ℕ, suc, zero, ◌+◌, ◌*◌, ◌/◌, ◌%◌, ◌<◌, ◌≡◌, List, Float, get_or, length}
use Rattle.std.specs.Float.{nan, binary32}
use Rattle.std.specs.Float.Ieee.{add, sub, mul}
use Rattle.lists.specs.Lists.{tab}

-- "left to right .. starting with the first term, .. no fused step": the terms f 0, f 1, .., n of them, added. (No term: nan, which no product asks for.)
abbrev pub sum_to : (ℕ → Float) → ℕ → Float
sum_to f zero = nan
sum_to f (suc zero) = f 0
sum_to f (suc (suc n)) = add binary32 (sum_to f (suc n)) (f (suc n))

-- what the entry at row i and column j adds at inner index l, where a has k columns and b has m
abbrev pub term : ℕ → ℕ → List Float → List Float → ℕ → ℕ → ℕ → Float
term k m a b i j l = mul binary32 (get_or a (i * k + l) nan) (get_or b (l * m + j) nan)

-- "each entry sums its terms .. by inner index, .. zeros included"
unfoldable pub entry_of : ℕ → ℕ → List Float → List Float → ℕ → ℕ → Float
unfolding add mul
entry_of k m a b i j = sum_to (term k m a b i j) k

-- the product of a, n by k, and b, k by m
unfoldable pub product : ℕ → ℕ → ℕ → List Float → List Float → List Float
unfolding entry_of
product n k m a b = tab (λ q. entry_of k m a b (q / m) (q % m)) (n * m)

-- the lists are as long as the product of an n by k and a k by m matrix asks
pub record Fit (n k m : ℕ) (a b out : List Float) : Type 0 where
  pub inner : 0 < k
  pub wide : 0 < m
  pub left : length a ≡ n * k
  pub right : length b ≡ k * m
  pub room : length out ≡ n * m

-- n entries, one by one
unfoldable pub sum : ℕ → List Float → List Float → List Float
unfolding add
sum n a b = tab (λ q. add binary32 (get_or a q nan) (get_or b q nan)) n

unfoldable pub difference : ℕ → List Float → List Float → List Float
unfolding sub
difference n a b = tab (λ q. sub binary32 (get_or a q nan) (get_or b q nan)) n

-- a, n by m, transposed: m by n
unfoldable pub transpose : ℕ → ℕ → List Float → List Float
transpose n m a = tab (λ q. get_or a (q % n * m + q / n) nan) (m * n)
