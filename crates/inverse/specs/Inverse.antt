-- The identity matrix, and the inverse of a 4 by 4 matrix of f32, as lists, row after row (document 01, stand-ins, "`try_inverse`"). Definitions only.
use Rattle.std.specs.Prelude.{ℕ, suc, zero, ◌+◌, ◌*◌, ◌/◌, ◌%◌, Bool, true, false, ◌||◌, List, [], ◌++◌, eqb, Float, get_or, Option, None, Some}
use Rattle.std.specs.Option.{option_map}
use Rattle.std.specs.Float.{nan, binary32}
use Rattle.std.specs.Float.Ieee.{sub, mul, div, eq, ne, of_bits}
use Rattle.lists.specs.Lists.{pick, tab}

abbrev pub zero32 : Float
zero32 = of_bits binary32 0

abbrev pub one32 : Float
one32 = of_bits binary32 1065353216

-- n by n
unfoldable pub identity : ℕ → List Float
unfolding of_bits
identity n = tab (λ q. pick (eqb (q / n) (q % n)) one32 zero32) (n * n)

-- ---- Gauss-Jordan without row exchange

-- four rows of eight
abbrev pub Rows : Type 0
Rows = List (List Float)

abbrev pub row : ℕ → Rows → List Float
row i m = get_or m i []

-- "on S beside the identity"
unfoldable pub beside : List Float → Rows
unfolding identity
beside s = tab (λ i. tab (λ j. get_or s (i * 4 + j) nan) 4 ++ tab (λ j. get_or (identity 4) (i * 4 + j) nan) 4) 4

-- "a pivot equal to 0 or NaN": both zeros equal 0
unfoldable pub unusable : Float → Bool
unfolding eq ne
unusable p = eq p zero32 || ne p p

-- "The pivot's row is divided by the pivot": the pivot stands in column c
unfoldable pub scaled : ℕ → List Float → List Float
unfolding div
scaled c r = tab (λ j. div binary32 (get_or r j nan) (get_or r c nan)) 8

-- "each other row loses the pivot's row times its own old entry in that column, product rounded first": r loses t times its entry in column c
unfoldable pub reduced : ℕ → List Float → List Float → List Float
unfolding sub mul
reduced c t r = tab (λ j. sub binary32 (get_or r j nan) (mul binary32 (get_or t j nan) (get_or r c nan))) 8

abbrev pub cleared : ℕ → Rows → Rows
cleared c m = let t = scaled c (row c m) in tab (λ i. pick (eqb i c) t (reduced c t (row i m))) 4

-- "means none"
abbrev pub unless : Bool → Rows → Option Rows
unless true m = None
unless false m = Some m

unfoldable pub column : ℕ → Option Rows → Option Rows
unfolding unusable scaled reduced
column c None = None
column c (Some m) = unless (unusable (get_or (row c m) c nan)) (cleared c m)

-- "Columns in order": after the first n of them
abbrev pub columns : ℕ → Rows → Option Rows
columns zero m = Some m
columns (suc n) m = column n (columns n m)

abbrev pub right_half : Rows → List Float
right_half m = tab (λ q. get_or (row (q / 4) m) (4 + q % 4) nan) 16

unfoldable pub inverse : List Float → Option (List Float)
unfolding beside column
inverse s = option_map right_half (columns 4 (beside s))
