-- Document 01, item 4: the filter's constants, its start, predict and update. Products and sums are crate `matrix`'s, identity and inverse crate `inverse`'s; chains associate left.
-- Definitions only.
use Rattle.std.specs.Prelude.{Bool, ◌||◌, List, [], ◌∷◌, ℕ, ◌+◌, ◌*◌, ◌/◌, ◌%◌, eqb, Float, get_or, length}
use Rattle.std.specs.Option.{unwrap_or}
use Rattle.std.specs.Float.{nan}
use Rattle.std.specs.Float.Ieee.{of_bits}
use Rattle.ieee.specs.Ops.{f32}
use Rattle.lists.specs.Lists.{pick, tab}
use Rattle.matrix.specs.Matrix.{product, sum, difference, transpose}
use Rattle.inverse.specs.Inverse.{identity, inverse}
use Rattle.kalman_filter.specs.declared.Filter.{Filter}
use Rattle.kalman_filter.specs.declared.DetectBox.{DetectBox}

-- 0, 1, 10, 10000, 0.01 and 0.0001
abbrev zero : Float
zero = f32 0

abbrev one : Float
one = f32 0x3f80_0000

abbrev ten : Float
ten = f32 0x4120_0000

abbrev ten_thousand : Float
ten_thousand = f32 0x461c_4000

abbrev hundredth : Float
hundredth = f32 0x3c23_d70a

abbrev ten_thousandth : Float
ten_thousandth = f32 0x38d1_b717

-- the matrix of m columns with 1 where the test of row and column passes, of n entries
abbrev ones : ℕ → ℕ → (ℕ → ℕ → Bool) → List Float
ones n m test = tab (λ q. pick (test (q / m) (q % m)) one zero) n

-- the square matrix with d on its diagonal
unfoldable pub diagonal : List Float → List Float
unfolding of_bits
diagonal d = let n = length d in tab (λ q. pick (eqb (q / n) (q % n)) (get_or d (q / n) nan) zero) (n * n)

-- F: each state number stays, and x, y and s move by their speeds
unfoldable pub f_matrix : List Float
unfolding of_bits
f_matrix = ones 49 7 (λ i j. eqb i j || eqb (i + 4) j)

-- H: the first four state numbers are measured
unfoldable pub h_matrix : List Float
unfolding of_bits
h_matrix = ones 28 7 (λ i j. eqb i j)

-- R, the measurement's noise
unfoldable pub r_matrix : List Float
unfolding diagonal of_bits
r_matrix = diagonal (one ∷ one ∷ ten ∷ ten ∷ [])

-- Q, the process noise
unfoldable pub q_matrix : List Float
unfolding diagonal of_bits
q_matrix = diagonal (one ∷ one ∷ one ∷ one ∷ hundredth ∷ hundredth ∷ ten_thousandth ∷ [])

abbrev pub measured : DetectBox → List Float
measured z = z.x ∷ z.y ∷ z.s ∷ z.r ∷ []

-- a filter at its first box: speeds 0, and little known of them
unfoldable pub start_of : DetectBox → Filter
unfolding diagonal of_bits
start_of z = record {
  x = z.x ∷ z.y ∷ z.s ∷ z.r ∷ zero ∷ zero ∷ zero ∷ [];
  p = diagonal (ten ∷ ten ∷ ten ∷ ten ∷ ten_thousand ∷ ten_thousand ∷ ten_thousand ∷ []);
}

-- x = F x, P = F P Fᵀ + Q
unfoldable pub predict_of : Filter → Filter
unfolding product sum transpose f_matrix q_matrix
predict_of f = record {
  x = product 7 7 1 f_matrix f.x;
  p = sum 49 (product 7 7 7 (product 7 7 7 f_matrix f.p) (transpose 7 7 f_matrix)) q_matrix;
}

-- no inverse means identity
unfoldable pub inverse_or_identity : List Float → List Float
unfolding inverse identity
inverse_or_identity s = unwrap_or (inverse s) (identity 4)

-- P Hᵀ
unfoldable pub pht_of : Filter → List Float
unfolding product transpose h_matrix
pht_of f = product 7 7 4 f.p (transpose 4 7 h_matrix)

-- the gain K = P Hᵀ S⁻¹, where S = H (P Hᵀ) + R
unfoldable pub gain_of : Filter → List Float
unfolding product sum h_matrix r_matrix pht_of inverse_or_identity
gain_of f = product 7 4 4 (pht_of f) (inverse_or_identity (sum 16 (product 4 7 4 h_matrix (pht_of f)) r_matrix))

-- the Joseph form: (I - K H) P (I - K H)ᵀ + K R Kᵀ
unfoldable pub joseph_of : List Float → List Float → List Float
unfolding product sum difference transpose identity h_matrix r_matrix
joseph_of k p =
    let a = difference 49 (identity 7) (product 7 4 7 k h_matrix) in
    sum 49 (product 7 7 7 (product 7 7 7 a p) (transpose 7 7 a)) (product 7 4 7 (product 7 4 4 k r_matrix) (transpose 7 4 k))

-- one measured box: x + K (z - H x), and P by the Joseph form
unfoldable pub update_of : DetectBox → Filter → Filter
unfolding product sum difference h_matrix gain_of joseph_of
update_of z f =
    let k = gain_of f in
    record {
      x = sum 7 f.x (product 7 4 1 k (difference 4 (measured z) (product 4 7 1 h_matrix f.x)));
      p = joseph_of k f.p;
    }
