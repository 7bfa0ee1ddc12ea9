-- What the code counts row by row: patterns with at most one overlap above the threshold in each row and in each column, that is placements of rooks
-- none of which attacks another. The public contract doesn't speak of them. Definitions only.
use Rattle.std.specs.Prelude.{Bool, ◌&&◌, ℕ, ◌+◌, leb}
use Rattle.matching.specs.Matching.{Pattern, count_of, fullest}
use Rattle.shortcut_counts.specs.Counted.{bit_at, patterns_where}

-- n rows of c: no row has more than one, and no column, with those that it had before
unfoldable pub is_placement : ℕ → ℕ → (ℕ → ℕ) → Pattern → Bool
is_placement n c had p = leb (fullest (λ i. count_of (λ j. p i j) c) n) 1 && leb (fullest (λ j. had j + count_of (λ i. p i j) n) c) 1

-- how many of all patterns are, where the columns of the mask's digits are used
unfoldable pub placements : ℕ → ℕ → ℕ → ℕ
unfolding is_placement
placements n c mask = patterns_where n c (λ p. is_placement n c (bit_at mask) p)
