-- Document 02, 2.14: of all above-threshold patterns of a size, how many take the shortcut of `match_or_lapjv` and how many go to the assignment.
-- Definitions only.
use Rattle.std.specs.Prelude.{◌≡◌, Bool, not, ◌&&◌, List, [], ◌∷◌, ℕ, ◌+◌, ◌*◌, ◌/◌, ◌%◌, ◌^◌, ◌<◌, ltb, eqb}
use Rattle.lists.specs.Lists.{pick, All}
use Rattle.matching.specs.Matching.{Pattern, count_of, shortcut}

-- ---- all patterns of r rows by c columns

-- They are numbered from 0 to 2 ^ (r * c) - 1: in the pattern of number b, row i and column j are above the threshold where the binary digit of b
-- at place i * c + j is 1.
abbrev pub bit_at : ℕ → ℕ → ℕ
bit_at b k = b / 2 ^ k % 2

abbrev pub has_bit : ℕ → ℕ → Bool
has_bit b k = eqb (bit_at b k) 1

abbrev pub pattern_of : ℕ → ℕ → Pattern
pattern_of c b i j = has_bit b (i * c + j)

-- alike in all r by c cells
abbrev pub SameTable : ℕ → ℕ → Pattern → Pattern → Type 0
SameTable r c p q = (i j : ℕ) → i < r → j < c → p i j ≡ q i j

-- each pattern has a number, and no two numbers have the same pattern
pub record EachOnce : Type 0 where
  pub numbered : (r c : ℕ) (p : Pattern) → (b : ℕ) × ((b < 2 ^ (r * c)) × SameTable r c (pattern_of c b) p)
  pub distinct : (r c a b : ℕ) → a < 2 ^ (r * c) → b < 2 ^ (r * c) → SameTable r c (pattern_of c a) (pattern_of c b) → a ≡ b

-- how many of them pass a test
abbrev pub patterns_where : ℕ → ℕ → (Pattern → Bool) → ℕ
patterns_where r c test = count_of (λ b. test (pattern_of c b)) (2 ^ (r * c))

-- ---- the two figures, by the test in `match_or_lapjv`'s contract

unfoldable pub shortcuts : ℕ → ℕ → ℕ
unfolding shortcut
shortcuts r c = patterns_where r c (λ p. shortcut r c p)

unfoldable pub assignments : ℕ → ℕ → ℕ
unfolding shortcut
assignments r c = patterns_where r c (λ p. not (shortcut r c p))

-- 1 to 4 rows by 1 to 4 columns; any other size gives 0 and 0
abbrev pub is_small : ℕ → ℕ → Bool
is_small r c = (ltb 0 r && ltb r 5) && (ltb 0 c && ltb c 5)

-- what the call returns
pub record Counted (r c s a : ℕ) : Type 0 where
  pub shortcut : s ≡ pick (is_small r c) (shortcuts r c) 0
  pub assignment : a ≡ pick (is_small r c) (assignments r c) 0

-- ---- the figures of the 16 sizes

pub record OfSize : Type 0 where
  pub rows : ℕ
  pub columns : ℕ
  pub shortcut : ℕ
  pub assignment : ℕ

abbrev pub of_size : ℕ → ℕ → ℕ → ℕ → OfSize
of_size r c s a = record { rows = r; columns = c; shortcut = s; assignment = a }

-- 1 by 2, 2 by 2, 3 by 3 and 4 by 4 are document 02's; the others were counted by going through all patterns
abbrev pub figures : List OfSize
figures =
    of_size 1 1 1 1 ∷ of_size 1 2 2 2 ∷ of_size 1 3 3 5 ∷ of_size 1 4 4 12
    ∷ of_size 2 1 2 2 ∷ of_size 2 2 6 10 ∷ of_size 2 3 12 52 ∷ of_size 2 4 20 236
    ∷ of_size 3 1 3 5 ∷ of_size 3 2 12 52 ∷ of_size 3 3 33 479 ∷ of_size 3 4 72 4024
    ∷ of_size 4 1 4 12 ∷ of_size 4 2 20 236 ∷ of_size 4 3 72 4024 ∷ of_size 4 4 208 65328
    ∷ []

pub record HasFigures (z : OfSize) : Type 0 where
  pub shortcut : shortcuts z.rows z.columns ≡ z.shortcut
  pub assignment : assignments z.rows z.columns ≡ z.assignment

abbrev pub AllSizes : Type 0
AllSizes = All HasFigures figures
