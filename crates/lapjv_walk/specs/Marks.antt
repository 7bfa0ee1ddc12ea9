-- Marks, as the result lists hold them: the index of a row or a column, or free. Definitions only.
use Rattle.std.specs.Prelude.{Bool, true, false, List, Option, None, Some, ℕ, ℤ, pos, negsuc, get_or}

-- the Rust's -1
abbrev pub free : ℤ
free = negsuc 0

abbrev pub is_free : ℤ → Bool
is_free (pos i) = false
is_free (negsuc i) = true

abbrev pub index : ℤ → ℕ
index (pos i) = i
index (negsuc i) = 0

-- the mark of an index, free for none
abbrev pub mark_of : Option ℕ → ℤ
mark_of None = free
mark_of (Some i) = pos i

abbrev pub mark_at : List ℤ → ℕ → ℤ
mark_at x i = get_or x i (pos 0)

abbrev pub num_at : List ℕ → ℕ → ℕ
num_at rows r = get_or rows r 0
