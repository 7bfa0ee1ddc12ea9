-- A line is words, of which one blank parts each two.
use Rattle.std.specs.Prelude.{◌≡◌, ℕ, ◌≤◌, Bool, ◌==◌, List, [], ◌∷◌, length, drop}
use Rattle.std.specs.List.{slice_split}

abbrev pub is_blank : ℕ → Bool
is_blank b = b == 32

-- the words of a line; the empty line is one empty word
abbrev pub words_of : List ℕ → List (List ℕ)
words_of line = slice_split is_blank line

-- the words in what stands behind a word: nothing, or a blank and a line of further words
abbrev pub words_behind : List ℕ → List (List ℕ)
words_behind [] = []
words_behind (_ ∷ line) = words_of line

-- there is a first word, and it is one of the kind
abbrev pub FirstIs : (List ℕ → Type 0) → List (List ℕ) → Type 0
FirstIs kind [] = ⊥
FirstIs kind (word ∷ _) = kind word

-- so many words are taken
abbrev pub Taken : ℕ → List (List ℕ) → List (List ℕ) → Type 0
Taken n old new = (n ≤ length old) × (new ≡ drop n old)
