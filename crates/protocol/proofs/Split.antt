-- A line's first word, and those behind it.
use Rattle.std.proofs.Common.{◌≡◌, ℕ, suc, ◌+◌, ◌<◌, ◌≤◌, Bool, true, false, cond, not, ltb, List, [], ◌∷◌, length, take, drop, Some, None, position, arith, refl, sym, ap, ap₂, ◌∙◌, count_by}
use Rattle.std.specs.Option.{unwrap_or}
use Rattle.std.specs.List.{position_or_len, onto_first}
use Rattle.std.proofs.lemmas.List.Splits.{length-slice_split}
use Rattle.std.proofs.lemmas.List.Sums.{sum_by-cons}
use Rattle.std.proofs.lemmas.List.{length-drop, drop-drop}
use Rattle.protocol.specs.Blank.{is_blank, words_of, words_behind, FirstIs, Taken}

within-step : (n l : ℕ) (t : Bool) → n ≤ l → cond (not t) (1 + n) 0 ≤ suc l
within-step n l true h = omega arith
within-step n l false h = omega arith

pub position_or_len-within : (xs : List ℕ) → position_or_len is_blank xs ≤ length xs
position_or_len-within [] = omega arith
position_or_len-within (x ∷ xs) = within-step _ (length xs) (is_blank x) (position_or_len-within xs)

unwrap-step : (n l : ℕ) (t : Bool) → ltb n l ≡ t → n ≤ l → unwrap_or (cond t (Some n) None) l ≡ n
unwrap-step n l true e h = refl
unwrap-step n l false e h = grind arith

pub unwrap_or-position : (xs : List ℕ) → unwrap_or (position is_blank xs) (length xs) ≡ position_or_len is_blank xs
unwrap_or-position xs = unwrap-step _ _ _ refl (position_or_len-within xs)

one-more : (n : ℕ) → suc n ≡ 1 + n
one-more n = omega arith

first-step : (x : ℕ) (xs : List ℕ) (n : ℕ) (t : Bool) → words_of xs ≡ take n xs ∷ words_behind (drop n xs) → cond t ([] ∷ words_of xs) (onto_first x (words_of xs)) ≡ take (cond (not t) (1 + n) 0) (x ∷ xs) ∷ words_behind (drop (cond (not t) (1 + n) 0) (x ∷ xs))
first-step x xs n true e = refl
first-step x xs n false e = ap (onto_first x) e ∙ ap (λ m. take m (x ∷ xs) ∷ words_behind (drop m (x ∷ xs))) (one-more n)

pub words_of-first : (line : List ℕ) → words_of line ≡ take (position_or_len is_blank line) line ∷ words_behind (drop (position_or_len is_blank line) line)
words_of-first [] = refl
words_of-first (x ∷ xs) = first-step x xs (position_or_len is_blank xs) (is_blank x) (words_of-first xs)

-- a line is cut behind its first word
pub words_of-cut : (line front back : List ℕ) (n : ℕ) → n ≡ position_or_len is_blank line → front ≡ take n line → back ≡ drop n line → words_of line ≡ front ∷ words_behind back
words_of-cut line front back n e f b =
    words_of-first line ∙ ap₂ (λ x y. x ∷ words_behind y) (sym (f ∙ ap (λ k. take k line) e)) (sym (b ∙ ap (λ k. drop k line) e))

-- where something stands behind a word, a word does
pub words_behind-empty : (rest : List ℕ) → words_behind rest ≡ [] → length rest ≡ 0
words_behind-empty [] e = refl
words_behind-empty (x ∷ line) e = absurd (omega (arith, length-slice_split is_blank line, ap length e))

count-step : (n l : ℕ) (t : Bool) → n ≤ l → cond t 1 0 + n ≤ suc l
count-step n l true h = omega arith
count-step n l false h = omega arith

count_by-within : (xs : List ℕ) → count_by is_blank xs ≤ length xs
count_by-within [] = omega arith
count_by-within (x ∷ xs) = omega (arith, sum_by-cons (λ y. cond (is_blank y) 1 0) x xs, count-step (count_by is_blank xs) (length xs) (is_blank x) (count_by-within xs))

-- there are no more words than bytes
pub length-words_behind : (rest : List ℕ) → length (words_behind rest) ≤ length rest
length-words_behind [] = omega arith
length-words_behind (x ∷ line) = omega (arith, length-slice_split is_blank line, count_by-within line)

pub FirstIs-within : (kind : List ℕ → Type 0) (words : List (List ℕ)) → FirstIs kind words → 0 < length words
FirstIs-within kind [] h = absurd h
FirstIs-within kind (word ∷ words) h = omega arith

pub Taken-more : (m n : ℕ) (a b c : List (List ℕ)) → Taken m a b → Taken n b c → Taken (m + n) a c
Taken-more m n a b c t u = (omega (arith, t.0, u.0, ap length t.1, length-drop m a), u.1 ∙ ap (drop n) t.1 ∙ drop-drop n m a)

-- a word that reads is taken
pub Taken-one : (kind : List ℕ → Type 0) (a b : List (List ℕ)) → FirstIs kind a → b ≡ drop 1 a → Taken 1 a b
Taken-one kind a b h e = (FirstIs-within kind a h, e)
