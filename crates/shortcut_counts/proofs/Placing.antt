-- The law of the walk, by induction on rows: the placements on n + 1 rows are those on n rows with no column more used and, for each free column, those with it used.
-- Assumes nothing.
use mathlib.Core.Path.{◌≡◌, refl, sym, ap, ap₂, ◌∙◌}
use mathlib.Core.Bool.{Bool, true, false, ◌&&◌, and-false, and_assoc}
use Prim.Native.Nat.{ℕ, suc, ◌+◌, ◌*◌, ◌^◌, ◌≤◌, ◌<◌}
use native.Mathlib.Nat.{suc-mul, zero-mul}
use native.Mathlib.Omega.{arith}
use lib.Dec.{leb, eqb}
use lib.Pow.{pow-add}
use borrow.Author.Tests.{lt-leb, eqb-true, eqb-false, eq-eqb}
use Rattle.lists.specs.Lists.{pick}
use Rattle.matching.specs.Matching.{Pattern, count_of, fullest}
use Rattle.matching.proofs.Counting.{count_same, count_none, fullest-same, fullest-most}
use Rattle.shortcut_counts.specs.Counted.{bit_at, has_bit, pattern_of, patterns_where}
use Rattle.shortcut_counts.specs.Placements.{is_placement, placements}
use Rattle.shortcut_counts.proofs.Sums.{sum_below, sums_same, sums-blocks, count-sum, count-front, count-and, fullest-front, fullest-below}
use Rattle.shortcut_counts.proofs.Bits.{bit_high, bit-low, bit-zero, bit-small, bit-add, bit-power, pick-bit}
use Rattle.shortcut_counts.proofs.OneRow.{row_count, row_sum, row_sum-one}

-- ---- a pattern of n + 1 rows: its first row is w, and q has the others

module _ (c q w : ℕ) (h : w < 2 ^ c) where
  abbrev joined : Pattern
  joined = pattern_of c (q * 2 ^ c + w)

  first-row : (j : ℕ) → j < c → joined 0 j ≡ has_bit w j
  first-row j l = ap (λ (z : ℕ). has_bit (q * 2 ^ c + w) z) (zero_row c j) ∙ ap (λ (z : ℕ). eqb z 1) (bit-low q w c j l)
    where
      zero_row : (c j : ℕ) → 0 * c + j ≡ j
      zero_row c j = omega arith

  other_row : (i j : ℕ) → joined (suc i) j ≡ pattern_of c q i j
  other_row i j = ap (λ (z : ℕ). has_bit (q * 2 ^ c + w) z) (next_row c i j) ∙ ap (λ (z : ℕ). eqb z 1) (bit_high q w c (i * c + j) h)
    where
      next_row : (c i j : ℕ) → suc i * c + j ≡ c + (i * c + j)
      next_row c i j = omega arith

  -- the fullest row: the first, and the others
  pub rows-joined : (n k : ℕ) → leb (fullest (λ i. count_of (λ j. joined i j) c) (suc n)) k ≡ (leb (row_count c w) k && leb (fullest (λ i. count_of (λ j. pattern_of c q i j) c) n) k)
  rows-joined n k =
      fullest-front (λ i. count_of (λ j. joined i j) c) n k
      ∙ ap₂ (λ (a b : ℕ). leb a k && leb b k)
      (count_same (λ j. joined 0 j) (has_bit w) c first-row)
      (fullest-same (λ i. count_of (λ j. joined (suc i) j) c) (λ i. count_of (λ j. pattern_of c q i j) c) n (λ i _. count_same (λ j. joined (suc i) j) (λ j. pattern_of c q i j) c (λ j _. other_row i j)))

  -- a column: what it had, the first row's digit, and the others
  column-joined : (n : ℕ) (had : ℕ → ℕ) (j : ℕ) → j < c → had j + count_of (λ i. joined i j) (suc n) ≡ (had j + bit_at w j) + count_of (λ i. pattern_of c q i j) n
  column-joined n had j l =
      let e : count_of (λ i. joined (suc i) j) n ≡ count_of (λ i. pattern_of c q i j) n = count_same (λ i. joined (suc i) j) (λ i. pattern_of c q i j) n (λ i _. other_row i j) in
      let f : pick (joined 0 j) 1 0 ≡ bit_at w j = ap (λ (t : Bool). pick t 1 0) (first-row j l) ∙ pick-bit w j in
      omega (arith, count-front (λ i. joined i j) n, e, f)

  placement-joined : (n : ℕ) (had : ℕ → ℕ) → is_placement (suc n) c had joined ≡ (leb (row_count c w) 1 && is_placement n c (λ j. had j + bit_at w j) (pattern_of c q))
  unfolding is_placement
  placement-joined n had =
      ap₂ ◌&&◌ (rows-joined n 1) (ap (λ (z : ℕ). leb z 1) (fullest-same (λ j. had j + count_of (λ i. joined i j) (suc n)) (λ j. (had j + bit_at w j) + count_of (λ i. pattern_of c q i j) n) c (column-joined n had)))
      ∙ and_assoc (leb (row_count c w) 1) (leb (fullest (λ i. count_of (λ j. pattern_of c q i j) c) n) 1) (leb (fullest (λ j. (had j + bit_at w j) + count_of (λ i. pattern_of c q i j) n) c) 1)

-- ---- all patterns of n + 1 rows

-- a test that asks for at most k in the first row, and for something of the others
pub count-joined : (n c k : ℕ) (test : ℕ → Bool) (rest : ℕ → ℕ → Bool) → ((q w : ℕ) → w < 2 ^ c → test (q * 2 ^ c + w) ≡ (leb (row_count c w) k && rest w q))
    → count_of test (2 ^ (suc n * c)) ≡ row_sum k c (λ w. count_of (rest w) (2 ^ (n * c)))
count-joined n c k test rest h =
    ap (count_of test) (ap (λ (z : ℕ). 2 ^ z) (suc-mul n c) ∙ pow-add 2 (n * c) c)
    ∙ count-sum test (2 ^ (n * c) * 2 ^ c)
    ∙ sums-blocks (λ b. pick (test b) 1 0) (2 ^ (n * c)) (2 ^ c)
    ∙ sums_same (λ w. sum_below (λ q. pick (test (q * 2 ^ c + w)) 1 0) (2 ^ (n * c))) (λ w. pick (leb (row_count c w) k) (count_of (rest w) (2 ^ (n * c))) 0) (2 ^ c)
    (λ w l.
    sym (count-sum (λ q. test (q * 2 ^ c + w)) (2 ^ (n * c)))
    ∙ count_same (λ q. test (q * 2 ^ c + w)) (λ q. leb (row_count c w) k && rest w q) (2 ^ (n * c)) (λ q _. h q w l)
    ∙ count-and (leb (row_count c w) k) (rest w) (2 ^ (n * c)))

-- ---- what the columns had

-- as `placements`, for any numbers that the columns had
abbrev having : ℕ → ℕ → (ℕ → ℕ) → ℕ
having n c had = patterns_where n c (λ p. is_placement n c had p)

placement-same : (n c : ℕ) (u v : ℕ → ℕ) (p : Pattern) → ((j : ℕ) → j < c → u j ≡ v j) → is_placement n c u p ≡ is_placement n c v p
unfolding is_placement
placement-same n c u v p h =
    ap (λ (z : ℕ). leb (fullest (λ i. count_of (λ j. p i j) c) n) 1 && leb z 1) (fullest-same (λ j. u j + count_of (λ i. p i j) n) (λ j. v j + count_of (λ i. p i j) n) c (λ j l. ap (λ (z : ℕ). z + count_of (λ i. p i j) n) (h j l)))

having-same : (n c : ℕ) (u v : ℕ → ℕ) → ((j : ℕ) → j < c → u j ≡ v j) → having n c u ≡ having n c v
having-same n c u v h = count_same (λ b. is_placement n c u (pattern_of c b)) (λ b. is_placement n c v (pattern_of c b)) (2 ^ (n * c)) (λ b _. placement-same n c u v (pattern_of c b) h)

-- where a column had two, there is none
placement-never : (n c : ℕ) (u : ℕ → ℕ) (p : Pattern) (j : ℕ) → j < c → 2 ≤ u j → is_placement n c u p ≡ false
unfolding is_placement
placement-never n c u p j l h =
    ap (λ (t : Bool). leb (fullest (λ i. count_of (λ j. p i j) c) n) 1 && t) (lt-leb (fullest (λ j. u j + count_of (λ i. p i j) n) c) 1 (omega (arith, fullest-most (λ j. u j + count_of (λ i. p i j) n) c j l)))
    ∙ and-false (leb (fullest (λ i. count_of (λ j. p i j) c) n) 1)

having-none : (n c : ℕ) (u : ℕ → ℕ) (j : ℕ) → j < c → 2 ≤ u j → having n c u ≡ 0
having-none n c u j l h = count_none (λ b. is_placement n c u (pattern_of c b)) (2 ^ (n * c)) (λ b _. placement-never n c u (pattern_of c b) j l h)

having-more : (n c : ℕ) (u : ℕ → ℕ) → having (suc n) c u ≡ having n c (λ k. u k + bit_at 0 k) + sum_below (λ j. having n c (λ k. u k + bit_at (2 ^ j) k)) c
having-more n c u =
    count-joined n c 1 (λ b. is_placement (suc n) c u (pattern_of c b)) (λ w q. is_placement n c (λ k. u k + bit_at w k) (pattern_of c q)) (λ q w l. placement-joined c q w l n u)
    ∙ row_sum-one c (λ w. having n c (λ k. u k + bit_at w k))

-- ---- the law

-- no row remains: the empty pattern
pub placements-none : (c m : ℕ) → placements 0 c m ≡ 1
unfolding placements is_placement
placements-none c m =
    ap (λ (z : ℕ). count_of (λ b. is_placement 0 c (bit_at m) (pattern_of c b)) (2 ^ z)) (zero-mul c)
    ∙ ap {B = ℕ} (λ (t : Bool). 0 + pick t 1 0) (fullest-below (λ j. bit_at m j + 0) c 1 (λ j _. omega (arith, bit-small m j)))

pub placements-more : (n c m : ℕ) → placements (suc n) c m ≡ placements n c m + sum_below (λ j. pick (has_bit m j) 0 (placements n c (m + 2 ^ j))) c
unfolding placements
placements-more n c m =
    having-more n c (bit_at m)
    ∙ ap₂ ◌+◌ (having-same n c (λ k. bit_at m k + bit_at 0 k) (bit_at m) (λ k _. none m k))
    (sums_same (λ j. having n c (λ k. bit_at m k + bit_at (2 ^ j) k)) (λ j. pick (has_bit m j) 0 (having n c (bit_at (m + 2 ^ j)))) c (λ j l. go j l (has_bit m j) refl))
  where
    none : (m k : ℕ) → bit_at m k + bit_at 0 k ≡ bit_at m k
    none m k = omega (arith, bit-zero k)

    go : (j : ℕ) → j < c → (t : Bool) → has_bit m j ≡ t → having n c (λ k. bit_at m k + bit_at (2 ^ j) k) ≡ pick t 0 (having n c (bit_at (m + 2 ^ j)))
    go j l true e = having-none n c (λ k. bit_at m k + bit_at (2 ^ j) k) j l (omega (arith, eqb-true (bit_at m j) 1 e, bit-power j j, ap {B = ℕ} (λ (t : Bool). pick t 1 0) (eq-eqb j j refl)))
    go j l false e =
        let z : bit_at m j ≡ 0 = omega (arith, bit-small m j, eqb-false (bit_at m j) 1 e) in
        having-same n c (λ k. bit_at m k + bit_at (2 ^ j) k) (bit_at (m + 2 ^ j)) (λ k _. ap (λ (y : ℕ). bit_at m k + y) (bit-power j k) ∙ sym (bit-add j k m z))
