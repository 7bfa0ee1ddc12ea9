-- A placement takes the shortcut, or is empty, and one pattern is empty: so the walk counts one more than the shortcuts. The figures of the 16 sizes come from the walk, which computes.
-- Assumes nothing.
use mathlib.Core.Path.{◌≡◌, refl, ap, ap₂, ◌∙◌}
use mathlib.Core.Bool.{Bool, true, false, ◌&&◌}
use mathlib.Core.List.{List, [], ◌∷◌}
use Prim.Native.Nat.{ℕ, zero, suc, ◌+◌, ◌*◌, ◌^◌, ◌≤◌, ◌<◌}
use native.Mathlib.Nat.{zero-mul}
use native.Mathlib.Omega.{arith}
use lib.Dec.{leb, eqb}
use borrow.Author.Tests.{lt-leb, ne_eqb, eqb-true}
use Rattle.lists.specs.Lists.{pick, every, All}
use Rattle.lapjv_walk.proofs.Cases.{and_left, and_right}
use Rattle.matching.specs.Matching.{Pattern, count_of, fullest, shortcut}
use Rattle.matching.proofs.Counting.{count_none, count-one, fullest-same, fullest-most}
use Rattle.matching.proofs.Loops.{count_most}
use Rattle.shortcut_counts.specs.Counted.{bit_at, has_bit, pattern_of, patterns_where, shortcuts, assignments, OfSize, figures, HasFigures, AllSizes}
use Rattle.shortcut_counts.specs.Placements.{is_placement, placements}
use Rattle.shortcut_counts.proofs.Sums.{sum_below, sums_same, count_add, count-rest, fullest-zero}
use Rattle.shortcut_counts.proofs.Bits.{bit-zero}
use Rattle.shortcut_counts.proofs.OneRow.{row_sum-none}
use Rattle.shortcut_counts.proofs.Placing.{rows-joined, count-joined, placements-none, placements-more}

-- ---- where no row has one, no column has

none-counted : (p : ℕ → Bool) (n j : ℕ) → count_of p n ≡ 0 → j < n → p j ≡ false
none-counted p n j e l = go (p j) refl
  where
    go : (t : Bool) → p j ≡ t → t ≡ false
    go true f = absurd (omega (arith, e, count-one p n j l f))
    go false f = refl

none-across : (r c : ℕ) (p : Pattern) → fullest (λ i. count_of (λ j. p i j) c) r ≡ 0 → fullest (λ j. count_of (λ i. p i j) r) c ≡ 0
none-across r c p h =
    fullest-zero (λ j. count_of (λ i. p i j) r) c
    (λ j l. count_none (λ i. p i j) r (λ i k. none-counted (λ j. p i j) c j (omega (arith, fullest-most (λ i. count_of (λ j. p i j) c) r i k, h)) l))

-- ---- at most one: one, or none

one-or-none : (x y : ℕ) → (x ≡ 0 → y ≡ 0) → (y ≡ 0 → x ≡ 0) → pick (leb x 1 && leb y 1) 1 0 ≡ pick (eqb x 1 && eqb y 1) 1 0 + pick (leb x 0) 1 0
one-or-none zero zero h g = refl
one-or-none zero (suc y) h g = absurd (no y (h refl))
  where
    no : (y : ℕ) → suc y ≡ 0 → ⊥
    no y e = omega arith
one-or-none (suc x) zero h g = absurd (no x (g refl))
  where
    no : (x : ℕ) → suc x ≡ 0 → ⊥
    no x e = omega arith
one-or-none (suc zero) (suc zero) h g = refl
one-or-none (suc zero) (suc (suc y)) h g = rw (lt-leb (suc (suc y)) 1 (omega arith), ne_eqb (suc (suc y)) 1 (λ e. omega (arith, e)))
one-or-none (suc (suc x)) (suc y) h g = rw (lt-leb (suc (suc x)) 1 (omega arith), ne_eqb (suc (suc x)) 1 (λ e. omega (arith, e)), lt-leb (suc (suc x)) 0 (omega arith))

abbrev is_empty : ℕ → ℕ → Pattern → Bool
is_empty r c p = leb (fullest (λ i. count_of (λ j. p i j) c) r) 0

shortcut-or-empty : (r c : ℕ) (p : Pattern) → pick (is_placement r c (bit_at 0) p) 1 0 ≡ pick (shortcut r c p) 1 0 + pick (is_empty r c p) 1 0
unfolding is_placement shortcut
shortcut-or-empty r c p =
    let x = fullest (λ i. count_of (λ j. p i j) c) r in
    let y = fullest (λ j. count_of (λ i. p i j) r) c in
    let e : fullest (λ j. bit_at 0 j + count_of (λ i. p i j) r) c ≡ y = fullest-same (λ j. bit_at 0 j + count_of (λ i. p i j) r) (λ j. count_of (λ i. p i j) r) c (λ j _. omega (arith, bit-zero j)) in
    ap {B = ℕ} (λ (z : ℕ). pick (leb x 1 && leb z 1) 1 0) e ∙ one-or-none x y (none-across r c p) (none-across c r (λ j i. p i j))

one-empty : (r c : ℕ) → patterns_where r c (λ p. is_empty r c p) ≡ 1
one-empty zero c = ap (λ (z : ℕ). count_of (λ b. is_empty 0 c (pattern_of c b)) (2 ^ z)) (zero-mul c)
one-empty (suc n) c =
    count-joined n c 0 (λ b. is_empty (suc n) c (pattern_of c b)) (λ _ q. is_empty n c (pattern_of c q)) (λ q w l. rows-joined c q w l n 0)
    ∙ row_sum-none c (λ _. patterns_where n c (λ p. is_empty n c p))
    ∙ one-empty n c

-- ---- the two figures

pub placements-shortcuts : (r c : ℕ) → placements r c 0 ≡ shortcuts r c + 1
unfolding placements shortcuts
placements-shortcuts r c =
    count_add (λ b. is_placement r c (bit_at 0) (pattern_of c b)) (λ b. shortcut r c (pattern_of c b)) (λ b. is_empty r c (pattern_of c b)) (2 ^ (r * c)) (λ b _. shortcut-or-empty r c (pattern_of c b))
    ∙ ap (λ (z : ℕ). patterns_where r c (λ p. shortcut r c p) + z) (one-empty r c)

pub figures-add : (r c : ℕ) → shortcuts r c + assignments r c ≡ 2 ^ (r * c)
unfolding shortcuts assignments
figures-add r c = count-rest (λ b. shortcut r c (pattern_of c b)) (2 ^ (r * c))

pub placements-most : (n c m : ℕ) → placements n c m ≤ 2 ^ (n * c)
unfolding placements
placements-most n c m = count_most (λ b. is_placement n c (bit_at m) (pattern_of c b)) (2 ^ (n * c))

-- ---- the 16 sizes

abbrev walk : ℕ → ℕ → ℕ → ℕ
walk zero c m = 1
walk (suc n) c m = walk n c m + sum_below (λ j. pick (has_bit m j) 0 (walk n c (m + 2 ^ j))) c

placements-walk : (n c m : ℕ) → placements n c m ≡ walk n c m
placements-walk zero c m = placements-none c m
placements-walk (suc n) c m =
    placements-more n c m
    ∙ ap₂ ◌+◌ (placements-walk n c m)
    (sums_same (λ j. pick (has_bit m j) 0 (placements n c (m + 2 ^ j))) (λ j. pick (has_bit m j) 0 (walk n c (m + 2 ^ j))) c (λ j _. ap (λ (z : ℕ). pick (has_bit m j) 0 z) (placements-walk n c (m + 2 ^ j))))

-- the walk and the total, as the figures have them
abbrev walk_agrees : OfSize → Bool
walk_agrees z = eqb (walk z.rows z.columns 0) (z.shortcut + 1)

abbrev total_agrees : OfSize → Bool
total_agrees z = eqb (z.shortcut + z.assignment) (2 ^ (z.rows * z.columns))

has-figures : (z : OfSize) → walk_agrees z ≡ true → total_agrees z ≡ true → HasFigures z
has-figures z e f = record { shortcut = s; assignment = omega (arith, figures-add z.rows z.columns, s, eqb-true (z.shortcut + z.assignment) _ f) }
  where
    s : shortcuts z.rows z.columns ≡ z.shortcut
    s = omega (arith, placements-shortcuts z.rows z.columns, placements-walk z.rows z.columns 0, eqb-true (walk z.rows z.columns 0) _ e)

have-figures : (l : List OfSize) → every walk_agrees l ≡ true → every total_agrees l ≡ true → All HasFigures l
have-figures [] e f = tt
have-figures (z ∷ l) e f = (
  has-figures z (and_left (walk_agrees z) (every walk_agrees l) e) (and_left (total_agrees z) (every total_agrees l) f),
  have-figures l (and_right (walk_agrees z) (every walk_agrees l) e) (and_right (total_agrees z) (every total_agrees l) f),
)

pub all-sizes : AllSizes
all-sizes = have-figures figures refl refl
