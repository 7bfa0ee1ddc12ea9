-- Document 01, items 3 and 6: which object goes to which track, from a matrix of numbers, objects by tracks. For each object the answer has a mark:
-- its track's index, or free. Definitions only.
use Rattle.std.specs.Prelude.{Bool, not, ◌&&◌, List, ℕ, zero, suc, ◌+◌, ◌*◌, ◌/◌, ◌%◌, ltb, eqb, ℤ, pos, Float}
use Rattle.std.specs.Float.{binary64}
use Rattle.std.specs.Float.Ieee.{lt, le, neg, of_bits}
use Rattle.lists.specs.Lists.{pick, tab}
use Rattle.lapjv_walk.specs.Marks.{free, is_free, index, mark_at}
use Rattle.lapjv_walk.specs.Ops.{floats}
use Rattle.lapjv_walk.specs.Lapjv.{lapjv}

-- row i, column j
abbrev pub Matrix : Type 0
Matrix = ℕ → ℕ → Float

-- which overlaps are above the threshold
abbrev pub Pattern : Type 0
Pattern = ℕ → ℕ → Bool

unfoldable pub above_of : Float → Matrix → Pattern
unfolding lt
above_of thr m i j = lt thr (m i j)

-- how many of the first n pass
abbrev pub count_of : (ℕ → Bool) → ℕ → ℕ
count_of p zero = 0
count_of p (suc n) = count_of p n + pick (p n) 1 0

-- the largest of the first n numbers
abbrev pub fullest : (ℕ → ℕ) → ℕ → ℕ
fullest f zero = 0
fullest f (suc n) = pick (ltb (fullest f n) (f n)) (f n) (fullest f n)

-- the fullest row and the fullest column both have one overlap above the threshold
unfoldable pub shortcut : ℕ → ℕ → Pattern → Bool
shortcut nd nt p = eqb (fullest (λ i. count_of (λ j. p i j) nt) nd) 1 && eqb (fullest (λ j. count_of (λ i. p i j) nd) nt) 1

-- the last of the first n that passes: of a row with one, that one
abbrev pub passing : (ℕ → Bool) → ℕ → ℤ
passing p zero = free
passing p (suc n) = pick (p n) (pos n) (passing p n)

abbrev pub larger : ℕ → ℕ → ℕ
larger a b = pick (ltb a b) b a

-- the negated numbers, widened to f64 (the same value, so nothing is written for it), filled to a square with 1e5
unfoldable pub costs_of : ℕ → ℕ → Matrix → List Float
unfolding neg of_bits
costs_of nd nt m =
    let n = larger nd nt in
    tab (λ q. pick (ltb (q / n) nd && ltb (q % n) nt) (neg (m (q / n) (q % n))) (of_bits binary64 0x40f8_6a00_0000_0000)) (n * n)

-- a mark that reaches a filled column is dropped
abbrev pub within : ℕ → ℤ → ℤ
within nt m = pick (not (is_free m) && ltb (index m) nt) m free

-- what the assignment gives each object
unfoldable pub assigned : ℕ → ℕ → Matrix → List ℤ
assigned nd nt m = let x = (lapjv floats (larger nd nt) (costs_of nd nt m)).x in tab (λ i. within nt (mark_at x i)) nd

-- each object's mark, where its overlap passes
unfoldable pub kept_where : ℕ → (Float → Bool) → Matrix → List ℤ → List ℤ
kept_where nd passes m marks = tab (λ i. pick (not (is_free (mark_at marks i)) && passes (m i (index (mark_at marks i)))) (mark_at marks i) free) nd

-- match_or_lapjv: the shortcut, or the assignment on the combined numbers; no track, no pair
unfoldable pub match_or_lapjv : ℕ → ℕ → Float → Matrix → Matrix → List ℤ
match_or_lapjv nd zero thr iou cost = tab (λ _. free) nd
match_or_lapjv nd (suc n) thr iou cost =
    pick (shortcut nd (suc n) (above_of thr iou)) (tab (λ i. passing (above_of thr iou i) (suc n)) nd) (assigned nd (suc n) cost)

-- associate: pairs below the threshold are dropped
unfoldable pub matched : ℕ → ℕ → Float → Matrix → Matrix → List ℤ
matched nd nt thr iou cost = kept_where nd (λ o. not (lt o thr)) iou (match_or_lapjv nd nt thr iou cost)

-- simple_iou_match: the assignment on the overlaps; pairs at the threshold or above are kept
unfoldable pub rematched : ℕ → ℕ → Float → Matrix → List ℤ
rematched nd nt thr iou = kept_where nd (λ o. le thr o) iou (assigned nd nt iou)

-- some overlap of the first nd rows and nt columns is above the threshold; no overlap is NaN, so that is: the largest is
unfoldable pub some_above : ℕ → ℕ → Float → Matrix → Bool
unfolding above_of
some_above nd nt thr iou = ltb 0 (fullest (λ i. count_of (λ j. above_of thr iou i j) nt) nd)

-- a later round: both lists nonempty and the largest overlap above the threshold, or nobody is paired
unfoldable pub later_round : ℕ → ℕ → Float → Matrix → List ℤ
later_round nd nt thr iou = pick (some_above nd nt thr iou) (rematched nd nt thr iou) (tab (λ _. free) nd)
