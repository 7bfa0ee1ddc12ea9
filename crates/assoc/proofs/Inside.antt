-- Two matrices that agree in nd rows of nt are as good as each other: for the shortcut, the test of the later rounds, the marks and the costs.
-- So a matrix may be read from its cells.
-- Assumes nothing.
use mathlib.Core.Path.{◌≡◌, refl, ap, ap₂, ◌∙◌}
use mathlib.Core.Bool.{Bool, true, false, not, ◌&&◌}
use mathlib.Core.List.{List, ◌++◌}
use Prim.Native.Nat.{ℕ, zero, suc, ◌+◌, ◌*◌, ◌/◌, ◌%◌, ◌<◌}
use native.Mathlib.Nat.{lt-suc_self}
use native.Mathlib.Omega.{arith}
use lib.Dec.{ltb}
use lib.IntN.{ℤ, pos, negsuc}
use lib.Ieee.{Float, binary32, binary64, nan, add, lt, neg, of_bits}
use lib.ListN.{get_or-append}
use borrow.Author.Tests.{ltb-true}
use Rattle.lists.specs.Lists.{pick, tab}
use Rattle.lists.proofs.Tab.{length-tab, get_or-tab, tab-ext}
use Rattle.lapjv_walk.specs.Marks.{free, is_free, index, mark_at}
use Rattle.object.specs.declared.Corners.{Corners}
use Rattle.object.specs.declared.Detection.{Detection}
use Rattle.pair.specs.Angle.{Step}
use Rattle.matching.specs.Associate.{overlaps, angle_term, combined}
use Rattle.matching.specs.Paired.{Paired}
use Rattle.matching.specs.Matching.{Matrix, above_of, count_of, fullest, shortcut, passing, larger, costs_of, some_above, assigned, kept_where}
use Rattle.matching.specs.Cells.{overlap_cells, entry_at}
use Rattle.matching.proofs.Counting.{count_same, fullest-same}
use Rattle.matching.proofs.Loops.{cell-inside}
use Rattle.matching.proofs.Rows.{row_of, column-of}

abbrev pub Same : ℕ → ℕ → Matrix → Matrix → Type 0
Same nd nt m m' = (i j : ℕ) → i < nd → j < nt → m i j ≡ m' i j

-- ---- a matrix read back from its cells

pub entry-cells : (nd nt : ℕ) (m : Matrix) (rest : List Float) → Same nd nt (entry_at nt (overlap_cells nd nt m ++ rest)) m
unfolding overlap_cells
entry-cells nd nt m rest i j h g =
    let f : ℕ → Float = λ q. m (q / nt) (q % nt) in
    let l : i * nt + j < nd * nt = cell-inside nd nt i j h g in
    get_or-append (tab f (nd * nt)) rest nan (i * nt + j) (omega (arith, length-tab f (nd * nt)))
    ∙ get_or-tab f (nd * nt) nan (i * nt + j) l
    ∙ ap₂ m (row_of nt i j g) (column-of nt i j g)

-- overlap plus angle term, from overlaps read back
pub combined-cells : (inertia : Float) (nd nt : ℕ) (det : ℕ → Detection) (box : ℕ → Corners) (direction : ℕ → Step) (previous : ℕ → Detection) (rest : List Float)
    → Same nd nt (λ i j. add binary32 (entry_at nt (overlap_cells nd nt (overlaps det box) ++ rest) i j) (angle_term inertia (det i) (direction j) (previous j))) (combined inertia det box direction previous)
unfolding combined
combined-cells inertia nd nt det box direction previous rest i j h g = ap (λ (o : Float). add binary32 o (angle_term inertia (det i) (direction j) (previous j))) (entry-cells nd nt (overlaps det box) rest i j h g)

-- ---- the last that passes

last-same : (p q : ℕ → Bool) (n : ℕ) → ((j : ℕ) → j < n → p j ≡ q j) → passing p n ≡ passing q n
last-same p q zero h = refl
last-same p q (suc n) h = ap₂ (λ (b : Bool) (z : ℤ). pick b (pos n) z) (h n (lt-suc_self n)) (last-same p q n (λ j l. h j (omega (arith, l))))

module _ (nd nt : ℕ) (m m' : Matrix) (s : Same nd nt m m') where
  above_same : (thr : Float) (i j : ℕ) → i < nd → j < nt → above_of thr m i j ≡ above_of thr m' i j
  unfolding above_of
  above_same thr i j h g = ap (lt thr) (s i j h g)

  rows_same : (thr : Float) → fullest (λ i. count_of (λ j. above_of thr m i j) nt) nd ≡ fullest (λ i. count_of (λ j. above_of thr m' i j) nt) nd
  rows_same thr = fullest-same (λ i. count_of (λ j. above_of thr m i j) nt) (λ i. count_of (λ j. above_of thr m' i j) nt) nd (λ i h. count_same (λ j. above_of thr m i j) (λ j. above_of thr m' i j) nt (λ j g. above_same thr i j h g))

  columns-same : (thr : Float) → fullest (λ j. count_of (λ i. above_of thr m i j) nd) nt ≡ fullest (λ j. count_of (λ i. above_of thr m' i j) nd) nt
  columns-same thr = fullest-same (λ j. count_of (λ i. above_of thr m i j) nd) (λ j. count_of (λ i. above_of thr m' i j) nd) nt (λ j g. count_same (λ i. above_of thr m i j) (λ i. above_of thr m' i j) nd (λ i h. above_same thr i j h g))

  pub shortcut-same : (thr : Float) → shortcut nd nt (above_of thr m) ≡ shortcut nd nt (above_of thr m')
  unfolding shortcut
  shortcut-same thr = rw (rows_same thr, columns-same thr)

  pub some_above-same : (thr : Float) → some_above nd nt thr m ≡ some_above nd nt thr m'
  unfolding some_above
  some_above-same thr = rw (rows_same thr)

  pub passing-same : (thr : Float) → tab (λ i. passing (above_of thr m i) nt) nd ≡ tab (λ i. passing (above_of thr m' i) nt) nd
  passing-same thr = tab-ext (λ i. passing (above_of thr m i) nt) (λ i. passing (above_of thr m' i) nt) nd (λ i h. last-same (above_of thr m i) (above_of thr m' i) nt (λ j g. above_same thr i j h g))

  cost-same : (i j : ℕ) (filled : Float) (a b : Bool) → ltb i nd ≡ a → ltb j nt ≡ b → pick (a && b) (neg (m i j)) filled ≡ pick (a && b) (neg (m' i j)) filled
  cost-same i j filled true true e d = ap neg (s i j (ltb-true i nd e) (ltb-true j nt d))
  cost-same i j filled true false e d = refl
  cost-same i j filled false b e d = refl

  pub costs-same : costs_of nd nt m ≡ costs_of nd nt m'
  unfolding costs_of
  costs-same =
      let n : ℕ = larger nd nt in
      let filled : Float = of_bits binary64 0x40f8_6a00_0000_0000 in
      tab-ext (λ q. pick (ltb (q / n) nd && ltb (q % n) nt) (neg (m (q / n) (q % n))) filled) (λ q. pick (ltb (q / n) nd && ltb (q % n) nt) (neg (m' (q / n) (q % n))) filled) (n * n)
      (λ q h. cost-same (q / n) (q % n) filled (ltb (q / n) nd) (ltb (q % n) nt) refl refl)

  one_kept : (passes : Float → Bool) (marks : List ℤ) → Paired nd nt marks → (i : ℕ) → i < nd → (z : ℤ) → mark_at marks i ≡ z
      → pick (not (is_free z) && passes (m i (index z))) z free ≡ pick (not (is_free z) && passes (m' i (index z))) z free
  one_kept passes marks p i h (pos j) e = ap (λ (o : Float). pick (passes o) (pos j) free) (s i j h (p.below i j h e))
  one_kept passes marks p i h (negsuc k) e = refl

  pub assigned-same : assigned nd nt m ≡ assigned nd nt m'
  unfolding assigned
  assigned-same = rw costs-same

  pub kept_same : (passes : Float → Bool) (marks : List ℤ) → Paired nd nt marks → kept_where nd passes m marks ≡ kept_where nd passes m' marks
  unfolding kept_where
  kept_same passes marks p =
      tab-ext (λ i. pick (not (is_free (mark_at marks i)) && passes (m i (index (mark_at marks i)))) (mark_at marks i) free) (λ i. pick (not (is_free (mark_at marks i)) && passes (m' i (index (mark_at marks i)))) (mark_at marks i) free) nd
      (λ i h. one_kept passes marks p i h (mark_at marks i) refl)
