-- A matrix filled row by row, each row in the rest of the list, and a row of overlaps plus angle terms from its passes. Assumes nothing.
use mathlib.Core.Path.{◌≡◌, sym, ap, ap₂, ◌∙◌}
use mathlib.Core.List.{List, [], ◌++◌, append_assoc, append-nil}
use Prim.Native.Nat.{ℕ, ◌+◌, ◌*◌, ◌/◌, ◌%◌, ◌≤◌, ◌<◌}
use native.Mathlib.Nat.{div-eq_of_lt, mod-eq_of_lt, add-zero, mul-add-div_right, mul-add-mod_self_right, suc-mul}
use native.Mathlib.Numerals.{add-one}
use native.Mathlib.Omega.{arith}
use lib.Ieee.{Float, binary32, nan, add, sub}
use lib.ListN.{length, get_or, take, drop, length-drop, drop_of_length-le, get_or-append}
use lib.Seq.{get_or-drop, get_or-take, take_all, take_at, drop_at, drop-drop}
use Rattle.lists.specs.Lists.{tab}
use Rattle.lists.proofs.Tab.{length-tab, get_or-tab, tab-ext, tab-append}
use Rattle.object.specs.declared.Detection.{Detection}
use Rattle.object.specs.Object.{corners_of}
use Rattle.pair.specs.Angle.{unit_of, step_to, angle_of, cosine_of, mask_of, term_of}
use Rattle.matching.specs.Passes.{centre_x, centre_y, Centred}
use Rattle.matching.specs.Associate.{angle_term, det_at, step_at}
use Rattle.matching.specs.Cells.{entry_at}

-- ---- the places of a row

pub row_of : (nt i j : ℕ) → j < nt → (i * nt + j) / nt ≡ i
row_of nt i j h = mul-add-div_right (omega arith) i j ∙ ap (λ (k : ℕ). i + k) (div-eq_of_lt h) ∙ add-zero i

pub column-of : (nt i j : ℕ) → j < nt → (i * nt + j) % nt ≡ j
column-of nt i j h = mul-add-mod_self_right i nt j ∙ mod-eq_of_lt h

-- ---- what a pass has filled

pub filled_at : (f : ℕ → Float) (n : ℕ) (rest l : List Float) → l ≡ tab f n ++ rest → (j : ℕ) → j < n → get_or l j nan ≡ f j
filled_at f n rest l e j h = ap (λ (m : List Float). get_or m j nan) e ∙ get_or-append (tab f n) rest nan j (omega (arith, length-tab f n)) ∙ get_or-tab f n nan j h

-- ---- one more row: what was behind the rows done, filled from its front

module _ {A : Type 0} (f : ℕ → A) (l : List A) where
  row-front : (out ys : List A) (from nt k : ℕ) (g : ℕ → A) → out ≡ tab f from ++ drop from l → length out ≤ from + k → ys ≡ tab g nt ++ drop nt (take k (drop from out)) → ((j : ℕ) → j < nt → g j ≡ f (from + j))
      → take from out ++ (ys ++ drop k (drop from out)) ≡ tab f (from + nt) ++ drop (from + nt) l
  row-front out ys from nt k g p r e h =
      let a : take from out ≡ tab f from = ap (take from) p ∙ take_at (tab f from) (drop from l) from (length-tab f from) in
      let b : drop from out ≡ drop from l = ap (drop from) p ∙ drop_at (tab f from) (drop from l) from (length-tab f from) in
      let s : length (drop from out) ≤ k = omega (arith, length-drop from out, r) in
      let z : drop k (drop from out) ≡ [] = drop_of_length-le (drop from out) s in
      let t : drop nt (take k (drop from out)) ≡ drop (from + nt) l = ap (drop nt) (take_all k (drop from out) s ∙ b) ∙ drop-drop nt from l in
      let y : ys ≡ tab (λ j. f (from + j)) nt ++ drop (from + nt) l = e ∙ ap₂ (λ (u v : List A). u ++ v) (tab-ext g (λ j. f (from + j)) nt h) t in
      ap₂ (λ (u v : List A). u ++ v) a (ap₂ (λ (u v : List A). u ++ v) y z ∙ append-nil (tab (λ j. f (from + j)) nt ++ drop (from + nt) l))
      ∙ sym (append_assoc (tab f from) (tab (λ j. f (from + j)) nt) (drop (from + nt) l))
      ∙ ap (λ (u : List A). u ++ drop (from + nt) l) (tab-append f from nt)

-- the first i rows of a list are by rule
pub rows_more : {A : Type 0} (m : ℕ → ℕ → A) (l out ys : List A) (nt i k : ℕ) (g : ℕ → A) → out ≡ tab (λ q. m (q / nt) (q % nt)) (i * nt) ++ drop (i * nt) l → length out ≤ i * nt + k
    → ys ≡ tab g nt ++ drop nt (take k (drop (i * nt) out)) → ((j : ℕ) → j < nt → g j ≡ m i j) → take (i * nt) out ++ (ys ++ drop k (drop (i * nt) out)) ≡ tab (λ q. m (q / nt) (q % nt)) ((i + 1) * nt) ++ drop ((i + 1) * nt) l
rows_more m l out ys nt i k g p r e d =
    let u : i * nt + nt ≡ (i + 1) * nt = sym (suc-mul i nt) ∙ ap (λ (s : ℕ). s * nt) (sym (add-one i)) in
    rw u at (row-front (λ q. m (q / nt) (q % nt)) l out ys (i * nt) nt k g p r e (λ j b. d j b ∙ sym (ap₂ m (row_of nt i j b) (column-of nt i j b))))

-- ---- overlap plus angle term

step_by : (d p : Detection) (x y u v : Float) → x ≡ centre_x d → y ≡ centre_y d → u ≡ centre_x p → v ≡ centre_y p → unit_of (sub binary32 x u) (sub binary32 y v) ≡ step_to (corners_of d) (corners_of p)
unfolding unit_of step_to
step_by d p x y u v a b e f = rw (a, b, e, f)

pub row-sums : (inertia : Float) (d : Detection) (x y : Float) (xs ys directions previous iou all rest : List Float) (nt : ℕ) → Centred nt (det_at previous) xs ys → x ≡ centre_x d → y ≡ centre_y d
    → all ≡ tab (λ j. cosine_of (step_at directions j) (unit_of (sub binary32 x (get_or xs j nan)) (sub binary32 y (get_or ys j nan)))) nt ++ rest
    → tab (λ j. add binary32 (get_or iou j nan) (term_of (mask_of (det_at previous j).score) (angle_of (get_or all j nan)) inertia d.score)) nt ≡ tab (λ j. add binary32 (get_or iou j nan) (angle_term inertia d (step_at directions j) (det_at previous j))) nt
unfolding angle_term
row-sums inertia d x y xs ys directions previous iou all rest nt c a b e =
    tab-ext (λ j. add binary32 (get_or iou j nan) (term_of (mask_of (det_at previous j).score) (angle_of (get_or all j nan)) inertia d.score)) (λ j. add binary32 (get_or iou j nan) (angle_term inertia d (step_at directions j) (det_at previous j))) nt
    (λ j h.
    let s : unit_of (sub binary32 x (get_or xs j nan)) (sub binary32 y (get_or ys j nan)) ≡ step_to (corners_of d) (corners_of (det_at previous j)) = step_by d (det_at previous j) x y (get_or xs j nan) (get_or ys j nan) a b (c j h).0 (c j h).1 in
    let t : get_or all j nan ≡ cosine_of (step_at directions j) (step_to (corners_of d) (corners_of (det_at previous j))) = filled_at (λ k. cosine_of (step_at directions k) (unit_of (sub binary32 x (get_or xs k nan)) (sub binary32 y (get_or ys k nan)))) nt rest all e j h ∙ ap (cosine_of (step_at directions j)) s in
    ap (λ (o : Float). add binary32 (get_or iou j nan) (term_of (mask_of (det_at previous j).score) (angle_of o) inertia d.score)) t)

-- place j of a row, read in the row's part of the overlaps
pub part_at : (iou : List Float) (nt i j k : ℕ) → j < k → get_or (take k (drop (i * nt) iou)) j nan ≡ entry_at nt iou i j
part_at iou nt i j k h = get_or-take k (drop (i * nt) iou) j nan h ∙ get_or-drop (i * nt) iou j nan

pub centred : (previous : List Float) (nt : ℕ) (xs ys rest more : List Float) → xs ≡ tab (λ j. centre_x (det_at previous j)) nt ++ rest → ys ≡ tab (λ j. centre_y (det_at previous j)) nt ++ more → Centred nt (det_at previous) xs ys
centred previous nt xs ys rest more e f j h = (filled_at (λ k. centre_x (det_at previous k)) nt rest xs e j h, filled_at (λ k. centre_y (det_at previous k)) nt more ys f j h)
