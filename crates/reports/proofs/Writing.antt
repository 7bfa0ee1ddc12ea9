-- Reports written one behind another: one more report, and one more turn of the loop. Assumes nothing.
use mathlib.Core.Path.{◌≡◌, refl, sym, ap, ap₂, ◌∙◌}
use mathlib.Core.Bool.{Bool, true, false}
use mathlib.Core.List.{List, [], ◌∷◌, ◌++◌, append_assoc}
use Prim.Native.Nat.{ℕ, suc, ◌+◌, ◌-◌, ◌*◌, ◌≤◌, ◌<◌}
use native.Mathlib.Nat.{zero-add, suc-add}
use native.Mathlib.Numerals.{add-one}
use native.Mathlib.Omega.{arith}
use borrow.Author.Tests.{ltb-true}
use lib.Ieee.{Float}
use lib.ListN.{length, get_or, set, drop, length-append, length-drop, length-take, drop_of_length-le}
use lib.Seq.{drop-cons, drop-drop, set_at, get_or-take}
use Rattle.lists.specs.Lists.{pick}
use Rattle.object.specs.declared.Rect.{Rect}
use Rattle.frame.specs.declared.Settings.{Settings}
use Rattle.frame.specs.declared.Tracked.{Tracked}
use Rattle.frame.specs.Frame.{Report, box_cells, id_cells, report_of, is_reported, snoc_if, reports_of}
use Rattle.tracks.specs.declared.Tracks.{Tracks}
use Rattle.tracks.specs.Tracks.{tracks_in}
use Rattle.reports.specs.Written.{low_id, rect_at, Written}

pub id-fits : (e : Tracked) → low_id e ≡ true → e.id < 64000000
unfolding low_id
id-fits e h = ltb-true _ _ h

-- ---- one report

-- its rectangle and id are told
pub report-is : (e : Tracked) (r : Rect) (n : ℕ) (cells : List Float) (ids : List ℕ) → r ≡ (report_of e).rect → (rect_at n r cells ≡ rect_at n (report_of e).rect cells) × (set ids n (e.id + 1) ≡ set ids n (report_of e).id)
unfolding report_of
report-is e r n cells ids h = (ap (λ (x : Rect). rect_at n x cells) h, ap (λ (k : ℕ). set ids n k) (add-one e.id))

-- ---- lengths

pub length-boxes : (rs : List Report) → length (box_cells rs) ≡ 4 * length rs
length-boxes [] = refl
length-boxes (r ∷ rs) = omega (arith, length-boxes rs)

pub length_ids : (rs : List Report) → length (id_cells rs) ≡ length rs
length_ids [] = refl
length_ids (r ∷ rs) = ap suc (length_ids rs)

boxes-append : (rs ss : List Report) → box_cells (rs ++ ss) ≡ box_cells rs ++ box_cells ss
boxes-append [] ss = refl
boxes-append (r ∷ rs) ss = ap (λ l. r.rect.x ∷ r.rect.y ∷ r.rect.width ∷ r.rect.height ∷ l) (boxes-append rs ss)

ids-append : (rs ss : List Report) → id_cells (rs ++ ss) ≡ id_cells rs ++ id_cells ss
ids-append [] ss = refl
ids-append (r ∷ rs) ss = ap (λ l. r.id ∷ l) (ids-append rs ss)

-- ---- one more report

set-behind : {A : Type 0} (xs ys : List A) (i : ℕ) (a : A) → set (xs ++ ys) (length xs + i) a ≡ xs ++ set ys i a
set-behind [] ys i a = ap (λ (k : ℕ). set ys k a) (zero-add i)
set-behind (x ∷ xs) ys i a = rw (suc-add (length xs) i) (ap (λ l. x ∷ l) (set-behind xs ys i a))

-- four cells behind a list
four-behind : (xs ys : List Float) (n : ℕ) (a b c d : Float) → length xs ≡ n → set (set (set (set (xs ++ ys) n a) (n + 1) b) (n + 2) c) (n + 3) d ≡ xs ++ set (set (set (set ys 0 a) 1 b) 2 c) 3 d
four-behind xs ys n a b c d h =
    let z : n ≡ length xs + 0 = omega (arith, h) in
    ap (λ (k : ℕ). set (set (set (set (xs ++ ys) k a) (n + 1) b) (n + 2) c) (n + 3) d) z
    ∙ rw (sym h, set-behind xs ys 0 a, set-behind xs (set ys 0 a) 1 b, set-behind xs (set (set ys 0 a) 1 b) 2 c, set-behind xs (set (set (set ys 0 a) 1 b) 2 c) 3 d)

four-first : (ys : List Float) (a b c d : Float) → 4 ≤ length ys → set (set (set (set ys 0 a) 1 b) 2 c) 3 d ≡ a ∷ b ∷ c ∷ d ∷ drop 4 ys
four-first [] a b c d h = absurd (omega (arith, h))
four-first (y ∷ []) a b c d h = absurd (omega (arith, h))
four-first (y ∷ z ∷ []) a b c d h = absurd (omega (arith, h))
four-first (y ∷ z ∷ w ∷ []) a b c d h = absurd (omega (arith, h))
four-first (y ∷ z ∷ w ∷ v ∷ ys) a b c d h = refl

box-more : (rs : List Report) (r : Report) (cells : List Float) → 4 * length rs + 4 ≤ length cells
    → rect_at (length rs) r.rect (box_cells rs ++ drop (4 * length rs) cells) ≡ box_cells (rs ++ r ∷ []) ++ drop (4 * length (rs ++ r ∷ [])) cells
unfolding rect_at
box-more rs r cells h =
    four-behind (box_cells rs) (drop (4 * length rs) cells) (4 * length rs) r.rect.x r.rect.y r.rect.width r.rect.height (length-boxes rs)
    ∙ ap (λ l. box_cells rs ++ l) (four-first (drop (4 * length rs) cells) r.rect.x r.rect.y r.rect.width r.rect.height (omega (arith, length-drop (4 * length rs) cells, h)))
    ∙ sym (append_assoc (box_cells rs) (box_cells (r ∷ [])) (drop 4 (drop (4 * length rs) cells)))
    ∙ ap₂ ◌++◌ (sym (boxes-append rs (r ∷ []))) (drop-drop 4 (4 * length rs) cells ∙ ap (λ (k : ℕ). drop k cells) e)
  where
    e : 4 * length rs + 4 ≡ 4 * length (rs ++ r ∷ [])
    e = omega (arith, length-append rs (r ∷ []))

id-more : (rs : List Report) (r : Report) (cells : List ℕ) → length rs < length cells
    → set (id_cells rs ++ drop (length rs) cells) (length rs) r.id ≡ id_cells (rs ++ r ∷ []) ++ drop (length (rs ++ r ∷ [])) cells
id-more rs r cells h =
    rw (length-append rs (r ∷ []), add-one (length rs), ids-append rs (r ∷ []), drop-cons cells (length rs) 0 h, append_assoc)
    (set_at (id_cells rs) (get_or cells (length rs) 0) (drop (suc (length rs)) cells) r.id (length rs) (length_ids rs))

-- ---- one more turn

module _ (boxes : List Float) (ids : List ℕ) where
  pub nothing_written : Written [] 0 boxes ids boxes ids
  nothing_written = record { count = refl; boxes-after = refl; ids-after = refl }

  pub boxes-long : (rs : List Report) (n : ℕ) (b : List Float) (k : List ℕ) → Written rs n boxes ids b k → 4 * n ≤ length boxes → length b ≡ length boxes
  boxes-long rs n b k w h = ap length w.boxes-after ∙ omega (arith, w.count, length-append (box_cells rs) (drop (4 * length rs) boxes), length-boxes rs, length-drop (4 * length rs) boxes, h)

  pub ids-long : (rs : List Report) (n : ℕ) (b : List Float) (k : List ℕ) → Written rs n boxes ids b k → n ≤ length ids → length k ≡ length ids
  ids-long rs n b k w h = ap length w.ids-after ∙ omega (arith, w.count, length-append (id_cells rs) (drop (length rs) ids), length_ids rs, length-drop (length rs) ids, h)

  written-if : (q : Bool) (rs : List Report) (r : Report) → 4 * length rs + 4 ≤ length boxes → length rs < length ids
      → Written (snoc_if q rs r) (pick q (length rs + 1) (length rs)) boxes ids (pick q (rect_at (length rs) r.rect (box_cells rs ++ drop (4 * length rs) boxes)) (box_cells rs ++ drop (4 * length rs) boxes)) (pick q (set (id_cells rs ++ drop (length rs) ids) (length rs) r.id) (id_cells rs ++ drop (length rs) ids))
  written-if true rs r h m = record { count = sym (length-append rs (r ∷ [])); boxes-after = box-more rs r boxes h; ids-after = id-more rs r ids m }
  written-if false rs r h m = record { count = refl; boxes-after = refl; ids-after = refl }

  written-turn : (q : Bool) (rs : List Report) (r : Report) (n n' : ℕ) (b b' : List Float) (k k' : List ℕ) → Written rs n boxes ids b k → 4 * n + 4 ≤ length boxes → n < length ids
      → n' ≡ pick q (n + 1) n → b' ≡ pick q (rect_at n r.rect b) b → k' ≡ pick q (set k n r.id) k → Written (snoc_if q rs r) n' boxes ids b' k'
  written-turn q rs r n n' b b' k k' w h m e f g =
      rw (e, f, g, w.boxes-after, w.ids-after, w.count) (written-if q rs r (omega (arith, w.count, h)) (omega (arith, w.count, m)))

-- ---- the loop from the last track to the first

snoc-short : (q : Bool) (rs : List Report) (r : Report) → length (snoc_if q rs r) ≤ length rs + 1
snoc-short true rs r = omega (arith, length-append rs (r ∷ []))
snoc-short false rs r = omega arith

reports-short : (s : Settings) (frames : ℕ) (es : List Tracked) → length (reports_of s frames es) ≤ length es
reports-short s frames [] = omega arith
reports-short s frames (e ∷ es) = omega (arith, reports-short s frames es, snoc-short (is_reported s frames e.track) (reports_of s frames es) (report_of e))

module _ (s : Settings) (frames : ℕ) (t : Tracks) (boxes : List Float) (ids : List ℕ) where
  -- the reports of the tracks from i on
  abbrev told : ℕ → List Report
  told i = reports_of s frames (drop i (tracks_in t))

  pub none_told : told t.count ≡ []
  none_told = ap (reports_of s frames) (drop_of_length-le (tracks_in t) {i = t.count} (omega (arith, length-take t.count t.table)))

  pub few-told : (i n : ℕ) (b : List Float) (k : List ℕ) → Written (told i) n boxes ids b k → i ≤ t.count → n + i ≤ t.count
  few-told i n b k w h = omega (arith, w.count, reports-short s frames (drop i (tracks_in t)), length-drop i (tracks_in t), length-take t.count t.table)

  told-next : (i : ℕ) (d : Tracked) → 0 < i → i ≤ t.count → t.count ≤ length t.table
      → told (i - 1) ≡ snoc_if (is_reported s frames (get_or t.table (i - 1) d).track) (told i) (report_of (get_or t.table (i - 1) d))
  told-next i d z h m =
      let e : suc (i - 1) ≡ i = omega arith in
      ap (reports_of s frames) (drop-cons (tracks_in t) (i - 1) d (omega (arith, length-take t.count t.table)))
      ∙ ap₂ (λ (e : Tracked) (k : ℕ). reports_of s frames (e ∷ drop k (tracks_in t))) (get_or-take t.count t.table (i - 1) d (omega arith)) e

  pub turn : (i : ℕ) (d : Tracked) (q : Bool) (n n' : ℕ) (b b' : List Float) (k k' : List ℕ) → 0 < i → i ≤ t.count → t.count ≤ 64 → length t.table ≡ 64 → 256 ≤ length boxes → 64 ≤ length ids
      → Written (told i) n boxes ids b k → q ≡ is_reported s frames (get_or t.table (i - 1) d).track → n' ≡ pick q (n + 1) n → b' ≡ pick q (rect_at n (report_of (get_or t.table (i - 1) d)).rect b) b
      → k' ≡ pick q (set k n (report_of (get_or t.table (i - 1) d)).id) k → Written (told (i - 1)) n' boxes ids b' k'
  turn i d q n n' b b' k k' z h c l x y w p e f g =
      rw (told-next i d z h (omega arith), ← p)
      (written-turn boxes ids q (told i) (report_of (get_or t.table (i - 1) d)) n n' b b' k k' w (omega (arith, few-told i n b k w h)) (omega (arith, few-told i n b k w h)) e f g)
