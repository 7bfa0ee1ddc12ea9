-- The live tracks written back from the last to the first, and the image that is there once the lists are closed. Assumes nothing.
use mathlib.Core.Path.{◌≡◌, refl, sym, ap, ap₂, ◌∙◌}
use mathlib.Core.Bool.{true}
use mathlib.Core.List.{List, [], ◌∷◌, ◌++◌, map}
use Prim.Native.Nat.{ℕ, suc, ◌+◌, ◌-◌, ◌*◌, ◌≤◌, ◌<◌}
use native.Mathlib.Nat.{add-zero, add-suc, suc-add}
use native.Mathlib.Omega.{arith}
use lib.ListN.{length, set, replicate}
use lib.Seq.{sets, set_comm, length-sets}
use Rattle.lists.specs.Lists.{flat, All}
use Rattle.frame.specs.declared.Tracked.{Tracked}
use Rattle.frame.specs.State.{blank, state_of}
use Rattle.image.specs.declared.TrackerImage.{TrackerImage}
use Rattle.image.specs.Image.{tagged, id_of, floats_of, words_of, image_of, byte_in, freeze_tracker, Put}
use Rattle.to_image.proofs.Filling.{Full, filled_to, filled-clear, encoded}
use Rattle.frame_in_lists.specs.InPlace.{settings_in, with_totals, Closed}

-- ---- runs of stores, the later part first

module _ {A : Type 0} where
  set-sets : (l : List A) (i k : ℕ) (a : A) (ys : List A) → i < k → set (sets l k ys) i a ≡ sets (set l i a) k ys
  set-sets l i k a [] h = refl
  set-sets l i k a (y ∷ ys) h =
      set-sets (set l k y) i (suc k) a ys (omega (arith, h))
      ∙ ap (λ (m : List A). sets m (suc k) ys) (set_comm l k i y a (λ e. omega (arith, e, h)))

  sets-before : (l : List A) (k : ℕ) (xs ys : List A) → sets (sets l (k + length xs) ys) k xs ≡ sets l k (xs ++ ys)
  sets-before l k [] ys = ap (λ (n : ℕ). sets l n ys) (add-zero k)
  sets-before l k (x ∷ xs) ys =
      ap (λ (m : List A). sets m (suc k) xs) (set-sets l k (k + suc (length xs)) x ys (omega arith))
      ∙ ap (λ (n : ℕ). sets (sets (set l k x) n ys) (suc k) xs) (add-suc k (length xs) ∙ sym (suc-add k (length xs)))
      ∙ sets-before (set l k x) (suc k) xs ys

  -- the same, where what the first left and its place are known by equations
  sets-earlier : (l m r : List A) (k n : ℕ) (xs ys : List A) → m ≡ sets l n ys → n ≡ k + length xs → r ≡ sets m k xs → r ≡ sets l k (xs ++ ys)
  sets-earlier l m r k n xs ys e f g = g ∙ ap (λ (a : List A). sets a k xs) (e ∙ ap (λ (b : ℕ). sets l b ys) f) ∙ sets-before l k xs ys

-- ---- tracks written from cell k on

abbrev pub stored_from : TrackerImage → ℕ → List Tracked → TrackerImage
stored_from i k es = image_of (sets i.wide (2 + k) (map id_of es)) (sets i.floats (3 + 163 * k) (flat floats_of es)) (sets i.words (5 + 15 * k) (flat words_of es))

-- one track more, in front of these
pub stored-turn : (i i₁ i₂ : TrackerImage) (es : List Tracked) (e : Tracked) (k m : ℕ) → m ≡ k + 1 → i₁ ≡ stored_from i m es → Put k e i₁ i₂ → i₂ ≡ stored_from i k (e ∷ es)
stored-turn i i₁ i₂ es e k m n h p =
    let w = sets-earlier i.wide i₁.wide i₂.wide (2 + k) (2 + m) (id_of e ∷ []) (map id_of es) (ap (λ (x : TrackerImage). x.wide) h) (omega (arith, n)) p.wide in
    let f = sets-earlier i.floats i₁.floats i₂.floats (3 + 163 * k) (3 + 163 * m) (floats_of e) (flat floats_of es) (ap (λ (x : TrackerImage). x.floats) h) (omega (arith, n, p.full.0)) p.floats in
    let s = sets-earlier i.words i₁.words i₂.words (5 + 15 * k) (5 + 15 * m) (words_of e) (flat words_of es) (ap (λ (x : TrackerImage). x.words) h) (omega (arith, n, p.full.1)) p.words in
    (λ j. image_of (w j) (f j) (s j))

-- all of them, zeros past them and the new totals: the image of the state of these tracks
pub stored-done : (i i₁ i₂ : TrackerImage) (es : List Tracked) (issued live frames : ℕ) → i₁ ≡ stored_from i 0 es → All Full es → live ≡ length es → live ≤ 64 → tagged (byte_in i) ≡ true → Closed issued live frames i₁ i₂
    → i₂ ≡ freeze_tracker (state_of (settings_in i) frames issued es)
stored-done i i₁ i₂ es issued live frames h f n b t c =
    let x : c.zeroed ≡ filled_to i (es ++ replicate (64 - live) blank) = filled-clear i i₁ c.zeroed es live h f (sym n) b c.cleared in
    let y : c.zeroed ≡ filled_to i (es ++ replicate (64 - length es) blank) = x ∙ ap (λ (k : ℕ). filled_to i (es ++ replicate (64 - k) blank)) n in
    let lw : length i.wide ≡ 66 = sym (length-sets i.wide 2 (map id_of es)) ∙ sym (ap (λ (z : TrackerImage). length z.wide) h) ∙ c.whole.wide in
    let lf : length i.floats ≡ 10435 = sym (length-sets i.floats 3 (flat floats_of es)) ∙ sym (ap (λ (z : TrackerImage). length z.floats) h) ∙ c.whole.floats in
    let ln : length i.words ≡ 965 = sym (length-sets i.words 5 (flat words_of es)) ∙ sym (ap (λ (z : TrackerImage). length z.words) h) ∙ c.whole.words in
    c.totals
    ∙ ap₂ (λ (z : TrackerImage) (k : ℕ). with_totals issued k frames z) y n
    ∙ encoded i es issued frames lw lf ln (omega (arith, n, b)) f t
