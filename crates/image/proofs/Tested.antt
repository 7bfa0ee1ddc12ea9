-- A list tested one by one: a track's tags, and the tracks of an image. Assumes nothing.
use mathlib.Core.Path.{◌≡◌, refl, sym, ap, ap₂, ◌∙◌}
use mathlib.Core.Bool.{Bool, true, false, ◌&&◌}
use mathlib.Core.List.{List, [], ◌∷◌, ◌++◌}
use mathlib.Core.Logic.{◌⊎◌, inl, inr}
use Prim.Native.Nat.{ℕ, zero, suc, ◌+◌, ◌-◌, ◌*◌, ◌≤◌, ◌<◌}
use native.Mathlib.Nat.{eq-or-lt_of_le}
use native.Mathlib.Numerals.{add-one}
use native.Mathlib.Omega.{arith}
use lib.Ieee.{Float}
use lib.ListN.{take, drop, get_or}
use lib.Seq.{take_all, take_at, get_or-drop}
use Rattle.lists.specs.Lists.{every, tab}
use Rattle.lists.proofs.Tab.{length-tab, tab-append}
use Rattle.image.specs.declared.TrackerImage.{TrackerImage}
use Rattle.image.specs.Image.{tagged, part, Cell, meant_track, image_of, cell_at, cells, count_in, meant}
use Rattle.image.proofs.Parts.{part-rest, get_d_part}

-- ---- a list tested one by one

pub and-true : (b : Bool) → (b && true) ≡ b
and-true true = refl
and-true false = refl

and_assoc : (a b c : Bool) → ((a && b) && c) ≡ (a && (b && c))
and_assoc true b c = refl
and_assoc false b c = refl

module _ {A : Type 0} (p : A → Bool) where
  every_append : (xs : List A) (x : A) → every p (xs ++ (x ∷ [])) ≡ (every p xs && p x)
  every_append [] x = and-true (p x)
  every_append (y ∷ xs) x = rw (every_append xs x) (sym (and_assoc (p y) (every p xs) (p x)))

  -- one more turn of a loop that tests f 0, f 1, .., after a first test
  pub every-turn : (first : Bool) (f : ℕ → A) (ok r : Bool) (k : ℕ) → ok ≡ (first && every p (tab f k)) → r ≡ p (f k) → (ok && r) ≡ (first && every p (tab f (k + 1)))
  every-turn first f ok r k e q =
      rw (e, q, add-one k) (and_assoc first (every p (tab f k)) (p (f k)) ∙ ap (λ (b : Bool). first && b) (sym (every_append (tab f k) (f k))))

  -- past the end of l stands d, which passes
  module _ (d : A) (pass : p d ≡ true) where
    one_more : (n : ℕ) (l : List A) → (every p (take n l) && p (get_or l n d)) ≡ every p (take (suc n) l)
    one_more zero [] = pass
    one_more zero (x ∷ l) = sym (and-true (p x))
    one_more (suc n) [] = pass
    one_more (suc n) (x ∷ l) = and_assoc (p x) (every p (take n l)) (p (get_or l n d)) ∙ ap (λ (b : Bool). p x && b) (one_more n l)

    every-part : (l : List A) (a n : ℕ) → every p (tab (λ j. get_or l (a + j) d) n) ≡ every p (part a n l)
    every-part l a zero = refl
    every-part l a (suc n) =
        every_append (tab (λ j. get_or l (a + j) d) n) (get_or l (a + n) d)
        ∙ rw (every-part l a n, ← get_or-drop a l n d) (one_more n (drop a l))

-- ---- a track's tags

-- after a turn that tests the word j of the track whose words start at w
pub tags-turn : (ws : List ℕ) (w j : ℕ) (ok r : Bool) → 4 ≤ j → ok ≡ (tagged (get_or ws w 0) && every tagged (tab (λ i. get_or ws (w + 4 + i) 0) (j - 4))) → r ≡ tagged (get_or ws (w + j) 0)
    → (ok && r) ≡ (tagged (get_or ws w 0) && every tagged (tab (λ i. get_or ws (w + 4 + i) 0) (j + 1 - 4)))
tags-turn ws w j ok r h e q =
    let a : w + j ≡ w + 4 + (j - 4) = omega arith in
    let b : j + 1 - 4 ≡ j - 4 + 1 = omega arith in
    rw b (every-turn tagged (tagged (get_or ws w 0)) (λ i. get_or ws (w + 4 + i) 0) ok r (j - 4) e (q ∙ ap (λ (i : ℕ). tagged (get_or ws i 0)) a))

pub tags-done : (wide : List ℕ) (fs : List Float) (ws : List ℕ) (k j : ℕ) (ok : Bool) → j ≡ 15 → ok ≡ (tagged (get_or ws (5 + 15 * k) 0) && every tagged (tab (λ i. get_or ws (5 + 15 * k + 4 + i) 0) (j - 4)))
    → ok ≡ meant_track (cell_at (image_of wide fs ws) k)
unfolding meant_track cell_at
tags-done wide fs ws k j ok e p =
    let w : ℕ = 5 + 15 * k in
    let n : j - 4 ≡ 11 = omega arith in
    let first : get_or ws w 0 ≡ get_or (part w 15 ws) 0 0 = get_d_part ws w 15 0 0 w (omega arith) (omega arith) in
    let rest : every tagged (tab (λ i. get_or ws (w + 4 + i) 0) (j - 4)) ≡ every tagged (drop 4 (part w 15 ws)) =
    rw (n, part-rest ws w 4 11) (every-part tagged 0 refl ws (w + 4) 11) in
    p ∙ ap₂ (λ (x : ℕ) (b : Bool). tagged x && b) first rest

-- ---- the tracker

take-tab : {A : Type 0} (f : ℕ → A) (k n : ℕ) → k ≤ n → tab f k ≡ take k (tab f n)
take-tab {A} f k n h =
    let e : k + (n - k) ≡ n = omega arith in
    sym (take_at (tab f k) (tab (λ j. f (k + j)) (n - k)) k (length-tab f k)) ∙ ap (take k) (tab-append f k (n - k) ∙ ap (tab f) e)

-- all 64 cells, or as many as the count says, are tested
pub meant-done : (i : TrackerImage) (k : ℕ) (ok : Bool) → k ≤ 64 → k ≤ count_in i → (k < 64 → count_in i ≤ k) → ok ≡ (tagged (get_or i.words 3 0) && every meant_track (tab (cell_at i) k)) → ok ≡ meant i
unfolding meant
meant-done i k ok h b c p = p ∙ ap (λ (l : List Cell). tagged (get_or i.words 3 0) && every meant_track l) (some (eq-or-lt_of_le h))
  where
    some : (k ≡ 64) ⊎ (k < 64) → tab (cell_at i) k ≡ take (count_in i) (cells i)
    some (inl e) = rw e (sym (take_all (count_in i) (tab (cell_at i) 64) (omega (arith, length-tab (cell_at i) 64))))
    some (inr l) = let e : k ≡ count_in i = omega (arith, c l) in take-tab (cell_at i) k 64 h ∙ ap (λ (m : ℕ). take m (cells i)) e
