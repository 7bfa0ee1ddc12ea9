-- A part of a list, read one by one. Assumes nothing.
use mathlib.Core.Path.{◌≡◌, refl, sym, ap, ◌∙◌}
use mathlib.Core.List.{List, [], ◌∷◌}
use Prim.Native.Nat.{ℕ, zero, suc, ◌+◌, ◌≤◌, ◌<◌}
use native.Mathlib.Nat.{zero-add, suc-add}
use native.Mathlib.Omega.{arith}
use lib.ListN.{length, take, drop, get_or, length-drop}
use lib.Seq.{take-suc, take-nil, get_or-take, get_or-drop, drop-drop}
use Rattle.lists.specs.Lists.{tab}
use Rattle.lists.proofs.Tab.{tab-ext}
use Rattle.image.specs.Image.{part}

module _ {A : Type 0} where
  -- read one by one
  pub tab-part : (l : List A) (a : ℕ) (d : A) (n : ℕ) → a + n ≤ length l → tab (λ j. get_or l (a + j) d) n ≡ part a n l
  tab-part l a d zero h = refl
  tab-part l a d (suc n) h =
      rw (tab-part l a d n (omega arith), take-suc (drop a l) n d (omega (arith, length-drop a l)), get_or-drop a l n d)

  drop-take : (m n : ℕ) (l : List A) → drop m (take (m + n) l) ≡ part m n l
  drop-take zero n l = rw zero-add
  drop-take (suc m) n [] = rw suc-add (sym (take-nil n))
  drop-take (suc m) n (x ∷ l) = rw suc-add (drop-take m n l)

  pub part-rest : (l : List A) (a m n : ℕ) → drop m (part a (m + n) l) ≡ part (a + m) n l
  part-rest l a m n = drop-take m n (drop a l) ∙ ap (take n) (drop-drop m a l)

-- what stands at o in the part of l from a on is what stands at b in l
module _ {A : Type 0} (l : List A) (a n : ℕ) (d : A) where
  pub get_d_part : (o b : ℕ) → b ≡ a + o → o < n → get_or l b d ≡ get_or (part a n l) o d
  get_d_part o b e h = rw e (sym (get_or-take n (drop a l) o d h ∙ get_or-drop a l o d))

  pub tab-of-part : (o b m : ℕ) → b ≡ a + o → o + m ≤ n → tab (λ j. get_or l (b + j) d) m ≡ tab (λ j. get_or (part a n l) (o + j) d) m
  tab-of-part o b m e h = tab-ext (λ j. get_or l (b + j) d) (λ j. get_or (part a n l) (o + j) d) m (λ j k. get_d_part (o + j) (b + j) (omega arith) (omega (arith, k)))
