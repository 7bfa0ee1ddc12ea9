-- Laws of `keep`: a compaction, element by element, for every test and every kind of element. Assumes nothing.
use mathlib.Core.Path.{◌≡◌, refl, ap}
use mathlib.Core.Bool.{Bool, true, false}
use mathlib.Core.List.{List, [], ◌∷◌, ◌++◌, append-nil}
use Prim.Native.Nat.{ℕ, ◌+◌, ◌≤◌, ◌<◌}
use native.Mathlib.Numerals.{add-one}
use native.Mathlib.Omega.{arith}
use lib.ListN.{length, take, get_or, set}
use lib.Seq.{take-suc, take-suc-set}
use Rattle.lists.specs.Lists.{put, keep}

module _ {A : Type 0} (p : A → Bool) where
  pub keep_append : (xs ys : List A) → keep p (xs ++ ys) ≡ keep p xs ++ keep p ys
  keep_append [] ys = refl
  keep_append (x ∷ xs) ys = rw (keep_append xs ys) (go (p x))
    where
      go : (b : Bool) → put b x (keep p xs ++ keep p ys) ≡ put b x (keep p xs) ++ keep p ys
      go true = refl
      go false = refl

  put-short : (b : Bool) (x : A) (l : List A) → length (put b x l) ≤ length l + 1
  put-short true x l = omega arith
  put-short false x l = omega arith

  pub keep-short : (l : List A) → length (keep p l) ≤ length l
  keep-short [] = omega arith
  keep-short (x ∷ l) = omega (arith, put-short (p x) x (keep p l), keep-short l)

  more : (l : List A) (i : ℕ) (d : A) (q : Bool) → p (get_or l i d) ≡ q → i < length l → keep p (take (i + 1) l) ≡ keep p (take i l) ++ put q (get_or l i d) []
  more l i d q e h = rw (add-one i, take-suc l i d h, keep_append) (ap (λ (b : Bool). keep p (take i l) ++ put b (get_or l i d) []) e)

  -- one more turn of a loop that keeps in `out` what passed: the element at i passes
  pub keep_taken : (l out : List A) (i k : ℕ) (d : A) → take k out ≡ keep p (take i l) → p (get_or l i d) ≡ true → i < length l → k < length out
      → take (k + 1) (set out k (get_or l i d)) ≡ keep p (take (i + 1) l)
  keep_taken l out i k d h e b m = rw (more l i d true e b, add-one k, take-suc-set out k (get_or l i d) m, h)

  -- or doesn't
  pub keep-passed : (l out : List A) (i k : ℕ) (d : A) → take k out ≡ keep p (take i l) → p (get_or l i d) ≡ false → i < length l → take k out ≡ keep p (take (i + 1) l)
  keep-passed l out i k d h e b = rw (more l i d false e b, append-nil (keep p (take i l))) h
