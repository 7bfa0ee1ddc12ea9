-- The objects of a frame stand at different places: how many of those that pass a test stand at place p is read off the input. Assumes nothing.
use mathlib.Core.Path.{◌≡◌, refl, sym, ap, ◌∙◌}
use mathlib.Core.Bool.{Bool, true, false, ◌&&◌}
use mathlib.Core.List.{List, [], ◌∷◌}
use mathlib.Core.Logic.{◌⊎◌, inl, inr, ⊎_elim}
use Prim.Native.Nat.{ℕ, zero, suc, ◌+◌, ◌/◌, ◌≤◌, ◌<◌}
use native.Mathlib.Omega.{arith}
use lib.Dec.{ltb, eqb}
use lib.Ieee.{Float}
use lib.ListN.{length}
use borrow.Author.Tests.{lt-ltb, le-ltb, ltb-true, ltb-false, eqb-true, eqb-false, eq-eqb}
use Rattle.lists.specs.Lists.{pick, put, tab, keep, sum_of, All}
use Rattle.lists.proofs.Keep.{keep_append}
use Rattle.lists.proofs.All.{sum-append, all_append}
use Rattle.frame.specs.Objects.{Obj, detection_at, object_at, objects_of}

-- 1 where an object stands at place p
abbrev pub at : ℕ → Obj → ℕ
at p o = pick (eqb o.place p) 1 0

module _ (input : List Float) (t : Obj → Bool) (p : ℕ) where
  -- the test at place p, below n
  abbrev seen : ℕ → ℕ
  seen n = pick (ltb p n && t (object_at input p)) 1 0

  last-place : (n : ℕ) → seen n + sum_of (at p) (put (t (object_at input n)) (object_at input n) []) ≡ seen (suc n)
  last-place n = go (eqb n p) refl
    where
      here : (q : Bool) → pick (false && q) 1 0 + sum_of (at p) (put q (object_at input p) []) ≡ pick (true && q) 1 0
      here true = rw (eq-eqb p p refl)
      here false = refl

      there : (q : Bool) → eqb n p ≡ false → sum_of (at p) (put q (object_at input n) []) ≡ 0
      there true e = rw e
      there false e = refl

      same : eqb n p ≡ false → ltb p n ≡ ltb p (suc n)
      same e = ⊎_elim (λ q. lt-ltb p n q ∙ sym (lt-ltb p (suc n) (omega (arith, q)))) (λ q. le-ltb p n q ∙ sym (le-ltb p (suc n) (let u = eqb-false n p e in omega (arith, q, u)))) (below_or_not p n)
        where
          below_or_not : (a b : ℕ) → (a < b) ⊎ (b ≤ a)
          below_or_not a b = cases (ltb a b) refl
            where
              cases : (q : Bool) → ltb a b ≡ q → (a < b) ⊎ (b ≤ a)
              cases true e = inl (ltb-true a b e)
              cases false e = inr (ltb-false a b e)

      go : (q : Bool) → eqb n p ≡ q → seen n + sum_of (at p) (put (t (object_at input n)) (object_at input n) []) ≡ seen (suc n)
      go true e =
          let d : n ≡ p = eqb-true n p e in
          rw (d, le-ltb p p (omega arith), lt-ltb p (suc p) (omega arith)) (here (t (object_at input p)))
      go false e = rw (there (t (object_at input n)) e, ← same e) (omega arith)

  pub sum-places : (n : ℕ) → sum_of (at p) (keep t (tab (object_at input) n)) ≡ seen n
  sum-places zero = rw (le-ltb p 0 (omega arith))
  sum-places (suc n) =
      ap (sum_of (at p)) (keep_append t (tab (object_at input) n) (object_at input n ∷ []))
      ∙ sum-append (at p) (keep t (tab (object_at input) n)) (put (t (object_at input n)) (object_at input n) [])
      ∙ ap (λ (k : ℕ). k + sum_of (at p) (put (t (object_at input n)) (object_at input n) [])) (sum-places n)
      ∙ last-place n

-- an object of the frame: what its five numbers give, at a place that the frame has
abbrev pub OfInput : List Float → Obj → Type 0
OfInput input o = (o.det ≡ detection_at input o.place) × (o.place < length input / 5)

all-of-input : (input : List Float) (n : ℕ) → n ≤ length input / 5 → All (OfInput input) (tab (object_at input) n)
all-of-input input zero h = tt
all-of-input input (suc n) h = all_append (OfInput input) (tab (object_at input) n) (object_at input n ∷ []) (all-of-input input n (omega arith)) ((refl, h), tt)

pub objects-of-input : (input : List Float) → All (OfInput input) (objects_of input)
unfolding objects_of
objects-of-input input = all-of-input input (length input / 5) (omega arith)
