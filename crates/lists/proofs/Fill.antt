-- A loop that writes f 0, f 1, .. over a list of floats from the front, whatever f is: what it keeps, and what it leaves. Assumes nothing.
use Prim.Native.Nat.{ℕ, ◌+◌, ◌<◌, ◌≤◌}
use native.Mathlib.Omega.{arith}
use mathlib.Core.Path.{◌≡◌, refl, ap, ◌∙◌}
use mathlib.Core.List.{List, ◌++◌}
use lib.Ieee.{Float, nan}
use lib.ListN.{length, get_or, set, drop, length-set}
use lib.Seq.{ext_get_or}
use Rattle.lists.specs.Lists.{tab}
use Rattle.lists.proofs.Tab.{length-tab, get_or-tab, tab-fill, tab-done, tab-rest}

-- l, the first n places written over
pub record Filled (f : ℕ → Float) (l out : List Float) (n : ℕ) : Type 0 where
  pub same : length out ≡ length l
  pub inside : n ≤ length l
  pub front : out ≡ tab f n ++ drop n l

module _ (f : ℕ → Float) (l : List Float) where
  pub filled_none : Filled f l l 0
  filled_none = record { same = refl; inside = omega arith; front = refl }

  pub filled_more : (out : List Float) (n : ℕ) (v : Float) → Filled f l out n → n < length out → v ≡ f n → Filled f l (set out n v) (n + 1)
  filled_more out n v p h e =
      let b : n < length l = omega (arith, p.same) in
      record {
        same = length-set out n v ∙ p.same;
        inside = omega arith;
        front = tab-fill f nan l out n v p.front e b;
      }

  -- the place that is written next is as it was
  pub filled_next : (out : List Float) (n : ℕ) → Filled f l out n → n < length out → get_or out n nan ≡ get_or l n nan
  filled_next out n p h = ap (λ (o : List Float). get_or o n nan) p.front ∙ tab-rest f nan l n (omega (arith, p.same))

  pub filled-all : (out : List Float) (n : ℕ) → Filled f l out n → length out ≤ n → out ≡ tab f (length l)
  filled-all out n p h =
      let e : n ≡ length l = omega (arith, p.same, p.inside) in
      p.front ∙ (tab-done f l n (omega (arith, e)) ∙ ap (tab f) e)

-- a list is its entries
pub tab-get_d : (l : List Float) → tab (λ j. get_or l j nan) (length l) ≡ l
tab-get_d l = ext_get_or nan _ l (length-tab (λ j. get_or l j nan) (length l)) (λ i h. get_or-tab (λ j. get_or l j nan) (length l) nan i (omega (arith, length-tab (λ j. get_or l j nan) (length l))))
