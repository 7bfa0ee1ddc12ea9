-- Where the fullest column has one overlap above the threshold, no two rows have one in the same column. Assumes nothing.
use mathlib.Core.Path.{◌≡◌, refl, sym, ap, ◌∙◌}
use mathlib.Core.Bool.{Bool, true, false}
use mathlib.Core.Logic.{⊎_elim}
use Prim.Native.Nat.{ℕ, zero, suc, ◌≤◌, ◌<◌}
use native.Mathlib.Nat.{not-suc-le-zero, le_of_suc-le-suc, eq-or-lt_of_le}
use native.Mathlib.Omega.{arith}
use lib.IntN.{pos}
use Rattle.lapjv_walk.proofs.Cases.{pos_inj, pos-free}
use Rattle.lists.specs.Lists.{pick}
use Rattle.matching.specs.Matching.{count_of, passing}
use Rattle.matching.proofs.Counting.{count-last, count-more, count-one}

module _ (p : ℕ → Bool) where
  count-two : (n i k : ℕ) → i < k → k < n → p i ≡ true → p k ≡ true → 2 ≤ count_of p n
  count-two zero i k l h e f = absurd (not-suc-le-zero h)
  count-two (suc n) i k l h e f =
      ⊎_elim (λ q. omega (arith, count-last p n (ap p (sym q) ∙ f), count-one p n i (omega (arith, q, l)) e)) (λ q. omega (arith, count-two n i k l q e f, count-more p n)) (eq-or-lt_of_le (le_of_suc-le-suc h))

  -- at most one passes
  pub only_one : (n i k : ℕ) → count_of p n ≤ 1 → i < n → k < n → p i ≡ true → p k ≡ true → i ≡ k
  only_one n i k c h g e f =
      let u : i < k → ⊥ = λ l. omega (arith, count-two n i k l g e f) in
      let v : k < i → ⊥ = λ l. omega (arith, count-two n k i l h f e) in
      omega arith

  pub passing-is : (n j : ℕ) → passing p n ≡ pos j → (j < n) × (p j ≡ true)
  passing-is zero j e = absurd (pos-free j (sym e))
  passing-is (suc n) j e = go (p n) refl e (passing-is n j)
    where
      go : (t : Bool) → p n ≡ t → pick t (pos n) (passing p n) ≡ pos j → (passing p n ≡ pos j → (j < n) × (p j ≡ true)) → (j < suc n) × (p j ≡ true)
      go true f e ih = let q : n ≡ j = pos_inj n j e in (omega (arith, q), ap p (sym q) ∙ f)
      go false f e ih = (omega (arith, (ih e).0), (ih e).1)
