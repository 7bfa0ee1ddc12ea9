-- n different numbers below n leave none out. Assumes nothing.
use mathlib.Core.Path.{refl, sym, ◌∙◌, ◌≡◌}
use mathlib.Core.Bool.{Bool, true, false}
use mathlib.Core.List.{List}
use mathlib.Core.Logic.{inl, inr, ◌⊎◌, ⊎_elim}
use Prim.Native.Nat.{◌<◌, suc, zero, ℕ}
use borrow.Author.Tests.{eq-eqb, ne_eqb, eqb-true, eqb-false}
use lib.Dec.{eqb}
use lib.ListN.{get_or}
use native.Mathlib.Decide.{ℕ_discrete}
use native.Mathlib.Omega.{arith}
use Rattle.lists.specs.Lists.{pick}
use Rattle.lapjv_walk.specs.Holds.{Apart}

-- ---- n + 1 numbers below n are not all different

module _ (n : ℕ) (f : ℕ → ℕ) (b : (i : ℕ) → i < suc (suc n) → f i < suc n) (inj : (i j : ℕ) → i < suc (suc n) → j < suc (suc n) → f i ≡ f j → i ≡ j) where
  less : ℕ → ℕ
  less i = pick (eqb (f i) n) (f (suc n)) (f i)

  less-top : (i : ℕ) → f i ≡ n → less i ≡ f (suc n)
  unfolding less
  less-top i e = rw (eq-eqb (f i) n e)

  less-same : (i : ℕ) → (f i ≡ n → ⊥) → less i ≡ f i
  unfolding less
  less-same i u = rw (ne_eqb (f i) n u)

  less-below : (i : ℕ) → i < suc n → less i < n
  less-below i h = elim (ℕ_discrete (f i) n) [
    | yes e ↦ elim (ℕ_discrete (f (suc n)) n) [
      | yes e2 ↦ let z : i ≡ suc n = inj i (suc n) (omega arith) (omega arith) (e ∙ sym e2) in absurd (omega arith)
      | no u ↦ omega (arith, less-top i e, b (suc n) (omega arith))
    ]
    | no u ↦ omega (arith, less-same i u, b i (omega arith))
  ]

  less-inj : (i j : ℕ) → i < suc n → j < suc n → less i ≡ less j → i ≡ j
  less-inj i j hi hj e = elim (ℕ_discrete (f i) n) [
    | yes p ↦ elim (ℕ_discrete (f j) n) [
      | yes q ↦ inj i j (omega arith) (omega arith) (p ∙ sym q)
      | no q ↦ let z : suc n ≡ j = inj (suc n) j (omega arith) (omega arith) (sym (less-top i p) ∙ e ∙ less-same j q) in absurd (omega arith)
    ]
    | no p ↦ elim (ℕ_discrete (f j) n) [
      | yes q ↦ let z : i ≡ suc n = inj i (suc n) (omega arith) (omega arith) (sym (less-same i p) ∙ e ∙ less-top j q) in absurd (omega arith)
      | no q ↦ inj i j (omega arith) (omega arith) (sym (less-same i p) ∙ e ∙ less-same j q)
    ]
  ]

pub pigeon : (n : ℕ) (f : ℕ → ℕ) → ((i : ℕ) → i < suc n → f i < n) → ((i j : ℕ) → i < suc n → j < suc n → f i ≡ f j → i ≡ j) → ⊥
pigeon zero f b inj = omega (arith, b 0 (omega arith))
pigeon (suc n) f b inj = pigeon n (less n f b inj) (less-below n f b inj) (less-inj n f b inj)

-- f, but r at q
pub swapped : (ℕ → ℕ) → ℕ → ℕ → ℕ → ℕ
swapped f q r i = pick (eqb i q) r (f i)

pub at-q : (f : ℕ → ℕ) (q r i : ℕ) → i ≡ q → swapped f q r i ≡ r
unfolding swapped
at-q f q r i e = rw (eq-eqb i q e)

pub not-q : (f : ℕ → ℕ) (q r i : ℕ) → (i ≡ q → ⊥) → swapped f q r i ≡ f i
unfolding swapped
not-q f q r i u = rw (ne_eqb i q u)

-- n numbers below n, all different, leave none out
module _ (n : ℕ) (f : ℕ → ℕ) (m : ℕ) (hm : m < n) (b : (i : ℕ) → i < n → f i < n) (inj : (i j : ℕ) → i < n → j < n → f i ≡ f j → i ≡ j) (out : (i : ℕ) → i < n → f i ≡ m → ⊥) where
  at_n : (i : ℕ) → i ≡ n → swapped f n m i ≡ m
  at_n = at-q f n m

  at_i : (i : ℕ) → (i ≡ n → ⊥) → swapped f n m i ≡ f i
  at_i = not-q f n m

  pub none_out : ⊥
  none_out = pigeon n (swapped f n m)
      (λ i h. elim (ℕ_discrete i n) [ yes e ↦ omega (arith, at_n i e) | no u ↦ omega (arith, at_i i u, b i (omega arith)) ])
      (λ i j hi hj e. elim (ℕ_discrete i n) [
        | yes p ↦ elim (ℕ_discrete j n) [ yes q ↦ p ∙ sym q | no q ↦ absurd (out j (omega arith) (sym (at_i j q) ∙ sym e ∙ at_n i p)) ]
        | no p ↦ elim (ℕ_discrete j n) [
          | yes q ↦ absurd (out i (omega arith) (sym (at_i i p) ∙ e ∙ at_n j q))
          | no q ↦ inj i j (omega arith) (omega arith) (sym (at_i i p) ∙ e ∙ at_i j q)
        ]
      ])

-- so each of them stands at some place
pub some_or_none : (t : ℕ → Bool) (k : ℕ) → ((q : ℕ) × (q < k) × (t q ≡ true)) ⊎ ((q : ℕ) → q < k → t q ≡ false)
some_or_none t zero = inr (λ q h. absurd (omega arith))
some_or_none t (suc k) = go (t k) refl (some_or_none t k)
  where
    go : (b : Bool) → t k ≡ b → ((q : ℕ) × (q < k) × (t q ≡ true)) ⊎ ((q : ℕ) → q < k → t q ≡ false) → ((q : ℕ) × (q < suc k) × (t q ≡ true)) ⊎ ((q : ℕ) → q < suc k → t q ≡ false)
    go true e r = inl (k, omega arith, e)
    go false e (inl w) = inl (w.0, omega (arith, w.1), w.2)
    go false e (inr w) = inr (λ q h. elim (ℕ_discrete q k) [ yes a ↦ rw a e | no u ↦ w q (omega arith) ])

pub hit : (n : ℕ) (f : ℕ → ℕ) → ((i : ℕ) → i < n → f i < n) → ((i j : ℕ) → i < n → j < n → f i ≡ f j → i ≡ j) → (m : ℕ) → m < n → (q : ℕ) × (q < n) × (f q ≡ m)
hit n f b inj m h = ⊎_elim
    (λ (w : (q : ℕ) × (q < n) × (eqb (f q) m ≡ true)). (w.0, w.1, eqb-true (f w.0) m w.2))
    (λ (w : (q : ℕ) → q < n → eqb (f q) m ≡ false). absurd (none_out n f m h b inj (λ q l. eqb-false (f q) m (w q l))))
    (some_or_none (λ q. eqb (f q) m) n)

pub at_place : (n : ℕ) (cols : List ℕ) → Apart n cols → (j : ℕ) → j < n → (q : ℕ) × (q < n) × (get_or cols q 0 ≡ j)
at_place n cols a = hit n (λ q. get_or cols q 0) a.below a.inj
