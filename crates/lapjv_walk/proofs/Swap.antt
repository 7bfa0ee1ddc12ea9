-- An exchange of two elements keeps indices below n and apart. Assumes nothing.
use mathlib.Core.Path.{refl, sym, ◌∙◌, ◌≡◌}
use mathlib.Core.List.{List}
use Prim.Native.Nat.{◌<◌, ℕ}
use lib.ListN.{get_or, length-set, set}
use lib.Seq.{get_or-set_other, get_or-set_same}
use native.Mathlib.Decide.{ℕ_discrete}
use native.Mathlib.Omega.{arith}
use Rattle.lapjv_walk.specs.Holds.{Apart}
use Rattle.lapjv_walk.specs.Path.{exchanged}

module _ (n : ℕ) (cols : List ℕ) (a : Apart n cols) (k i : ℕ) (hk : k < n) (hi : i < n) where
  new : List ℕ
  new = exchanged cols k i (get_or cols k 0)

  -- where the element at p comes from
  record Origin (p : ℕ) : Type 0 where
    q : ℕ
    q-lt : q < n
    same : get_or new p 0 ≡ get_or cols q 0
    back : (p ≡ i → q ≡ k) × (p ≡ k → q ≡ i) × ((p ≡ i → ⊥) → (p ≡ k → ⊥) → q ≡ p)

  swap-from : (p : ℕ) → p < n → Origin p
  unfolding new
  swap-from p hp = elim (ℕ_discrete p i) [
    | yes e ↦ record {
      q = k;
      q-lt = hk;
      same = rw e (get_or-set_same (set cols k (get_or cols i 0)) i (get_or cols k 0) 0 (simp length-set (omega (arith, a.len))));
      back = ((λ _. refl), (λ f. omega arith), (λ u v. absurd (u e)));
    }
    | no u ↦ elim (ℕ_discrete p k) [
      | yes e ↦ record {
        q = i;
        q-lt = hi;
        same = get_or-set_other (set cols k (get_or cols i 0)) i p (get_or cols k 0) 0 u ∙ rw e (get_or-set_same cols k (get_or cols i 0) 0 (omega (arith, a.len)));
        back = ((λ f. absurd (u f)), (λ _. refl), (λ _ v. absurd (v e)));
      }
      | no v ↦ record {
        q = p;
        q-lt = hp;
        same = get_or-set_other (set cols k (get_or cols i 0)) i p (get_or cols k 0) 0 u ∙ get_or-set_other cols k p (get_or cols i 0) 0 v;
        back = ((λ f. absurd (u f)), (λ f. absurd (v f)), (λ _ _. refl));
      }
    ]
  ]

  swap_inj : (p q : ℕ) (f : Origin p) (g : Origin q) → p < n → q < n → get_or new p 0 ≡ get_or new q 0 → p ≡ q
  swap_inj p q f g hp hq e =
      let eq : f.q ≡ g.q = a.inj f.q g.q f.q-lt g.q-lt (sym f.same ∙ e ∙ g.same) in
      elim (ℕ_discrete p i) [
        | yes pi ↦ elim (ℕ_discrete q i) [
          | yes qi ↦ pi ∙ sym qi
          | no qi ↦ elim (ℕ_discrete q k) [
            | yes qk ↦ omega (arith, f.back.0 pi, g.back.1 qk)
            | no qk ↦ absurd (qk (sym (g.back.2 qi qk) ∙ sym eq ∙ f.back.0 pi))
          ]
        ]
        | no pi ↦ elim (ℕ_discrete p k) [
          | yes pk ↦ elim (ℕ_discrete q i) [
            | yes qi ↦ omega (arith, f.back.1 pk, g.back.0 qi)
            | no qi ↦ elim (ℕ_discrete q k) [
              | yes qk ↦ pk ∙ sym qk
              | no qk ↦ absurd (qi (sym (g.back.2 qi qk) ∙ sym eq ∙ f.back.1 pk))
            ]
          ]
          | no pk ↦ elim (ℕ_discrete q i) [
            | yes qi ↦ absurd (pk (sym (f.back.2 pi pk) ∙ eq ∙ g.back.0 qi))
            | no qi ↦ elim (ℕ_discrete q k) [
              | yes qk ↦ absurd (pi (sym (f.back.2 pi pk) ∙ eq ∙ g.back.1 qk))
              | no qk ↦ sym (f.back.2 pi pk) ∙ eq ∙ g.back.2 qi qk
            ]
          ]
        ]
      ]

  pub swap-apart : Apart n (exchanged cols k i (get_or cols k 0))
  unfolding new
  swap-apart = record {
    len = simp length-set a.len;
    below = λ p hp. rw (swap-from p hp).same (a.below (swap-from p hp).q (swap-from p hp).q-lt);
    inj = λ p q hp hq e. swap_inj p q (swap-from p hp) (swap-from q hq) hp hq e;
  }
