-- Sums: one changed term, and the same terms in another order; and that prices at which each pair is its row's cheapest make a pairing cheapest. Assumes nothing.
use mathlib.Core.Path.{◌≡◌, refl, sym, ◌∙◌, ap}
use Prim.Native.Nat.{ℕ, zero, suc, ◌+◌, ◌<◌}
use lib.IntN.{ℤ}
use native.Mathlib.Decide.{ℕ_discrete}
use native.Mathlib.Omega.{arith}
use Rattle.lapjv_walk.proofs.Pigeon.{at-q, hit, not-q, swapped}
use Rattle.lapint_walk.specs.Cheapest.{whole_sum}
use Rattle.lapint_walk.proofs.Numbers.{up, down, Le, Equal, LeMinus, plus}

pub sum-ext : (g h : ℕ → ℤ) (m : ℕ) → ((i : ℕ) → i < m → g i ≡ h i) → whole_sum g m ≡ whole_sum h m
sum-ext g h zero e = refl
sum-ext g h (suc m) e = rw (sum-ext g h m (λ i l. e i (omega arith)), e m (omega arith))

-- g and h differ at q alone
pub sum-but : (g h : ℕ → ℤ) (m q : ℕ) → q < m → ((i : ℕ) → i < m → (i ≡ q → ⊥) → g i ≡ h i)
    → up (whole_sum g m) + down (g q) + down (whole_sum h m) + up (h q) ≡ down (whole_sum g m) + up (g q) + up (whole_sum h m) + down (h q)
sum-but g h zero q l e = absurd (omega arith)
sum-but g h (suc m) q l e = elim (ℕ_discrete q m) [
  | yes r ↦ let s : whole_sum g m ≡ whole_sum h m = sum-ext g h m (λ i k. e i (omega arith) (omega arith)) in
      rw (r, s) (omega (arith, plus (whole_sum h m) (g m), plus (whole_sum h m) (h m)))
  | no u ↦ let s : g m ≡ h m = e m (omega arith) (λ z. u (sym z)) in
      rw s (omega (arith, plus (whole_sum g m) (h m), plus (whole_sum h m) (h m), sum-but g h m q (omega arith) (λ i k w. e i (omega arith) w)))
]

-- p sends the numbers below n to numbers below n, no two to one
pub record Injects (n : ℕ) (p : ℕ → ℕ) : Type 0 where
  pub below : (i : ℕ) → i < n → p i < n
  pub inj : (i j : ℕ) → i < n → j < n → p i ≡ p j → i ≡ j

module _ (m : ℕ) (f : ℕ → ℤ) (p : ℕ → ℕ) (e : Injects (suc m) p) (ih : (g : ℕ → ℕ) → Injects m g → Equal (whole_sum (λ i. f (g i)) m) (whole_sum f m)) where
  -- the last number stays
  last-stays : p m ≡ m → Equal (whole_sum (λ i. f (p i)) m) (whole_sum f m)
  last-stays r = ih p (record {
    below = λ i l. elim (ℕ_discrete (p i) m) [
      | yes q ↦ absurd (let z : i ≡ m = e.inj i m (omega arith) (omega arith) (q ∙ sym r) in omega arith)
      | no u ↦ let z : p i < suc m = e.below i (omega arith) in omega arith
    ];
    inj = λ i j li lj q. e.inj i j (omega arith) (omega arith) q;
  })

  -- it comes from q
  last-moves : (q : ℕ) → q < m → p q ≡ m → Equal (whole_sum (λ i. f (swapped p q (p m) i)) m) (whole_sum f m)
  last-moves q hq r = ih (swapped p q (p m)) (record {
    below = λ i l. elim (ℕ_discrete i q) [
      | yes a ↦ rw (at-q p q (p m) i a) (elim (ℕ_discrete (p m) m) [
        | yes b ↦ absurd (let z : q ≡ m = e.inj q m (omega arith) (omega arith) (r ∙ sym b) in omega arith)
        | no b ↦ let z : p m < suc m = e.below m (omega arith) in omega arith
      ])
      | no a ↦ rw (not-q p q (p m) i a) (elim (ℕ_discrete (p i) m) [
        | yes b ↦ absurd (a (e.inj i q (omega arith) (omega arith) (b ∙ sym r)))
        | no b ↦ let z : p i < suc m = e.below i (omega arith) in omega arith
      ])
    ];
    inj = λ i j li lj w. elim (ℕ_discrete i q) [
      | yes a ↦ elim (ℕ_discrete j q) [
        | yes b ↦ a ∙ sym b
        | no b ↦ absurd (let z : m ≡ j = e.inj m j (omega arith) (omega arith) (sym (at-q p q (p m) i a) ∙ w ∙ not-q p q (p m) j b) in omega arith)
      ]
      | no a ↦ elim (ℕ_discrete j q) [
        | yes b ↦ absurd (let z : i ≡ m = e.inj i m (omega arith) (omega arith) (sym (not-q p q (p m) i a) ∙ w ∙ at-q p q (p m) j b) in omega arith)
        | no b ↦ e.inj i j (omega arith) (omega arith) (sym (not-q p q (p m) i a) ∙ w ∙ not-q p q (p m) j b)
      ]
    ];
  })

  perm-moves : (p m ≡ m → ⊥) → (w : (q : ℕ) × (q < suc m) × (p q ≡ m)) → Equal (whole_sum (λ i. f (p i)) (suc m)) (whole_sum f (suc m))
  perm-moves u w =
      let q : ℕ = w.0 in
      let hq : q < m = elim (ℕ_discrete q m) [ yes a ↦ absurd (u (ap p (sym a) ∙ w.2)) | no a ↦ omega (arith, w.1) ] in
      let c = sum-but (λ i. f (swapped p q (p m) i)) (λ i. f (p i)) m q hq (λ i l a. ap f (not-q p q (p m) i a)) in
      omega (
        arith,
        last-moves q hq w.2,
        c,
        plus (whole_sum (λ i. f (p i)) m) (f (p m)),
        plus (whole_sum f m) (f m),
        ap (λ (z : ℕ). up (f z)) (at-q p q (p m) q refl),
        ap (λ (z : ℕ). down (f z)) (at-q p q (p m) q refl),
        ap (λ (z : ℕ). up (f z)) w.2,
        ap (λ (z : ℕ). down (f z)) w.2,
      )

  perm-step : Equal (whole_sum (λ i. f (p i)) (suc m)) (whole_sum f (suc m))
  perm-step = elim (ℕ_discrete (p m) m) [
    | yes r ↦ omega (arith, last-stays r, plus (whole_sum (λ i. f (p i)) m) (f (p m)), plus (whole_sum f m) (f m), ap (λ (z : ℕ). up (f z)) r, ap (λ (z : ℕ). down (f z)) r)
    | no u ↦ perm-moves u (hit (suc m) p e.below e.inj m (omega arith))
  ]

-- the same terms in another order
pub permuted : (n : ℕ) (f : ℕ → ℤ) (p : ℕ → ℕ) → Injects n p → Equal (whole_sum (λ i. f (p i)) n) (whole_sum f n)
permuted zero f p e = refl
permuted (suc m) f p e = perm-step m f p e (λ g h. permuted m f g h)

-- a - b ≤ c - d term by term
pub sums-minus : (a b c d : ℕ → ℤ) (n : ℕ) → ((i : ℕ) → i < n → LeMinus (a i) (b i) (c i) (d i)) → LeMinus (whole_sum a n) (whole_sum b n) (whole_sum c n) (whole_sum d n)
sums-minus a b c d zero h = omega arith
sums-minus a b c d (suc n) h =
    omega (arith, sums-minus a b c d n (λ i l. h i (omega arith)), h n (omega arith), plus (whole_sum a n) (a n), plus (whole_sum b n) (b n), plus (whole_sum c n) (c n), plus (whole_sum d n) (d n))

-- the pairing x, each of its pairs the cheapest of its row at the prices v, against any other
pub prices-settle : (n : ℕ) (c : ℕ → ℕ → ℤ) (v : ℕ → ℤ) (x p : ℕ → ℕ) → Injects n x → Injects n p → ((i j : ℕ) → i < n → j < n → LeMinus (c i (x i)) (v (x i)) (c i j) (v j))
    → Le (whole_sum (λ i. c i (x i)) n) (whole_sum (λ i. c i (p i)) n)
prices-settle n c v x p ex ep h =
    omega (arith, sums-minus (λ i. c i (x i)) (λ i. v (x i)) (λ i. c i (p i)) (λ i. v (p i)) n (λ i l. h i (p i) l (ep.below i l)), permuted n v x ex, permuted n v p ep)
