-- Numbers from -2^40 to 2^40 as 64 bits. Assumes nothing.
use mathlib.Core.Path.{◌≡◌, ap, refl, sym, ◌∙◌}
use mathlib.Core.Bool.{Bool, false, true}
use borrow.Author.Tests.{eq-eqb, eqb-false, eqb-true}
use lib.Dec.{eqb}
use Prim.Native.Nat.{ℕ, ◌<◌}
use lib.IntN.{ℤ, pos, negsuc, ◌-ℤ◌, ◌+ℤ◌}
use mir.Syntax.{w64}
use mir.Val.{of_z, SFits, to_z}
use mir.ValLaws.{to_z-of_z}
use mathlib.Core.List.{List}
use native.Mathlib.Omega.{arith}
use Rattle.lapjv_walk.specs.Ops.{cost_at}
use Rattle.lapint_walk.specs.Wholes.{eq_z, wholes}
use Rattle.lapint_walk.specs.Holds.{Costs, Far, Good, Prices, rc, Small, val}
use Rattle.lapint_walk.proofs.Numbers.{Top, Low, eq_yes, minus, plus}

-- from -2^62 to 2^62
pub bits-hold : (z : ℤ) → Top 4_611_686_018_427_387_904 z → Low 4_611_686_018_427_387_904 z → SFits w64 z
bits-hold (pos n) t l = record { sfits = omega arith }
bits-hold (negsuc n) t l = record { sfits = omega arith }

pub small-fits : (z : ℤ) → Small z → SFits w64 z
small-fits z s = bits-hold z (omega (arith, s.top)) (omega (arith, s.low))

pub small_is : (z : ℤ) → Small z → to_z w64 (of_z w64 z) ≡ z
small_is z s = to_z-of_z w64 z (small-fits z s)

pub minus-fits : (a b : ℤ) → Small a → Small b → SFits w64 (a -ℤ b)
minus-fits a b s t = bits-hold (a -ℤ b) (omega (arith, s.top, t.low, minus a b)) (omega (arith, s.low, t.top, minus a b))

pub twice-fits : (a b c : ℤ) → Small a → Small b → Small c → SFits w64 (a -ℤ (b -ℤ c))
twice-fits a b c s t u = bits-hold (a -ℤ (b -ℤ c)) (omega (arith, s.top, t.low, u.top, minus a (b -ℤ c), minus b c)) (omega (arith, s.low, t.top, u.low, minus a (b -ℤ c), minus b c))

module _ (n : ℕ) (cost v : List ℤ) (cs : Costs n cost) (ps : Prices n v) (i j : ℕ) (hi : i < n) (hj : j < n) where
  pub cost-small : Small (cost_at wholes n cost i j)
  cost-small = record { top = omega (arith, cs.top i j hi hj); low = omega (arith, cs.low i j hi hj) }

  pub price-small : Small (val v j)
  price-small = record { top = omega (arith, ps.top j hj); low = omega (arith, ps.low j hj) }

  -- a reduced cost is from -2,000,000 to 1,000,002,000,000
  pub rc-top : Top 1_000_002_000_000 (rc n cost v i j)
  rc-top = omega (arith, minus (cost_at wholes n cost i j) (val v j), cs.top i j hi hj, ps.low j hj)

  pub rc-low : Low 2_000_000 (rc n cost v i j)
  rc-low = omega (arith, minus (cost_at wholes n cost i j) (val v j), cs.low i j hi hj, ps.top j hj)

  pub rc-small : Small (rc n cost v i j)
  rc-small = record { top = omega (arith, rc-top); low = omega (arith, rc-low) }

pub good-prices : {n : ℕ} {cost y v : List ℤ} → Good n cost y v → Prices n v
good-prices g = record { top = g.top; low = g.deep }

-- ---- equality of the bits is equality of the numbers

pub eq_refl : (a : ℤ) → eq_z a a ≡ true
eq_refl (pos n) = eq-eqb n n refl
eq_refl (negsuc n) = eq-eqb n n refl

pub same_bits : (a b : ℤ) → SFits w64 a → SFits w64 b → eqb (of_z w64 a) (of_z w64 b) ≡ eq_z a b
same_bits a b fa fb = go (eqb (of_z w64 a) (of_z w64 b)) refl (eq_z a b) refl
  where
    go : (t : Bool) → eqb (of_z w64 a) (of_z w64 b) ≡ t → (u : Bool) → eq_z a b ≡ u → eqb (of_z w64 a) (of_z w64 b) ≡ eq_z a b
    go true e true f = e ∙ sym f
    go false e false f = e ∙ sym f
    go true e false f =
        let z : a ≡ b = sym (to_z-of_z w64 a fa) ∙ ap (to_z w64) (eqb-true (of_z w64 a) (of_z w64 b) e) ∙ to_z-of_z w64 b fb in
        let w : eq_z a b ≡ true = rw z (eq_refl b) in
        e ∙ sym w
    go false e true f = absurd (eqb-false (of_z w64 a) (of_z w64 b) e (ap (of_z w64) (eq_yes a b f)))

pub raise-fits : (a b c : ℤ) → Small a → Small b → Small c → SFits w64 (a +ℤ (b -ℤ c))
raise-fits a b c s t u = bits-hold (a +ℤ (b -ℤ c)) (omega (arith, s.top, t.top, u.low, plus a (b -ℤ c), minus b c)) (omega (arith, s.low, t.low, u.top, plus a (b -ℤ c), minus b c))

pub far-small : {n : ℕ} {d : List ℤ} → Far n d → (j : ℕ) → j < n → Small (val d j)
far-small f j h = record { top = omega (arith, f.top j h); low = omega (arith, f.low j h) }

pub price-only : {n : ℕ} {v : List ℤ} → Prices n v → (j : ℕ) → j < n → Small (val v j)
price-only p j h = record { top = omega (arith, p.top j h); low = omega (arith, p.low j h) }

pub cost-only : (n : ℕ) (cost : List ℤ) → Costs n cost → (i j : ℕ) → i < n → j < n → Small (cost_at wholes n cost i j)
cost-only n cost cs i j hi hj = record { top = omega (arith, cs.top i j hi hj); low = omega (arith, cs.low i j hi hj) }

-- a reduced cost less a distance
pub height-small : (n : ℕ) (cost v d : List ℤ) (i j : ℕ) → Costs n cost → Prices n v → Far n d → i < n → j < n → Small (rc n cost v i j -ℤ val d j)
height-small n cost v d i j cs ps f hi hj =
    let m = minus (rc n cost v i j) (val d j) in
    record { top = omega (arith, rc-top n cost v cs ps i j hi hj, f.low j hj); low = omega (arith, rc-low n cost v cs ps i j hi hj, f.top j hj) }
