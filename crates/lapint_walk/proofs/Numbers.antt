-- Sums, differences and tests of whole numbers in their two parts, so that `omega` decides what is linear. Assumes nothing.
use mathlib.Core.Path.{◌≡◌, refl, sym, ap, subst}
use mathlib.Core.Bool.{Bool, true, false}
use Prim.Native.Nat.{ℕ, zero, suc, ◌+◌}
use borrow.Author.Tests.{ltb-true, ltb-false, leb-true, leb-false, eqb-true, le-leb}
use lib.Dec.{T, ltb}
use lib.IntN.{ℤ, pos, negsuc, neg_ℤ, sub_ℕ, ◌+ℤ◌, ◌-ℤ◌}
use lib.Signed.{lt_z, le_z, ◌≤ℤ◌}
use native.Mathlib.Omega.{arith}
use Rattle.lapjv_walk.proofs.Cases.{not-both}
use Rattle.lapint_walk.specs.Wholes.{eq_z}
pub use Rattle.lapint_walk.specs.Parts.{up, down, Le, Lt, Top, Low, Plus, Minus, Equal, LeMinus}

sub_is : (a b : ℕ) → up (sub_ℕ a b) + b ≡ down (sub_ℕ a b) + a
sub_is a b = go (ltb a b) refl
  where
    go : (t : Bool) → ltb a b ≡ t → up (sub_ℕ a b) + b ≡ down (sub_ℕ a b) + a
    go true e = rw e (omega (arith, ltb-true a b e))
    go false e = rw e (omega (arith, ltb-false a b e))

pub plus : (a b : ℤ) → Plus a b (a +ℤ b)
plus (pos a) (pos b) = omega arith
plus (pos a) (negsuc b) = omega (arith, sub_is a (suc b))
plus (negsuc a) (pos b) = omega (arith, sub_is b (suc a))
plus (negsuc a) (negsuc b) = omega arith

neg-up : (b : ℤ) → up (neg_ℤ b) ≡ down b
neg-up (pos zero) = refl
neg-up (pos (suc n)) = refl
neg-up (negsuc n) = refl

neg-down : (b : ℤ) → down (neg_ℤ b) ≡ up b
neg-down (pos zero) = refl
neg-down (pos (suc n)) = refl
neg-down (negsuc n) = refl

pub minus : (a b : ℤ) → Minus a b (a -ℤ b)
minus a b = omega (arith, plus a (neg_ℤ b), neg-up b, neg-down b)

-- ---- tests

pub lt_yes : (a b : ℤ) → lt_z a b ≡ true → Lt a b
lt_yes (pos a) (pos b) e = omega (arith, ltb-true a b e)
lt_yes (pos a) (negsuc b) e = not-both false e refl
lt_yes (negsuc a) (pos b) e = omega arith
lt_yes (negsuc a) (negsuc b) e = omega (arith, ltb-true b a e)

pub lt_not : (a b : ℤ) → lt_z a b ≡ false → Le b a
lt_not (pos a) (pos b) e = omega (arith, ltb-false a b e)
lt_not (pos a) (negsuc b) e = omega arith
lt_not (negsuc a) (pos b) e = not-both true refl e
lt_not (negsuc a) (negsuc b) e = omega (arith, ltb-false b a e)

pub le_yes : (a b : ℤ) → le_z a b ≡ true → Le a b
le_yes (pos a) (pos b) e = omega (arith, leb-true a b e)
le_yes (pos a) (negsuc b) e = not-both false e refl
le_yes (negsuc a) (pos b) e = omega arith
le_yes (negsuc a) (negsuc b) e = omega (arith, leb-true b a e)

pub le_not : (a b : ℤ) → le_z a b ≡ false → Lt b a
le_not (pos a) (pos b) e = omega (arith, leb-false a b e)
le_not (pos a) (negsuc b) e = omega arith
le_not (negsuc a) (pos b) e = not-both true refl e
le_not (negsuc a) (negsuc b) e = omega (arith, leb-false b a e)

pub eq_yes : (a b : ℤ) → eq_z a b ≡ true → a ≡ b
eq_yes (pos a) (pos b) e = ap pos (eqb-true a b e)
eq_yes (pos a) (negsuc b) e = not-both false e refl
eq_yes (negsuc a) (pos b) e = not-both false e refl
eq_yes (negsuc a) (negsuc b) e = ap negsuc (eqb-true a b e)

-- ---- the order of the specs

lez : (a b : ℤ) → le_z a b ≡ true → a ≤ℤ b
lez a b e = record { le = subst (λ (t : Bool). T t) (sym e) tt }

pub to-order : (a b : ℤ) → Le a b → a ≤ℤ b
to-order (pos a) (pos b) h = lez (pos a) (pos b) (le-leb a b (omega arith))
to-order (pos a) (negsuc b) h = absurd (omega arith)
to-order (negsuc a) (pos b) h = lez (negsuc a) (pos b) refl
to-order (negsuc a) (negsuc b) h = lez (negsuc a) (negsuc b) (le-leb b a (omega arith))
