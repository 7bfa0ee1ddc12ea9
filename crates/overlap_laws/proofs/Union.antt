-- The common part is no larger than the union: it is no larger than either area, so its double is no larger than their sum.
-- Rounding keeps that, since the double and the common part itself are values of the format. Assumes nothing.
use mathlib.Core.Path.{◌≡◌, refl, sym, ap, ◌∙◌, subst}
use mathlib.Core.Bool.{Bool, true, false, not}
use Prim.Native.Nat.{ℕ, suc, ◌+◌, ◌-◌, ◌*◌, ◌^◌, ◌≤◌, ◌<◌}
use native.Mathlib.Nat.{lt_of_lt_of_le, lt_of_le_of_lt, le_of_mul-le-mul_right, mul-le-mul_right, mul_left_comm, pow-succ', le-add_right}
use native.Mathlib.Omega.{arith}
use lib.Dec.{T, leb, leb→le, nleb→lt}
use lib.Pow.{pow_pos}
use lib.Ieee.{Float, nan, inf, fin, binary32, round, sum, add, sub, le, fits}
use lib.Ieee.Exact.{HasValue, round_exact}
use lib.Ieee.Fits.{add-fits, sub-fits}
use lib.Ieee.Order.{round_mono, le_of_values}
use lib.Ieee.Positive.{positive, values_of_le, above_of_le, positive_of_value, value_pos, positive-finite}
use lib.Ieee.Scale.{finite}
use Rattle.ieee.proofs.Grid.{digits}
use Rattle.overlap_laws.proofs.Signed.{add-units, sub-units, difference-above}
use Rattle.overlap_laws.proofs.Finite.{add-finite, sub-finite, above-finite, sign_clear}

-- ---- a value above zero in units of 2 ^ -149, and its double
pub record Units (x : Float) : Type 0 where
  pub m : ℕ
  pub j : ℕ
  pub short : m < 2 ^ 24
  pub value : HasValue x false (m * 2 ^ j) (2 ^ 149)
  pub nonzero : 0 < m * 2 ^ j

pub units-above : (x : Float) → T (fits binary32 x) → T (positive x) → Units x
units-above x f p =
    let d = digits x f (positive-finite x p) in
    let v = sign_clear x d.sign (d.m * 2 ^ d.j) (2 ^ 149) p d.value in
    record { m = d.m; j = d.j; short = d.short; value = v; nonzero = value_pos x (d.m * 2 ^ d.j) (2 ^ 149) p (pow_pos 149) v }

abbrev pub tally : {x : Float} → Units x → ℕ
tally u = u.m * 2 ^ u.j

pub exact : (x : Float) (u : Units x) → tally u < 2 ^ 277 → HasValue (round binary32 false (tally u) (2 ^ 149)) false (tally u) (2 ^ 149)
exact x u h = round_exact binary32 false (tally u) (2 ^ 149) u.m u.j (pow_pos 149) u.short h refl

pub exact-double : (x : Float) (u : Units x) → tally u + tally u < 2 ^ 277 → HasValue (round binary32 false (tally u + tally u) (2 ^ 149)) false (tally u + tally u) (2 ^ 149)
exact-double x u h = round_exact binary32 false (tally u + tally u) (2 ^ 149) u.m (suc u.j) (pow_pos 149) u.short (subst (λ (z : ℕ). z < 2 ^ 277) (sym double) h) (ap (λ (z : ℕ). z * 2 ^ 149) (sym double))
  where
    two : (a : ℕ) → 2 * a ≡ a + a
    two a = omega arith

    double : u.m * 2 ^ suc u.j ≡ tally u + tally u
    double = ap (λ (z : ℕ). u.m * z) (pow-succ' 2 u.j) ∙ mul_left_comm u.m 2 (2 ^ u.j) ∙ two (tally u)

-- the order of two such values is that of their units
order : (x y : Float) (a b : ℕ) → T (positive x) → T (positive y) → HasValue x false a (2 ^ 149) → HasValue y false b (2 ^ 149) → T (le x y) → a ≤ b
order x y a b p q v w h = le_of_mul-le-mul_right (values_of_le x y a (2 ^ 149) b (2 ^ 149) p q v w h) (pow_pos 149)

rounds-order : (a b : ℕ) → a ≤ b → T (le (round binary32 false a (2 ^ 149)) (round binary32 false b (2 ^ 149)))
rounds-order a b h = round_mono binary32 a (2 ^ 149) b (2 ^ 149) (pow_pos 149) (pow_pos 149) (mul-le-mul_right (2 ^ 149) h)

-- ---- no sum of two areas is finite from 2 ^ 128 on
too_large : round binary32 false (2 ^ 277) (2 ^ 149) ≡ inf false
unfolding round
too_large = refl

infinite-le : (x : Float) → T (finite x) → T (le (inf false) x) → ⊥
unfolding le
infinite-le nan p h = p
infinite-le (inf s) p h = p
infinite-le (fin s m e) p h = h

sum_room : (a : ℕ) → T (finite (round binary32 false a (2 ^ 149))) → a < 2 ^ 277
sum_room a f = go (leb (2 ^ 277) a) (leb→le (2 ^ 277) a) (nleb→lt (2 ^ 277) a)
  where
    go : (t : Bool) → (T t → 2 ^ 277 ≤ a) → (T (not t) → a < 2 ^ 277) → a < 2 ^ 277
    go true x y = absurd (infinite-le (round binary32 false a (2 ^ 149)) f (subst (λ (z : Float). T (le z (round binary32 false a (2 ^ 149)))) too_large (rounds-order (2 ^ 277) a (x tt))))
    go false x y = y tt

-- ---- I is no more than A and B: it is no more than A + B - I
module _ (I A B : Float) (fI : T (fits binary32 I)) (fA : T (fits binary32 A)) (fB : T (fits binary32 B)) (pI : T (positive I)) (IA : T (le I A)) (IB : T (le I B)) (fU : T (finite (sub binary32 (add binary32 A B) I))) where
  abbrev S : Float
  S = add binary32 A B

  abbrev U : Float
  U = sub binary32 S I

  fS : T (finite S)
  fS = (sub-finite binary32 S I fU).0

  pA : T (positive A)
  pA = above-finite A (above_of_le I A pI IA) (add-finite binary32 A B fS).0

  pB : T (positive B)
  pB = above-finite B (above_of_le I B pI IB) (add-finite binary32 A B fS).1

  uI : Units I
  uI = units-above I fI pI

  uA : Units A
  uA = units-above A fA pA

  uB : Units B
  uB = units-above B fB pB

  S-is : S ≡ round binary32 false (tally uA + tally uB) (2 ^ 149)
  unfolding sum
  S-is = add-units binary32 A B false false (tally uA) (tally uB) (2 ^ 149) (pow_pos 149) uA.value uB.value

  twice : tally uI + tally uI ≤ tally uA + tally uB
  twice = both (tally uI) (tally uA) (tally uB) (order I A (tally uI) (tally uA) pI pA uI.value uA.value IA) (order I B (tally uI) (tally uB) pI pB uI.value uB.value IB)
    where
      both : (i a b : ℕ) → i ≤ a → i ≤ b → i + i ≤ a + b
      both i a b p q = omega arith

  room : tally uI + tally uI < 2 ^ 277
  room = lt_of_le_of_lt twice (sum_room (tally uA + tally uB) (subst (λ (z : Float). T (finite z)) S-is fS))

  -- I's double, rounded
  abbrev E : Float
  E = round binary32 false (tally uI + tally uI) (2 ^ 149)

  ES : T (le E S)
  ES = subst (λ (z : Float). T (le E z)) (sym S-is) (rounds-order (tally uI + tally uI) (tally uA + tally uB) twice)

  vE : HasValue E false (tally uI + tally uI) (2 ^ 149)
  vE = exact-double I uI room

  pE : T (positive E)
  pE = positive_of_value E (tally uI + tally uI) (2 ^ 149) vE (lt_of_lt_of_le uI.nonzero (le-add_right (tally uI) (tally uI)))

  pS : T (positive S)
  pS = above-finite S (above_of_le E S pE ES) fS

  uS : Units S
  uS = units-above S (add-fits binary32 A B) pS

  twice-S : tally uI + tally uI ≤ tally uS
  twice-S = order E S (tally uI + tally uI) (tally uS) pE pS vE uS.value ES

  U-is : U ≡ round binary32 false (tally uS - tally uI) (2 ^ 149)
  U-is =
      sub-units binary32 S I false false (tally uS) (tally uI) (2 ^ 149) (pow_pos 149) uS.value uI.value
      ∙ difference-above binary32 false false (tally uS) (tally uI) (2 ^ 149) (less (tally uS) (tally uI) twice-S uI.nonzero)
      ∙ ap (λ (z : ℕ). round binary32 false z (2 ^ 149)) (plain (tally uS) (tally uI))
    where
      less : (c i : ℕ) → i + i ≤ c → 0 < i → i + 0 < c + 0
      less c i p q = omega arith

      plain : (c i : ℕ) → c + 0 - (i + 0) ≡ c - i
      plain c i = omega arith

  -- I itself, rounded
  abbrev O : Float
  O = round binary32 false (tally uI) (2 ^ 149)

  vO : HasValue O false (tally uI) (2 ^ 149)
  vO = exact I uI (lt_of_le_of_lt (le-add_right (tally uI) (tally uI)) room)

  pO : T (positive O)
  pO = positive_of_value O (tally uI) (2 ^ 149) vO uI.nonzero

  OU : T (le O U)
  OU = subst (λ (z : Float). T (le O z)) (sym U-is) (rounds-order (tally uI) (tally uS - tally uI) (half (tally uS) (tally uI) twice-S))
    where
      half : (c i : ℕ) → i + i ≤ c → i ≤ c - i
      half c i p = omega arith

  pU : T (positive U)
  pU = above-finite U (above_of_le O U pO OU) fU

  uU : Units U
  uU = units-above U (sub-fits binary32 S I) pU

  pub no-larger : T (le I (sub binary32 (add binary32 A B) I))
  no-larger = le_of_values I U (tally uI) (2 ^ 149) (tally uU) (2 ^ 149) (pow_pos 149) (pow_pos 149) uI.value uU.value (mul-le-mul_right (2 ^ 149) (order O U (tally uI) (tally uU) pO pU vO uU.value OU))
