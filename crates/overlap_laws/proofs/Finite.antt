-- What a finite result says of its operands, and a value above zero. Assumes nothing.
use mathlib.Core.Path.{◌≡◌, refl}
use mathlib.Core.Logic.{◌⊎◌, inl, inr}
use mathlib.Core.Bool.{Bool, true, false, cond, beq}
use Prim.Native.Nat.{ℕ, zero, suc, ◌*◌, ◌<◌}
use native.Mathlib.Nat.{zero-lt-suc}
use native.Mathlib.Omega.{arith}
use lib.Dec.{T, eqb, ltb→lt, lt→ltb}
use lib.Ieee.{Float, nan, inf, fin, Format, up, down, unlike, add, sub, neg, mul, lt, le, is_nan, of_bits}
use lib.Ieee.Exact.{HasValue}
use lib.Ieee.Positive.{positive, above}
use lib.Ieee.Scale.{finite}
use Rattle.ieee.specs.Ops.{f32}

-- ---- an operation with an infinity is never finite
no-finite : (b s : Bool) → T (finite (cond b (inf s) nan)) → ⊥
no-finite true s h = h
no-finite false s h = h

pub add-finite : (f : Format) (x y : Float) → T (finite (add f x y)) → T (finite x) × T (finite y)
unfolding add
add-finite f nan y h = absurd h
add-finite f (inf s) nan h = absurd h
add-finite f (inf s) (inf t) h = absurd (no-finite (beq s t) s h)
add-finite f (inf s) (fin t n d) h = absurd h
add-finite f (fin s m e) nan h = absurd h
add-finite f (fin s m e) (inf t) h = absurd h
add-finite f (fin s m e) (fin t n d) h = (tt, tt)

neg-finite : (x : Float) → T (finite (neg x)) → T (finite x)
unfolding neg
neg-finite nan h = h
neg-finite (inf s) h = h
neg-finite (fin s m e) h = h

pub sub-finite : (f : Format) (x y : Float) → T (finite (sub f x y)) → T (finite x) × T (finite y)
unfolding sub
sub-finite f x y h = let g = add-finite f x (neg y) h in (g.0, neg-finite y g.1)

no-finite-product : (b s : Bool) → T (finite (cond b nan (inf s))) → ⊥
no-finite-product true s h = h
no-finite-product false s h = h

pub mul-finite : (f : Format) (x y : Float) → T (finite (mul f x y)) → T (finite x) × T (finite y)
unfolding mul
mul-finite f nan y h = absurd h
mul-finite f (inf s) nan h = absurd h
mul-finite f (inf s) (inf t) h = absurd h
mul-finite f (inf s) (fin t n d) h = absurd (no-finite-product (eqb n 0) (unlike s t) h)
mul-finite f (fin s m e) nan h = absurd h
mul-finite f (fin s m e) (inf t) h = absurd (no-finite-product (eqb m 0) (unlike s t) h)
mul-finite f (fin s m e) (fin t n d) h = (tt, tt)

-- ---- above zero
pub above-finite : (x : Float) → T (above x) → T (finite x) → T (positive x)
above-finite nan p q = absurd q
above-finite (inf s) p q = absurd q
above-finite (fin true m e) p q = absurd p
above-finite (fin false m e) p q = p

pub lt-positive : (x : Float) → T (lt (f32 0) x) → T (finite x) → T (positive x)
unfolding lt of_bits
lt-positive nan h f = absurd f
lt-positive (inf s) h f = absurd f
lt-positive (fin true n d) h f = absurd h
lt-positive (fin false zero d) h f = absurd (no (down d) (up d) (ltb→lt (0 * 1 * down d) (0 * up d * 1) h))
  where
    no : (x y : ℕ) → 0 * 1 * x < 0 * y * 1 → ⊥
    no x y h = omega arith
lt-positive (fin false (suc n) d) h f = lt→ltb 0 (suc n) (zero-lt-suc n)

pub lt_above : (x : Float) → T (lt (f32 0) x) → T (positive x) ⊎ (x ≡ inf false)
unfolding lt of_bits
lt_above nan h = absurd h
lt_above (inf true) h = absurd h
lt_above (inf false) h = inr refl
lt_above (fin s m e) h = inl (lt-positive (fin s m e) h tt)

pub sign_clear : (x : Float) (s : Bool) (a l : ℕ) → T (positive x) → HasValue x s a l → HasValue x false a l
sign_clear nan s a l p v = absurd p
sign_clear (inf t) s a l p v = absurd p
sign_clear (fin true m e) s a l p v = absurd p
sign_clear (fin false m e) s a l p v = (refl, v.1)

-- ---- what is at or above something is no NaN
pub number-of-le : (x r : Float) → T (le x r) → is_nan r ≡ false
unfolding le is_nan
number-of-le x (inf s) h = refl
number-of-le x (fin s m e) h = refl
number-of-le nan nan h = absurd h
number-of-le (inf s) nan h = absurd h
number-of-le (fin s m e) nan h = absurd h
