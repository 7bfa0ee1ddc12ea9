-- `roots::root_estimate` meets its contract: no step leaves its type.
use Prim.Native.Nat.{ℕ, ◌+◌, ◌-◌, ◌*◌, ◌/◌, ◌%◌, ◌^◌, ◌≤◌, ◌<◌}
use native.Mathlib.Nat.{mul-le-mul, le_of_lt, mod-lt}
use native.Mathlib.Omega.{arith}
use lib.Dec.{lit<}
use mathlib.Core.Path.{refl}
use lib.ListN.{get_or}
use Rattle.roots.specs.declared.TheConstants.{STEP_RECIPROCALS, STEP_ROOTS}
use Rattle.roots.proofs.Tables.{entry-small}
use Rattle.roots.proofs.root_estimate.Goals as goal

digits : (m r : ℕ) → m < 2 ^ 24 → r < 2 ^ 32 → m * r ≤ 2 ^ 24 * 2 ^ 32
digits m r h k = mul-le-mul (le_of_lt h) (le_of_lt k)

-- ---- the steps, for a u below 2 ^ 27
abbrev bend : ℕ → ℕ
bend u = (281410109672014 - 63332 * u) / 2 ^ 20

square : (u : ℕ) → u < 2 ^ 27 → u * u ≤ 2 ^ 54
square u h = mul-le-mul (le_of_lt h) (le_of_lt h)

bent : (u : ℕ) → u < 2 ^ 27 → u * u / 2 ^ 31 * bend u ≤ 2 ^ 23 * 2 ^ 29
bent u h = let k : bend u ≤ 2 ^ 29 = omega arith in mul-le-mul (less (u * u) (square u h)) k
  where
    less : (s : ℕ) → s ≤ 2 ^ 54 → s / 2 ^ 31 ≤ 2 ^ 23
    less s h = omega arith

abbrev root : ℕ → ℕ
root u = 2147483646 + u / 2 - u * u / 2 ^ 31 * bend u / 2 ^ 31

scaled : (s u : ℕ) → s < 2 ^ 32 → u < 2 ^ 27 → s * root u ≤ 2 ^ 32 * (2 ^ 31 + 2 ^ 26)
scaled s u h k = mul-le-mul (le_of_lt h) (less u (u * u / 2 ^ 31 * bend u / 2 ^ 31) k)
  where
    less : (u x : ℕ) → u < 2 ^ 27 → 2147483646 + u / 2 - x ≤ 2 ^ 31 + 2 ^ 26
    less u x h = omega arith

abbrev place : ℕ → ℕ
place m = m / 2 ^ 18 % 32

abbrev reciprocal : ℕ → ℕ
reciprocal m = get_or STEP_RECIPROCALS (place m) 0

pub overflow_mul-u : goal.overflow_mul-u
overflow_mul-u c = let m = c.args.m in omega (arith, digits m (reciprocal m) c.requires.0 (entry-small STEP_RECIPROCALS (place m) refl))

abbrev u-of : ℕ → ℕ
u-of m = m * reciprocal m % 2 ^ 27

less : (m : ℕ) → u-of m < 2 ^ 27
less m = mod-lt (m * reciprocal m) (lit< tt)

abbrev step-root : ℕ → ℕ → ℕ
step-root m odd = get_or STEP_ROOTS (odd * 32 + place m) 0

whole : (m odd : ℕ) → step-root m odd * root (u-of m) ≤ 2 ^ 32 * (2 ^ 31 + 2 ^ 26)
whole m odd = scaled (step-root m odd) (u-of m) (entry-small STEP_ROOTS (odd * 32 + place m) refl) (less m)

pub overflow_mul-square : goal.overflow_mul-square
overflow_mul-square c = let m = c.args.m in omega (arith, square (u-of m) (less m))

pub overflow_mul-root : goal.overflow_mul-root
overflow_mul-root c = let m = c.args.m in omega (arith, bent (u-of m) (less m))

pub overflow_sub-root : goal.overflow_sub-root
overflow_sub-root c = let m = c.args.m in omega (arith, bent (u-of m) (less m))

pub overflow_mul-result-2 : goal.overflow_mul-result-2
overflow_mul-result-2 c = omega (arith, whole c.args.m c.args.odd)

pub overflow_add-result-2 : goal.overflow_add-result-2
overflow_add-result-2 c = omega (arith, whole c.args.m c.args.odd)

pub returns : goal.returns
returns c = omega (arith, whole c.args.m c.args.odd)
