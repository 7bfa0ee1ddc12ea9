-- The square root of IEEE 754-2019, 5.4.1, at binary32: `sqrt_of` computes it, and `SquareRoot` says over whole numbers alone that a result is it. Definitions only.
use Rattle.std.specs.Prelude.{◌≡◌, ◌⊎◌, Bool, true, false, cond, ℤ, pos, negsuc, neg_ℤ, ◌+ℤ◌, T, eqb, Float}
use Prim.Native.Nat.{ℕ, ◌+◌, ◌-◌, ◌*◌, ◌/◌, ◌^◌, ◌<◌, compare}
use Rattle.std.specs.Int.Signed.{lt_z}
use Rattle.std.specs.Float.{nan, inf, fin, binary32}
use Rattle.std.specs.Float.Ieee.{prec, low, up, down, size, nearest, units, fits, lt}
use Rattle.std.specs.Float.Ieee.Positive.{positive}
use Rattle.std.specs.Float.Ieee.Scale.{finite}
use Rattle.roots.specs.Roots.{root}

-- ---- the result

-- The magnitude of a finite value in units of 2 ^ -149, binary32's smallest value. Each of binary32's values is a whole number of units, so the division is exact.
abbrev pub magnitude : Float → ℕ
magnitude nan = 0
magnitude (inf s) = 0
magnitude (fin s m e) = m * up e * 2 ^ low binary32 / down e

-- The whole number whose square root is x's root in units: the root of a * 2 ^ -149 is that of a * 2 ^ 149, times 2 ^ -149.
abbrev pub radicand : Float → ℕ
radicand x = magnitude x * 2 ^ low binary32

-- "the nearest f32, ties to even, decided by comparing scaled whole-number squares": the value nearest to the square root of n, in units.
-- Of the root's whole part the format keeps the `prec` leading digits, q, and drops k. The halfway point above is q + 1 / 2 times 2 ^ k; the square of twice that is compared with 4 * n.
unfoldable pub root_rounded : ℕ → Float
unfolding root size units
root_rounded n =
    let w = root n in
    let k = size w - prec binary32 in
    let q = w / 2 ^ k in
    let h = (2 * q + 1) * 2 ^ k in
    units binary32 false (nearest q (compare (4 * n) (h * h))) k

-- "-0 gives -0, plus infinity itself; below zero and NaN give NaN"
unfoldable pub sqrt_of : Float → Float
unfolding root_rounded
sqrt_of nan = nan
sqrt_of (inf s) = cond s nan (inf false)
sqrt_of (fin true m e) = cond (eqb m 0) (fin true m e) nan
sqrt_of (fin false m e) = root_rounded (radicand (fin false m e))

-- ---- what IEEE 754 asks of it

-- a finite value as a whole number of units, with its sign
abbrev pub in_units : Float → ℤ
in_units nan = pos 0
in_units (inf s) = pos 0
in_units (fin s m e) = cond s (neg_ℤ (pos (magnitude (fin s m e)))) (pos (magnitude (fin s m e)))

-- whether a whole number of either sign lies above the square root of n, or below it
abbrev pub Above : ℤ → ℕ → Type 0
Above (pos a) n = n < a * a
Above (negsuc a) n = ⊥

abbrev pub Below : ℤ → ℕ → Type 0
Below (pos a) n = a * a < n
Below (negsuc a) n = Unit {0}

-- r is strictly nearer to the square root of n than y is: the root lies on r's side of the middle of the two.
-- So twice the root, which is the square root of 4 * n, lies on r's side of r + y.
abbrev pub Nearer : ℕ → ℤ → ℤ → Type 0
Nearer n r y = (T (lt_z r y) × Above (r +ℤ y) (4 * n)) ⊎ (T (lt_z y r) × Below (r +ℤ y) (4 * n))

-- r is IEEE 754's square root of x, which is a NaN, a zero, plus infinity, below zero, or finite and above zero.
pub record SquareRoot (x r : Float) : Type 0 where
  -- for those who compute with it
  pub is : r ≡ sqrt_of x
  -- a value of binary32
  pub held : T (fits binary32 r)
  pub of_nan : x ≡ nan → r ≡ nan
  pub of_zero : (s : Bool) → x ≡ fin s 0 (pos 0) → r ≡ x
  pub of_infinity : x ≡ inf false → r ≡ x
  pub below_zero : T (lt x (fin false 0 (pos 0))) → r ≡ nan
  -- of a finite x above zero the root is finite and above zero too,
  pub above_zero : T (positive x) → T (positive r)
  -- and every other finite value y, of either sign, is strictly farther from the exact root, so that no tie comes; an infinity is farther than any finite value
  pub closest : T (positive x) → (y : Float) → T (fits binary32 y) → T (finite y) → (y ≡ r → ⊥) → Nearer (radicand x) (in_units r) (in_units y)
