-- The arc cosine by Abramowitz and Stegun 4.4.46, in f32: document 01, "Stand-ins". Definitions only.
use Rattle.std.specs.Prelude.{Bool, true, false, cond, ◌&&◌, List, [], ◌∷◌, ℕ, ◌+◌, ◌-◌, ◌*◌, ◌/◌, ◌%◌, ◌^◌, eqb, ltb, Float}
use Rattle.std.specs.Float.{binary32}
use Rattle.std.specs.Float.Ieee.{low, add, sub, mul, neg, lt, round, to_bits, top}
use Rattle.ieee.specs.Ops.{f32, π}
use Rattle.ieee.specs.Patterns.{pattern_units}
use Rattle.ieee.specs.Sqrt.{sqrt_of}

-- ---- the coefficients

-- a decimal of ten places: whether it is negative, and its digits without the point
pub record Decimal : Type 0 where
  pub negative : Bool
  pub digits : ℕ

abbrev pub plus : ℕ → Decimal
plus n = record { negative = false; digits = n }

abbrev pub minus : ℕ → Decimal
minus n = record { negative = true; digits = n }

-- "1.5707963050, -0.2145988016, .. (constant first)"
abbrev pub coefficients : List Decimal
coefficients = plus 15707963050 ∷ minus 2145988016 ∷ plus 889789874 ∷ minus 501743046 ∷ plus 308918810 ∷ minus 170881256 ∷ plus 66700901 ∷ minus 12624911 ∷ []

-- "each the nearest f32": n / 10 ^ 10, rounded
unfoldable pub nearest_to : Decimal → Float
unfolding round
nearest_to d = round binary32 d.negative d.digits (10 ^ 10)

-- ---- that these are the nearest, by distances, with the decimals' signs

-- how far the value of the pattern b lies from n / 10 ^ 10: both as whole numbers, times 2 ^ 149 * 10 ^ 10
abbrev pub distance : ℕ → ℕ → ℕ
distance n b = let v = pattern_units binary32 b * 10 ^ 10 in let d = n * 2 ^ low binary32 in (v - d) + (d - v)

-- the pattern b is strictly nearer than the one before and the one after it, so than every other
abbrev pub nearest_pattern : ℕ → ℕ → Bool
nearest_pattern n b = ltb (distance n b) (distance n (b - 1)) && ltb (distance n b) (distance n (b + 1))

-- a coefficient has its decimal's sign, in its highest bit, and the nearest pattern below that
abbrev pub is_nearest : Decimal → Bool
is_nearest d = let b = to_bits binary32 (nearest_to d) in eqb (b / top binary32) (cond d.negative 1 0) && nearest_pattern d.digits (b % top binary32)

-- ---- the function

-- the polynomial in c: the rest of it times c, plus the constant
unfoldable pub horner : Float → List Decimal → Float
unfolding nearest_to add mul
horner c [] = f32 0
horner c (a ∷ []) = nearest_to a
horner c (a ∷ b ∷ bs) = add binary32 (mul binary32 (horner c (b ∷ bs)) c) (nearest_to a)

-- "For c >= 0, sqrt(1-c) times the Horner polynomial in c"
unfoldable pub acos_upper : Float → Float
unfolding sqrt_of horner sub mul
acos_upper c = mul binary32 (sqrt_of (sub binary32 (f32 0x3f800000) c)) (horner c coefficients)

-- "For c < 0, pi minus the value at -c. NaN gives NaN", as it does through every operation.
unfoldable pub acos_of : Float → Float
unfolding acos_upper sub neg lt
acos_of c = cond (lt c (f32 0)) (sub binary32 π (acos_upper (neg c))) (acos_upper c)
