-- What a bit pattern is worth: IEEE 754-2019, 3.4. Definitions only.
use Rattle.std.specs.Prelude.{◌≡◌, ℕ, zero, suc, ◌+◌, ◌*◌, ◌/◌, ◌%◌, ◌^◌, ◌≤◌, ◌<◌}
use Rattle.std.specs.Float.{Format}
use Rattle.std.specs.Float.Ieee.{hid}

-- the value of an exponent's field and the digits below the leading one, in units of the format's smallest value
abbrev pub field_units : Format → ℕ → ℕ → ℕ
field_units f zero t = t
field_units f (suc x) t = (hid f + t) * 2 ^ x

-- the value of a pattern with the sign clear, below the infinity's
abbrev pub pattern_units : Format → ℕ → ℕ
pattern_units f b = field_units f (b / hid f) (b % hid f)

-- n is m * 2 ^ p, with m's leading digit at place 23; p is in the range that binary32's values, times 2 ^ 149, have
pub record Normalised (n m p : ℕ) : Type 0 where
  pub value : m * 2 ^ p ≡ n
  pub leading : 2 ^ 23 ≤ m
  pub digits : m < 2 ^ 24
  pub least : 24 ≤ p
  pub most : p < 403
