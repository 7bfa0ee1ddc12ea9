-- The five classes of bit patterns, IEEE 754-2019, 3.4, and what f32 to f64 makes of each: document 02, 2.10. Definitions only.
use Rattle.std.specs.Prelude.{◌≡◌, ℕ, ◌*◌, ◌/◌, ◌%◌, ◌<◌, Float}
use Rattle.std.specs.Float.{Format, binary32, binary64}
use Rattle.std.specs.Float.Ieee.{of_bits, hid, ones, top}
use Rattle.widening.specs.declared.Class.{Class}
use Rattle.widening.specs.declared.Class.TheVariants.{Zero, Subnormal, Normal, Infinity, NaN}

-- ---- a format's patterns

-- the three fields: "sign S", "biased exponent E", "trailing significand field T"
abbrev pub sign_bit : Format → ℕ → ℕ
sign_bit f b = b / top f

abbrev pub biased_exponent : Format → ℕ → ℕ
biased_exponent f b = b % top f / hid f

abbrev pub trailing_significand : Format → ℕ → ℕ
trailing_significand f b = b % hid f

-- by whether E is 0, all ones or between, and T is 0 or not: the cases e) to a)
abbrev pub InClass : Format → Class → ℕ → Type 0
InClass f Zero b = (biased_exponent f b ≡ 0) × (trailing_significand f b ≡ 0)
InClass f Subnormal b = (biased_exponent f b ≡ 0) × (0 < trailing_significand f b)
InClass f Normal b = (0 < biased_exponent f b) × (biased_exponent f b < ones f)
InClass f Infinity b = (biased_exponent f b ≡ ones f) × (trailing_significand f b ≡ 0)
InClass f NaN b = (biased_exponent f b ≡ ones f) × (0 < trailing_significand f b)

-- the pattern b is in the class c and in no other
pub record ClassOf (f : Format) (b : ℕ) (c : Class) : Type 0 where
  pub has : InClass f c b
  pub alone : (d : Class) → InClass f d b → d ≡ c

-- ---- what widening gives, b being 32 bits and w 64

abbrev pub SameSign : ℕ → ℕ → Type 0
SameSign b w = sign_bit binary64 w ≡ sign_bit binary32 b

-- "zero and infinity their like with the same sign, subnormal and normal a normal f64 of the same value, NaN a NaN"
abbrev pub Gives : Class → ℕ → ℕ → Type 0
Gives Zero b w = InClass binary64 Zero w × SameSign b w
Gives Subnormal b w = InClass binary64 Normal w × SameSign b w × (of_bits binary64 w ≡ of_bits binary32 b)
Gives Normal b w = InClass binary64 Normal w × SameSign b w × (of_bits binary64 w ≡ of_bits binary32 b)
Gives Infinity b w = InClass binary64 Infinity w × SameSign b w
Gives NaN b w = InClass binary64 NaN w

-- "every bit pattern is in exactly one class", and w is what that class gives
pub record Widened (b w : ℕ) : Type 0 where
  pub class : Class
  pub one_class : ClassOf binary32 b class
  pub gives : Gives class b w

-- x widened is r: the same value, and whatever bits stand for x and for r, they are as the class says. A number has one pattern, a NaN many.
pub record ByClass (x r : Float) : Type 0 where
  pub same_value : r ≡ x
  pub by_class : (b w : ℕ) → b < 2 * top binary32 → w < 2 * top binary64 → of_bits binary32 b ≡ x → of_bits binary64 w ≡ r → Widened b w
