-- A pattern is in one class; and those in NaN's are the NaNs' patterns. Over any format. Assumes nothing.
use mathlib.Core.Path.{◌≡◌, refl, sym, ◌∙◌}
use mathlib.Core.Bool.{Bool, true, false, cond, true≢false}
use Prim.Native.Nat.{ℕ}
use native.Mathlib.Omega.{arith}
use lib.Dec.{eqb}
use lib.Ieee.{Format, binary32, is_nan, nan_bits, of_bits, ones}
use lib.Ieee.Bits.{nan_bits_is}
use borrow.Author.Tests.{eqb-true, eqb-false, eq-eqb, ne_eqb}
use Rattle.widening.specs.declared.Class.{Class}
use Rattle.widening.specs.declared.Class.TheVariants.{Zero, Subnormal, Normal, Infinity, NaN}
use Rattle.widening.specs.Classes.{biased_exponent, trailing_significand, InClass, ClassOf}

module _ (f : Format) (b : ℕ) where
  abbrev exponent : ℕ
  exponent = biased_exponent f b

  abbrev trailing : ℕ
  trailing = trailing_significand f b

  -- the class by tests
  abbrev pub class_by : Class
  class_by = cond (eqb exponent (ones f)) (cond (eqb trailing 0) Infinity NaN) (cond (eqb exponent 0) (cond (eqb trailing 0) Zero Subnormal) Normal)

  class-is : (c : Class) → InClass f c b → class_by ≡ c
  class-is Zero h = rw (ne_eqb exponent (ones f) (omega arith), eq-eqb exponent 0 h.0, eq-eqb trailing 0 h.1)
  class-is Subnormal h = rw (ne_eqb exponent (ones f) (omega arith), eq-eqb exponent 0 h.0, ne_eqb trailing 0 (omega arith))
  class-is Normal h = rw (ne_eqb exponent (ones f) (omega arith), ne_eqb exponent 0 (omega arith))
  class-is Infinity h = rw (eq-eqb exponent (ones f) h.0, eq-eqb trailing 0 h.1)
  class-is NaN h = rw (eq-eqb exponent (ones f) h.0, ne_eqb trailing 0 (omega arith))

  pub one_class : (c : Class) → InClass f c b → ClassOf f b c
  one_class c h = record { has = h; alone = λ d g. sym (class-is d g) ∙ class-is c h }

  -- ---- NaNs
  pub class-nan : InClass f NaN b → is_nan (of_bits f b) ≡ true
  unfolding nan_bits
  class-nan h = sym (nan_bits_is f b) ∙ rw (eq-eqb exponent (ones f) h.0, ne_eqb trailing 0 (omega arith))

  pub nan-class : is_nan (of_bits f b) ≡ true → InClass f NaN b
  unfolding nan_bits
  nan-class h = go (eqb exponent (ones f)) (eqb trailing 0) refl refl (nan_bits_is f b ∙ h)
    where
      go : (x y : Bool) → eqb exponent (ones f) ≡ x → eqb trailing 0 ≡ y → nan_bits f b ≡ true → InClass f NaN b
      go true true p q n = absurd (true≢false (sym n ∙ rw (p, q)))
      go true false p q n = let z = eqb-false trailing 0 q in (eqb-true exponent (ones f) p, omega arith)
      go false y p q n = absurd (true≢false (sym n ∙ rw p))

-- ---- every 32-bit pattern is in a class
pub in-class : (b : ℕ) → InClass binary32 (class_by binary32 b) b
in-class b = go (eqb (exponent binary32 b) 255) (eqb (trailing binary32 b) 0) (eqb (exponent binary32 b) 0) refl refl refl
  where
    go : (x y z : Bool) → eqb (exponent binary32 b) 255 ≡ x → eqb (trailing binary32 b) 0 ≡ y → eqb (exponent binary32 b) 0 ≡ z → InClass binary32 (cond x (cond y Infinity NaN) (cond z (cond y Zero Subnormal) Normal)) b
    go true true z p q r = (eqb-true (exponent binary32 b) 255 p, eqb-true (trailing binary32 b) 0 q)
    go true false z p q r = let n = eqb-false (trailing binary32 b) 0 q in (eqb-true (exponent binary32 b) 255 p, omega arith)
    go false true true p q r = (eqb-true (exponent binary32 b) 0 r, eqb-true (trailing binary32 b) 0 q)
    go false false true p q r = let n = eqb-false (trailing binary32 b) 0 q in (eqb-true (exponent binary32 b) 0 r, omega arith)
    go false y false p q r = let m = eqb-false (exponent binary32 b) 255 p in let n = eqb-false (exponent binary32 b) 0 r in (omega arith, omega arith)
