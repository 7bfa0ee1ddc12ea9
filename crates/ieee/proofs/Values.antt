-- Values and their patterns: the pattern is a function of the sign and the magnitude in units of the format's smallest value, so equal ones have equal values; and what a pattern's fields are worth.
-- Assumes nothing.
use mathlib.Core.Path.{◌≡◌, refl, sym, ap, ◌∙◌, subst}
use Prim.Native.Nat.{ℕ, zero, suc, ◌+◌, ◌-◌, ◌*◌, ◌/◌, ◌%◌, ◌^◌, ◌≤◌, ◌<◌}
use native.Mathlib.Nat.{le_trans, le_of_eq, le_antisymm, lt_of_lt_of_le, lt_of_not-le, lt_irrefl, mul-div_cancel, mul_assoc, mul_right_comm, mul-le-mul_right, mul-one, mod-eq_of_lt}
use native.Mathlib.Omega.{arith}
use mathlib.Core.Bool.{Bool, false, cond}
use lib.IntN.{ℤ}
use lib.Dec.{T, leb, eqb, eqb→eq, not_T}
use lib.Arith.{lt→nleb}
use lib.Pow.{pow_pos, pow-add, pow_mono, shl_lt}
use lib.Ieee.{Float, nan, inf, fin, Format, binary32, binary64, prec, low, up, down, size, odd, fits, hid, ones, top, of_fields, of_bits, to_bits}
use lib.Ieee.Digits.{size-lt, size-le}
use lib.Ieee.Fits.{down_pos}
use lib.Ieee.Exact.{HasValue, odd_sign}
use lib.Ieee.Bits.{of_bits-to_bits, is_false, cond_no}
use Rattle.ieee.specs.Patterns.{field_units, pattern_units}
use Rattle.ieee.specs.Sqrt.{magnitude}

-- ---- one magnitude, one pattern

-- the pattern of a units of the smallest value, with the sign s
unfoldable pub pattern : Format → Bool → ℕ → ℕ
pattern f s a = cond s (top f) 0 + (size a - prec f) * hid f + a / 2 ^ (size a - prec f)

pub to_bits-pattern : (f : Format) (x : Float) (s : Bool) (a : ℕ) → HasValue x s a (2 ^ low f) → to_bits f x ≡ pattern f s a
unfolding to_bits pattern
to_bits-pattern f nan s a v = absurd v
to_bits-pattern f (inf t) s a v = absurd v
to_bits-pattern f (fin t m e) s a v =
    let n : m * up e * 2 ^ low f / down e ≡ a = ap (λ (z : ℕ). z / down e) v.1 ∙ mul-div_cancel a (down_pos e) in
    ap (λ (z : ℕ). cond t (top f) 0 + (size z - prec f) * hid f + z / 2 ^ (size z - prec f)) n ∙ ap (λ (b : Bool). pattern f b a) v.0

pub same-magnitude : (s : Bool) (m n : ℕ) (d e : ℤ) → T (fits binary32 (fin s m d)) → T (fits binary32 (fin s n e)) → magnitude (fin s m d) ≡ magnitude (fin s n e) → fin s m d ≡ fin s n e
unfolding to_bits
same-magnitude s m n d e p q h =
    sym (of_bits-to_bits binary32 (fin s m d) p) ∙ ap (λ (z : ℕ). of_bits binary32 (cond s (2 ^ 31) 0 + (size z - 24) * 2 ^ 23 + z / 2 ^ (size z - 24))) h ∙ of_bits-to_bits binary32 (fin s n e) q

-- a / 2 ^ 149 has the magnitude a
pub magnitude-of : (x : Float) (s : Bool) (a : ℕ) → HasValue x s a (2 ^ 149) → magnitude x ≡ a
magnitude-of nan s a v = absurd v
magnitude-of (inf t) s a v = absurd v
magnitude-of (fin t m e) s a v = ap (λ (z : ℕ). z / down e) v.1 ∙ mul-div_cancel a (down_pos e)

pub same_value : (f : Format) (x y : Float) (s : Bool) (a : ℕ) → T (fits f x) → T (fits f y) → HasValue x s a (2 ^ low f) → HasValue y s a (2 ^ low f) → x ≡ y
same_value f x y s a p q v w = sym (of_bits-to_bits f x p) ∙ ap (of_bits f) (to_bits-pattern f x s a v ∙ sym (to_bits-pattern f y s a w)) ∙ of_bits-to_bits f y q

-- a value in smaller units
pub finer : (x : Float) (s : Bool) (a c k : ℕ) → HasValue x s a c → HasValue x s (a * k) (c * k)
finer nan s a c k v = v
finer (inf t) s a c k v = v
finer (fin t m e) s a c k v = (v.0, sym (mul_assoc (m * up e) c k) ∙ ap (λ (z : ℕ). z * k) v.1 ∙ mul_right_comm a (down e) k)

-- ---- the pattern of q * 2 ^ k units, where q has all its digits
pub size_exact : (a n : ℕ) → 2 ^ a ≤ n → n < 2 ^ suc a → size n ≡ suc a
size_exact a n lo hi = le_antisymm (size-le n (suc a) hi) (lt_of_not-le (λ (g : size n ≤ a). lt_irrefl n (lt_of_lt_of_le (size-lt n) (le_trans (pow_mono g) lo))))

pub pattern-is : (f : Format) (s : Bool) (q k : ℕ) → hid f ≤ q → q < 2 ^ prec f → pattern f s (q * 2 ^ k) ≡ cond s (top f) 0 + k * hid f + q
unfolding pattern
pattern-is f s q k lo hi =
    let a = q * 2 ^ k in
    let z : size a - prec f ≡ k = ap (λ (x : ℕ). x - prec f) (size_exact (prec f - 1 + k) a (le_trans (le_of_eq (pow-add 2 (prec f - 1) k)) (mul-le-mul_right (2 ^ k) lo)) (subst (λ (x : ℕ). a < 2 ^ x) (one_more f k) (shl_lt (prec f) k hi))) ∙ off f k in
    ap (λ (j : ℕ). cond s (top f) 0 + j * hid f + a / 2 ^ j) z ∙ ap (λ (x : ℕ). cond s (top f) 0 + k * hid f + x) (mul-div_cancel q (pow_pos k))
  where
    one_more : (f : Format) (k : ℕ) → prec f + k ≡ suc (prec f - 1 + k)
    one_more binary32 k = omega arith
    one_more binary64 k = omega arith

    off : (f : Format) (k : ℕ) → suc (prec f - 1 + k) - prec f ≡ k
    off binary32 k = omega arith
    off binary64 k = omega arith

-- ---- what a pattern's three fields are worth
pub of_bits_is : (f : Format) (b : ℕ) → of_bits f b ≡ of_fields f (leb (top f) b) (b % top f / hid f) (b % hid f)
unfolding of_bits
of_bits_is f b = refl

pub fields_value : (f : Format) (s : Bool) (x t : ℕ) → x < ones f → HasValue (of_fields f s x t) s (field_units f x t) (2 ^ low f)
unfolding of_fields
fields_value f s zero t h = subst (λ (a : ℕ). HasValue (odd (prec f) s t 0 (low f)) s a (2 ^ low f)) (mul-one t) (odd_sign (prec f) s t 0 (low f))
fields_value f s (suc x) t h =
    subst (λ (v : Float). HasValue v s ((hid f + t) * 2 ^ x) (2 ^ low f)) (sym (cond_no (eqb (suc x) (ones f)) (cond (eqb t 0) (inf s) nan) (odd (prec f) s (hid f + t) x (low f)) (not_T (eqb (suc x) (ones f)) (λ g. no (suc x) (ones f) h (eqb→eq (suc x) (ones f) g)))))
    (odd_sign (prec f) s (hid f + t) x (low f))
  where
    no : (a b : ℕ) → a < b → a ≡ b → ⊥
    no a b l e = omega arith

pub pattern-value : (b : ℕ) → b < 0x7f80_0000 → HasValue (of_bits binary32 b) false (pattern_units binary32 b) (2 ^ 149)
pattern-value b h =
    let low' : b < 2 ^ 31 = omega arith in
    let e : of_bits binary32 b ≡ of_fields binary32 false (b / 2 ^ 23) (b % 2 ^ 23) =
    of_bits_is binary32 b ∙ ap (λ (s : Bool). of_fields binary32 s (b % 2 ^ 31 / 2 ^ 23) (b % 2 ^ 23)) (is_false (leb (2 ^ 31) b) (lt→nleb (2 ^ 31) b low')) ∙ ap (λ (z : ℕ). of_fields binary32 false (z / 2 ^ 23) (b % 2 ^ 23)) (mod-eq_of_lt low') in
    subst (λ (v : Float). HasValue v false (pattern_units binary32 b) (2 ^ 149)) (sym e) (fields_value binary32 false (b / 2 ^ 23) (b % 2 ^ 23) (omega arith))
