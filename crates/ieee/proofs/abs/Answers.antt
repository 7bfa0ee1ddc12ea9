-- `ieee::abs` meets its contract: the value of a pattern without its sign's bit.
use mathlib.Core.Path.{◌≡◌, refl, sym, ap, ◌∙◌, subst}
use Prim.Native.Nat.{ℕ, zero, suc, ◌+◌, ◌-◌, ◌*◌, ◌/◌, ◌%◌, ◌<◌}
use native.Mathlib.Nat.{mod-mod, mod-lt, mul-pos, zero-lt-suc, dvd-mul_right, mod-mod_of_dvd}
use mathlib.Core.Bool.{Bool, true, false, cond}
use lib.Dec.{T, leb, ltb, eqb}
use lib.Arith.{lt→nleb}
use lib.Pow.{pow_pos}
use lib.Ieee.{Float, nan, inf, Format, binary32, prec, low, odd, fits, is_nan, hid, ones, top, of_fields, of_bits, to_bits, nan_bits}
use lib.Ieee.Bits.{of_bits-to_bits, is_false, nan_bits_is, nan_bits_above}
use Rattle.ieee.specs.Ops.{abs_of}
use Rattle.ieee.proofs.Nans.{nan_is, no_nan}
use Rattle.ieee.proofs.Values.{of_bits_is}
use Rattle.ieee.proofs.abs.Goals as goal
use Rattle.ieee.proofs.abs.Goals.{Start}

-- ---- the sign bit cleared
abs-odd : (d : ℕ) (s : Bool) (q k l : ℕ) → abs_of (odd d s q k l) ≡ odd d false q k l
unfolding odd abs_of
abs-odd d s zero k l = refl
abs-odd d s (suc q) k l = refl

abs-cond : (a b s : Bool) (u v : Float) → abs_of u ≡ v → abs_of (cond a (cond b (inf s) nan) u) ≡ cond a (cond b (inf false) nan) v
unfolding abs_of
abs-cond true true s u v h = refl
abs-cond true false s u v h = refl
abs-cond false b s u v h = h

abs-fields : (f : Format) (s : Bool) (x t : ℕ) → abs_of (of_fields f s x t) ≡ of_fields f false x t
unfolding of_fields
abs-fields f s zero t = abs-odd (prec f) s t 0 (low f)
abs-fields f s (suc x) t = abs-cond (eqb (suc x) (ones f)) (eqb t 0) s (odd (prec f) s (hid f + t) x (low f)) (odd (prec f) false (hid f + t) x (low f)) (abs-odd (prec f) s (hid f + t) x (low f))

top_pos : (f : Format) → 0 < top f
top_pos f = mul-pos (pow_pos (prec f - 1)) (zero-lt-suc (ones f))

abs-bits : (f : Format) (x : Float) → T (fits f x) → of_bits f (to_bits f x % top f) ≡ abs_of x
abs-bits f x p =
    let b = to_bits f x in
    let z : abs_of x ≡ of_fields f false (b % top f / hid f) (b % hid f) = ap abs_of (sym (of_bits-to_bits f x p) ∙ of_bits_is f b) ∙ abs-fields f (leb (top f) b) (b % top f / hid f) (b % hid f) in
    let r : of_fields f (leb (top f) (b % top f)) (b % top f % top f / hid f) (b % top f % hid f) ≡ of_fields f false (b % top f / hid f) (b % hid f) =
    rw (is_false (leb (top f) (b % top f)) (lt→nleb (top f) (b % top f) (mod-lt b (top_pos f))), mod-mod b (top f), mod-mod_of_dvd (hid f) b (dvd-mul_right (hid f) (suc (ones f)))) in
    of_bits_is f (b % top f) ∙ r ∙ sym z

abs-no-nan : (f : Format) (x : Float) → T (fits f x) → is_nan x ≡ false → nan_bits f (to_bits f x % top f) ≡ false
abs-no-nan f x p h =
    nan_bits_above f (to_bits f x % top f)
    ∙ ap (ltb (ones f * hid f)) (mod-mod (to_bits f x) (top f))
    ∙ sym (nan_bits_above f (to_bits f x))
    ∙ nan_bits_is f (to_bits f x)
    ∙ ap is_nan (of_bits-to_bits f x p)
    ∙ h

nan-stays : (x : Float) → x ≡ nan → x ≡ abs_of x
unfolding abs_of
nan-stays x h = rw h

-- ---- the code
held : (c : Start) → T (fits binary32 c.args.x)
held c = subst T (sym c.well_formed.0.1) tt

pub returns-then-is_nan : goal.returns-then-is_nan
returns-then-is_nan c =
    let x = c.args.x in
    nan-stays x (nan_is x (sym c.is_nan.ensures ∙ c.if-is_nan.true))

pub float_to_bits-result : goal.float_to_bits-result
float_to_bits-result c = no_nan c.args.x (sym c.is_nan.ensures ∙ c.if-is_nan.false)

pub returns : goal.returns
returns c = abs-bits binary32 c.args.x (held c.before.before)

pub float_from_bits-result : goal.float_from_bits-result
float_from_bits-result c =
    let x = c.args.x in
    rw (abs-no-nan binary32 x (held c.before.before) (sym c.is_nan.ensures ∙ c.if-is_nan.false)) tt
