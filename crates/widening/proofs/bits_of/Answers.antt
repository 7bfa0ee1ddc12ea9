-- `widening::bits_of` meets its contract.
use mathlib.Core.Path.{◌≡◌, sym, ap, ◌∙◌}
use lib.Ieee.{Float, nan, binary32, to_bits}
use Rattle.ieee.proofs.Nans.{nan_is, no_nan}
use Rattle.widening.proofs.bits_of.Goals as goal

nan_pattern : (x : Float) → x ≡ nan → 0x7fc0_0000 ≡ to_bits binary32 x
unfolding to_bits
nan_pattern x e = sym (ap (to_bits binary32) e)

pub returns-then-is_nan : goal.returns-then-is_nan
returns-then-is_nan c = nan_pattern c.args.x (nan_is c.args.x (sym c.is_nan.ensures ∙ c.if-is_nan.true))

pub float_to_bits-result : goal.float_to_bits-result
float_to_bits-result c = no_nan c.args.x (sym c.is_nan.ensures ∙ c.if-is_nan.false)
