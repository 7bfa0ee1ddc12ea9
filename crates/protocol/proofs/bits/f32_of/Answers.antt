-- `protocol::bits::f32_of` meets its contract: the test is the one for a NaN's pattern.
use Rattle.std.proofs.Common.{◌%◌, ◌^◌, sym, refl, ◌∙◌, le-ltb, lt-ltb}
use lib.Ieee.{binary32, of_bits}
use lib.Ieee.Bits.{nan_bits_is, nan_bits_above}
use Rattle.ieee.proofs.Nans.{nan_is, zero_by_zero}
use Rattle.protocol.proofs.bits.f32_of.Goals as goal

pub returns-then-b-gt2139095040 : goal.returns-then-b-gt2139095040
returns-then-b-gt2139095040 c =
    let b = c.args.b in
    zero_by_zero binary32 ∙ sym (nan_is (of_bits binary32 b) (sym (nan_bits_is binary32 b) ∙ nan_bits_above binary32 b ∙ lt-ltb 0x7f80_0000 (b % 2 ^ 31) c.if-b-gt2139095040.true))

pub float_from_bits-result : goal.float_from_bits-result
float_from_bits-result c =
    let b = c.args.b in
    rw (nan_bits_above binary32 b ∙ le-ltb 0x7f80_0000 (b % 2 ^ 31) c.if-b-gt2139095040.false) tt

pub returns : goal.returns
returns c = refl
