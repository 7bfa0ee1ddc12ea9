-- `protocol::bits::f64_of` meets its contract: the test is the one for a NaN's pattern.
use Rattle.std.proofs.Common.{◌%◌, ◌^◌, sym, refl, ◌∙◌, le-ltb, lt-ltb}
use lib.Ieee.{binary64, of_bits}
use lib.Ieee.Bits.{nan_bits_is, nan_bits_above}
use Rattle.ieee.proofs.Nans.{nan_is, zero_by_zero}
use Rattle.protocol.proofs.bits.f64_of.Goals as goal

pub returns-then-b-gt9218868437227405312 : goal.returns-then-b-gt9218868437227405312
returns-then-b-gt9218868437227405312 c =
    let b = c.args.b in
    zero_by_zero binary64 ∙ sym (nan_is (of_bits binary64 b) (sym (nan_bits_is binary64 b) ∙ nan_bits_above binary64 b ∙ lt-ltb 0x7ff0_0000_0000_0000 (b % 2 ^ 63) c.if-b-gt9218868437227405312.true))

pub float_from_bits-result : goal.float_from_bits-result
float_from_bits-result c =
    let b = c.args.b in
    rw (nan_bits_above binary64 b ∙ le-ltb 0x7ff0_0000_0000_0000 (b % 2 ^ 63) c.if-b-gt9218868437227405312.false) tt

pub returns : goal.returns
returns c = refl
