-- `protocol::bits::f64_bits` meets its contract.
use Rattle.std.proofs.Common.{sym, ◌∙◌}
use Rattle.ieee.proofs.Nans.{ne-self, no_nan}
use Rattle.protocol.proofs.bits.f64_bits.Goals as goal

pub float_to_bits-result : goal.float_to_bits-result
float_to_bits-result c = let x = c.args.x in no_nan x (sym (ne-self x) ∙ c.if-x.false)
