-- `widening::from_fields` meets its contract.
use Rattle.widening.proofs.Values.{no-nan-bits}
use Rattle.widening.proofs.from_fields.Goals as goal

pub float_from_bits-result : goal.float_from_bits-result
float_from_bits-result c = no-nan-bits c.args.s c.args.e c.args.t c.requires.0 c.requires.1 c.requires.2
