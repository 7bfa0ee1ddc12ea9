-- `widening::from_subnormal` meets its contract.
use mathlib.Core.Path.{◌∙◌}
use Rattle.widening.proofs.Values.{subnormal-same}
use Rattle.widening.proofs.from_subnormal.Goals as goal

pub returns : goal.returns
returns c = c.from_fields.ensures ∙ subnormal-same c.args.s c.args.t _ _ c.requires.0 c.requires.2 c.normalised-n.ensures
