-- `overlap_laws::overlap_laws` meets its contract.
use Rattle.overlap_laws.proofs.Whole.{laws}
use Rattle.overlap_laws.proofs.overlap_laws.Goals as goal

pub returns : goal.returns
returns c = laws
