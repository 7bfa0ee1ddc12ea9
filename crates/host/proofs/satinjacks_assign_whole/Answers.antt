-- `host::satinjacks_assign_whole` meets its contract.
use Rattle.host.proofs.satinjacks_assign_whole.Goals as goal

pub returns : goal.returns
returns c = (_, (c.told.ensures, c.lapint.ensures))
