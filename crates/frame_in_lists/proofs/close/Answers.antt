-- `frame_in_lists::close` meets its contract.
use Rattle.frame_in_lists.proofs.Parts.{closed_of}
use Rattle.frame_in_lists.proofs.close.Goals as goal

pub returns : goal.returns
returns c = closed_of _ _ _ _ _ c.lengths.ensures c.clear_from.ensures
