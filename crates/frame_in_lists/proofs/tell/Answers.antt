-- `frame_in_lists::tell` meets its contract.
use Rattle.frame_in_lists.proofs.Parts.{told_of}
use Rattle.frame_in_lists.proofs.tell.Goals as goal

pub returns : goal.returns
returns c = told_of _ _ _ _ _ _ _ _ _ _ c.is_reported-reported.ensures c.report_if.ensures
