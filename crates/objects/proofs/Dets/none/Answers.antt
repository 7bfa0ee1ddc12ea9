-- `objects::Dets::none` meets its contract.
use Rattle.objects.specs.Dets.{dets_of}
use Rattle.objects.proofs.Dets.none.Goals as goal

pub returns : goal.returns
unfolding dets_of
returns c = rw c.nan.ensures
