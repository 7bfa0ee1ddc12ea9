-- `pair::intersection` meets its contract.
use Rattle.pair.specs.Overlap.{inter_of}
use Rattle.pair.proofs.intersection.Goals as goal

pub returns : goal.returns
unfolding inter_of
returns c = rw (c.side-2.ensures, c.side.ensures)
