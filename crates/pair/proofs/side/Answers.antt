-- `pair::side` meets its contract.
use Rattle.pair.specs.Overlap.{side_of}
use Rattle.pair.proofs.side.Goals as goal

pub returns : goal.returns
unfolding side_of
returns c = rw (c.max-2.ensures, c.max.ensures, c.min.ensures)
