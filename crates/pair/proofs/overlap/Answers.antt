-- `pair::overlap` meets its contract.
use Rattle.pair.specs.Overlap.{overlap_of, share_of}
use Rattle.pair.proofs.overlap.Goals as goal

pub returns-then-union : goal.returns-then-union
unfolding overlap_of share_of
returns-then-union c = rw (← c.intersection-inter.ensures, ← c.area.ensures, ← c.area-2.ensures, c.if-union.true)

pub returns : goal.returns
unfolding overlap_of share_of
returns c = rw (← c.intersection-inter.ensures, ← c.area.ensures, ← c.area-2.ensures, c.if-union.false)
