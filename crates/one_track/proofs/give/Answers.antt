-- `one_track::give` meets its contract.
use borrow.Author.Rules.{rules}
use Rattle.one_track.proofs.Given.{can-be-given}
use Rattle.one_track.proofs.give.Goals as goal

pub update-track-requires : goal.update-track-requires
update-track-requires c = let g = can-be-given c.args.e c.requires.1 in search rules
