-- `rounds::paired` meets its contract.
use mathlib.Core.List.{map}
use lib.ListN.{take}
use Rattle.frame.specs.Rounds.{rounds}
use Rattle.frame.specs.Frame.{tracked_view}
use Rattle.rounds.proofs.Whole.{few-views}
use Rattle.rounds.proofs.paired.Goals as goal

pub paired_by-requires : goal.paired_by-requires
paired_by-requires c =
    let s = c in
    (few-views (tracked_view s.args.s) s.args.count s.args.table c.all-v.result c.all-v.ensures s.requires.0, s.requires.1)

pub returns : goal.returns
unfolding rounds
returns c =
    let s = c in
    c.paired_by.ensures (map (tracked_view s.args.s) (take s.args.count s.args.table)) c.all-v.ensures
