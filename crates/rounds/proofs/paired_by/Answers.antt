-- `rounds::paired_by` meets its contract.
use Rattle.frame.specs.Objects.{Obj, objects_of, first_class, first_score}
use Rattle.frame.specs.Rounds.{rounds}
use Rattle.rounds.proofs.Whole.{rounds-are, few-kept}
use Rattle.rounds.proofs.paired_by.Goals as goal

pub first_round-first-requires : goal.first_round-first-requires
first_round-first-requires c =
    let s = c in
    (s.requires.0, few-kept s.args.input.now s.requires.1 (λ (o : Obj). first_score s.args.s o.det.score) c.first_class-firsts.result c.first_class-firsts.ensures)

pub later_round-last-requires : goal.later_round-last-requires
later_round-last-requires c =
    let s = c in
    (s.requires.0, c.first_round-first.ensures.1 (first_class s.args.s (objects_of s.args.input.now)) c.first_class-firsts.ensures)

pub spare_round-grants-requires : goal.spare_round-grants-requires
spare_round-grants-requires c = c.requires

pub returns : goal.returns
unfolding rounds
returns c =
    let s = c in
    λ vs e.
    rounds-are s.args.s vs s.args.input.now s.args.v
    c.first_class-firsts.result c.first_round-first.result c.later_round-last.result c.spare_round-grants.result
    e c.first_class-firsts.ensures c.first_round-first.ensures.0 c.later_round-last.ensures c.spare_round-grants.ensures
