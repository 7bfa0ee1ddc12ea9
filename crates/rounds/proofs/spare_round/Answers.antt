-- `rounds::spare_round` meets its contract.
use Rattle.frame.specs.Objects.{Obj, spare_score}
use Rattle.rounds.proofs.Whole.{few-kept, spares-out, spares-in}
use Rattle.rounds.proofs.spare_round.Goals as goal

pub later_round-byte-requires : goal.later_round-byte-requires
later_round-byte-requires c =
    let s = c in
    (s.requires.0, few-kept s.args.input.now s.requires.1 (λ (o : Obj). spare_score s.args.s o.det.score) c.spare-spares.result c.spare-spares.ensures)

pub returns-then-s : goal.returns-then-s
returns-then-s c =
    let a = c.args in
    spares-in a.s a.input.now a.boxes a.count a.grants c.spare-spares.result c.later_round-byte.result c.if-s.true c.spare-spares.ensures c.later_round-byte.ensures

pub returns : goal.returns
returns c = let a = c.args in spares-out a.s a.input.now a.boxes a.count a.grants c.if-s.false
