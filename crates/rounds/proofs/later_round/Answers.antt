-- `rounds::later_round` meets its contract.
use Rattle.rounds.proofs.Whole.{later-nothing}
use Rattle.rounds.proofs.later_round.Goals as goal

pub returns-then-dets-eq0 : goal.returns-then-dets-eq0
returns-then-dets-eq0 c = let a = c.args in later-nothing a.thr a.boxes a.count a.dets a.grants c.if-dets-eq0.true

pub returns : goal.returns
returns c = c.rematched.ensures
