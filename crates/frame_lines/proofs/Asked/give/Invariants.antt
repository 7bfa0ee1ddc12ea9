use Rattle.std.proofs.Common.{◌≤◌, IfOk}
use Rattle.std.specs.Bool.{OnFalse}
use Rattle.frame_lines.proofs.Asked.give.Given as goal

abbrev pub invariant-loop : goal.invariant-loop
invariant-loop l = IfOk l.left.outcome (λ n. OnFalse l.left.spoiled (n ≤ 64))
