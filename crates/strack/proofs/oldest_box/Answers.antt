-- `strack::oldest_box` meets its contract.
use mathlib.Core.Path.{◌≡◌, sym, ◌∙◌}
use Prim.Native.Nat.{◌-◌}
use native.Mathlib.Omega.{arith}
use Rattle.strack.proofs.Laws.{oldest-none, oldest-here, oldest-before}
use Rattle.strack.proofs.oldest_box.Goals as goal

pub returns-then-is_some : goal.returns-then-is_some
returns-then-is_some c =
    let l = c.loop-dt in
    sym (l.invariant ∙ oldest-here (l.dt - 1) l.dt c.args.kept (omega arith) (sym c.is_some.ensures ∙ c.if-is_some.true))

pub loop-dt-preserved : goal.loop-dt-preserved
loop-dt-preserved c =
    let l = c.loop-dt in
    l.invariant ∙ oldest-before (l.dt - 1) l.dt c.args.kept (omega arith) (sym c.is_some.ensures ∙ c.if-is_some.false)

pub returns : goal.returns
returns c =
    let l = c.loop-dt in
    let e : l.dt ≡ 0 = omega arith in
    sym (rw e at l.invariant ∙ oldest-none c.args.kept)
