-- `gap::replay` meets its contract.
use Prim.Native.Nat.{◌+◌}
use native.Mathlib.Omega.{arith}
use mathlib.Core.Path.{◌≡◌, ap, sym, ◌∙◌}
use Rattle.kalman_filter.specs.Filter.{update_of}
use Rattle.gap.specs.Line.{box_at}
use Rattle.gap.proofs.Steps.{replay-is}
use Rattle.gap.proofs.VirtualBoxes.{rest, rest_all, turn-between, turn_last, rest-none}
use Rattle.gap.proofs.replay.Goals as goal
use Rattle.gap.proofs.replay.Goals.{then-t-gap, else-t-gap}

pub loop-t-preserved : goal.loop-t-preserved
loop-t-preserved c =
    let gap = c.args.gap in
    let l = c.loop-t in
    let box = box_at c.line_between-l.result in
    let v = c.virtual_box-v in
    let u = c.update-k in
    elim c.if-t-gap.branch [
      | then-t-gap w ↦ turn-between box gap l.t _ l.k u.result c.if-t-gap.k v.result w.if-t-gap.true v.ensures u.ensures (w.k-is ∙ w.predict-k.ensures) l.invariant
      | else-t-gap w ↦ rw w.k-is (turn_last box gap l.t _ l.k u.result v.result (omega arith) v.ensures u.ensures l.invariant)
    ]

pub returns : goal.returns
returns c =
    let a = c.args in
    let l = c.loop-t in
    let box = box_at c.line_between-l.result in
    let e : l.t ≡ a.gap + 1 = omega arith in
    let r : rest box a.gap 1 a.f ≡ l.k = rw e at l.invariant ∙ rest-none box a.gap l.k in
    c.update.ensures
    ∙ (ap (update_of a.to) (sym r ∙ rest_all a.gap a.from a.to _ a.f c.line_between-l.ensures)
    ∙ sym (replay-is a.gap a.from a.to a.f))
