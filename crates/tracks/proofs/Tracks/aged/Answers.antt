-- `tracks::Tracks::aged` meets its contract.
use mathlib.Core.Path.{refl, sym, ◌∙◌}
use native.Mathlib.Omega.{arith}
use lib.ListN.{take, length-take}
use Rattle.frame.specs.Frame.{is_young}
use Rattle.tracks.proofs.Table.{passed-room, turn-taken, turn-left}
use Rattle.tracks.proofs.Tracks.aged.Goals as goal

pub push-requires : goal.push-requires
push-requires c =
    let a = c.args in
    let l = c.loop-e in
    passed-room (is_young a.s) (λ e. e) (take a.self.count a.self.table) l.e-index l.out l.invariant (omega (arith, length-take a.self.count a.self.table))

pub loop-e-preserved : goal.loop-e-preserved
loop-e-preserved c =
    let a = c.args in
    let l = c.loop-e in
    let y = c.is_young in
    let es = take a.self.count a.self.table in
    elim c.if-is_young.branch [
      | goal.then-is_young w ↦ turn-taken (is_young a.s) (λ e. e) es l.e-index _ l.out c.if-is_young.out _ l.invariant (omega arith) (omega (arith, length-take a.self.count a.self.table)) refl (sym y.ensures ∙ w.if-is_young.true) (w.out-is ∙ w.push.ensures)
      | goal.else-is_young w ↦ turn-left (is_young a.s) (λ e. e) es l.e-index _ l.out c.if-is_young.out _ l.invariant (omega arith) refl (sym y.ensures ∙ w.if-is_young.false) w.out-is
    ]
