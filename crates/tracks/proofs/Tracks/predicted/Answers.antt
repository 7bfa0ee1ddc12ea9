-- `tracks::Tracks::predicted` meets its contract.
use mathlib.Core.Path.{◌≡◌, sym, ◌∙◌}
use native.Mathlib.Omega.{arith}
use lib.ListN.{length, take, length-take}
use lib.Seq.{get_or-take}
use Rattle.frame.specs.Frame.{unbroken, predict_tracked}
use Rattle.frame.proofs.Known.{tracker-long}
use Rattle.frame.proofs.Rules.{sound}
use Rattle.tracks.proofs.Table.{passed-room, turn-taken, turn-left}
use Rattle.tracks.proofs.Rules.{can-predict}
use Rattle.tracks.proofs.Tracks.predicted.Goals as goal

pub shared_ref_as_front-e-items : goal.shared_ref_as_front-e-items
shared_ref_as_front-e-items c = omega (arith, (sound c.args.t c.requires).count)

pub predict_one-p-requires : goal.predict_one-p-requires
predict_one-p-requires c =
    let t = c.args.t in
    let l = c.loop-e in
    let s = sound t c.requires in
    let long : length t.table ≡ 64 = tracker-long t _ c.well_formed.0 in
    let n = length-take t.count t.table in
    rw (get_or-take t.count t.table l.e-index _ (omega (arith, n))) (can-predict t l.e-index _ s (omega (arith, n)) (omega (arith, n)))

pub push-requires : goal.push-requires
push-requires c =
    let t = c.args.t in
    let l = c.loop-e in
    passed-room unbroken predict_tracked (take t.count t.table) l.e-index l.out l.invariant (omega (arith, length-take t.count t.table, (sound t c.requires).count))

pub loop-e-preserved : goal.loop-e-preserved
loop-e-preserved c =
    let t = c.args.t in
    let l = c.loop-e in
    let p = c.predict_one-p in
    let u = c.is_unbroken in
    let es = take t.count t.table in
    elim c.if-is_unbroken.branch [
      | goal.then-is_unbroken w ↦ turn-taken unbroken predict_tracked es l.e-index _ l.out c.if-is_unbroken.out p.result l.invariant (omega arith) (omega (arith, length-take t.count t.table, (sound t c.requires).count)) p.ensures (sym u.ensures ∙ w.if-is_unbroken.true) (w.out-is ∙ w.push.ensures)
      | goal.else-is_unbroken w ↦ turn-left unbroken predict_tracked es l.e-index _ l.out c.if-is_unbroken.out p.result l.invariant (omega arith) p.ensures (sym u.ensures ∙ w.if-is_unbroken.false) w.out-is
    ]
