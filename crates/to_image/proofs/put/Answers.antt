-- `to_image::put` meets its contract.
use borrow.Author.Rules.{rules}
use mathlib.Core.Path.{refl}
use native.Mathlib.Omega.{arith}
use Rattle.to_image.proofs.Filling.{filled-turn, written}
use Rattle.frame.proofs.Known.{tracker-long}
use Rattle.to_image.proofs.put.Goals as goal

pub loop-k-init : goal.loop-k-init
loop-k-init c = (tt, refl)

pub loop-k-preserved : goal.loop-k-preserved
loop-k-preserved c =
    let l = c.loop-k in
    let long = tracker-long c.args.t _ c.well_formed.1.1.1.0 in
    let turn = filled-turn _ _ _ c.args.t.table _ l.k (omega (arith, long)) l.invariant.0 l.invariant.1 c.put_track.ensures in
    (turn.0, turn.1)

pub returns : goal.returns
returns c =
    let l = c.loop-k in
    let t = c.args.t in
    let long = c.lengths.ensures in
    written _ c.args.wide.now c.args.words.now c.args.floats.now t l.k _ long.wide long.floats long.words
    (tracker-long t _ c.well_formed.1.1.1.0)
    (search rules)
    c.from.ensures
    l.invariant.0
    l.invariant.1
