-- `tracks::Tracks::born` meets its contract.
use mathlib.Core.Path.{sym, ap, ◌∙◌}
use mathlib.Core.List.{append-nil}
use native.Mathlib.Omega.{arith}
use lib.ListN.{length-take}
use Rattle.matching.specs.Associate.{det_at}
use Rattle.tracks.specs.Tracks.{tracks_of, tracks_in}
use Rattle.tracks.proofs.Table.{born-room, born-turn}
use Rattle.tracks.proofs.Tracks.born.Goals as goal

pub loop-i-init : goal.loop-i-init
loop-i-init c = c.requires.0 ∙ ap tracks_of (sym (append-nil (tracks_in c.args.self)))

pub push-requires : goal.push-requires
push-requires c =
    let a = c.args in
    let l = c.loop-i in
    born-room (tracks_in a.self) a.issued (det_at a.left.cells) l.i l.self l.invariant (omega (arith, length-take a.self.count a.self.table))

pub loop-i-preserved : goal.loop-i-preserved
loop-i-preserved c =
    let a = c.args in
    let l = c.loop-i in
    born-turn (tracks_in a.self) a.issued (det_at a.left.cells) l.i l.self _ c.detection_at-d.result c.birth.result l.invariant (omega (arith, length-take a.self.count a.self.table)) c.detection_at-d.ensures c.birth.ensures c.push.ensures
