-- `grants::seat` meets its contract.
use borrow.Author.Rules.{rules}
use mathlib.Core.Path.{◌≡◌}
use native.Mathlib.Omega.{arith}
use lib.IntN.{pos}
use lib.ListN.{get_or}
use mir.Syntax.{w64}
use mir.ValLaws.{to_z-of_z}
use Rattle.lists.proofs.All.{all-at}
use Rattle.matching.specs.Associate.{det_at}
use Rattle.frame.specs.Rounds.{place_of}
use Rattle.grants.specs.Grants.{Names}
use Rattle.grants.proofs.Known.{cells-long}
use Rattle.grants.proofs.Seating.{turn}
use Rattle.grants.proofs.seat.Goals as goal

pub detection_at-d-requires : goal.detection_at-d-requires
detection_at-d-requires c = let s = c in omega (arith, cells-long s.args.dets _ s.well_formed.1.1.0, s.requires.0)

pub grant-requires : goal.grant-requires
grant-requires c =
    let s = c in
    let i = c.loop-i.i in
    rw (to_z-of_z w64 (get_or s.args.marks i (pos 0)) (record { sfits = search rules })) (all-at (Names s.args.places.at 64) s.args.marks (pos 0) s.requires.1 i (omega arith))

pub loop-i-preserved : goal.loop-i-preserved
loop-i-preserved c =
    let s = c in
    let i = c.loop-i.i in
    let z = to_z-of_z w64 (get_or s.args.marks i (pos 0)) (record { sfits = search rules }) in
    turn (place_of s.args.places.at) s.args.marks (det_at s.args.dets.cells) s.args.grants c.loop-i.out c.grant.new.grants i c.detection_at-d.result c.loop-i.invariant c.detection_at-d.ensures (rw z at c.grant.ensures) (omega arith)

pub returns : goal.returns
returns c = let e : c.loop-i.i ≡ c.args.dets.n = omega arith in rw e at c.loop-i.invariant
