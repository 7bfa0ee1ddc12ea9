-- `grants::gather` meets its contract.
use mathlib.Core.Path.{◌≡◌, sym, ap, ◌∙◌}
use mathlib.Core.List.{map}
use Prim.Native.Nat.{◌<◌}
use native.Mathlib.Omega.{arith}
use lib.ListN.{length, get_or, take, length-map}
use Rattle.lists.proofs.All.{all-at}
use Rattle.matching.specs.Associate.{corners_at}
use Rattle.grants.specs.Grants.{boxes_of}
use Rattle.grants.proofs.Known.{at_long}
use Rattle.grants.proofs.Opening.{take-few, gather-turn, gathered-long}
use Rattle.grants.proofs.gather.Goals as goal

pub loop-i-init : goal.loop-i-init
unfolding boxes_of
loop-i-init c = rw c.nan-out.ensures

pub slice_bounds-put_corners-end : goal.slice_bounds-put_corners-end
slice_bounds-put_corners-end c =
    let s = c in
    let l = c.loop-i in
    let n : length s.args.places.at ≡ 64 = at_long s.args.places _ s.well_formed.1.0 in
    let k : length l.out ≡ 256 = ap length l.invariant ∙ gathered-long (map (corners_at s.args.boxes) (take l.i s.args.places.at)) (omega (arith, length-map (take l.i s.args.places.at) (corners_at s.args.boxes), take-few l.i s.args.places.at, l.auto.i-end, s.requires.0)) in
    sym k

pub corners_at-requires : goal.corners_at-requires
corners_at-requires c =
    let s = c in
    let l = c.loop-i in
    let n : length s.args.places.at ≡ 64 = at_long s.args.places _ s.well_formed.1.0 in
    let k : length l.out ≡ 256 = ap length l.invariant ∙ gathered-long (map (corners_at s.args.boxes) (take l.i s.args.places.at)) (omega (arith, length-map (take l.i s.args.places.at) (corners_at s.args.boxes), take-few l.i s.args.places.at, l.auto.i-end, s.requires.0)) in
    let j : get_or s.args.places.at l.i 0 < 64 = all-at (λ j. j < 64) s.args.places.at 0 s.requires.1 l.i (omega (arith, n)) in
    omega arith

pub put_corners-requires : goal.put_corners-requires
put_corners-requires c =
    let s = c in
    let l = c.loop-i in
    let n : length s.args.places.at ≡ 64 = at_long s.args.places _ s.well_formed.1.0 in
    let k : length l.out ≡ 256 = ap length l.invariant ∙ gathered-long (map (corners_at s.args.boxes) (take l.i s.args.places.at)) (omega (arith, length-map (take l.i s.args.places.at) (corners_at s.args.boxes), take-few l.i s.args.places.at, l.auto.i-end, s.requires.0)) in
    (omega arith, omega (arith, k))

pub loop-i-preserved : goal.loop-i-preserved
loop-i-preserved c =
    let s = c in
    let l = c.loop-i in
    let n : length s.args.places.at ≡ 64 = at_long s.args.places _ s.well_formed.1.0 in
    gather-turn (corners_at s.args.boxes) s.args.places.at l.i l.out _ c.corners_at.result l.invariant (omega (arith, n)) (omega arith) c.corners_at.ensures c.put_corners.ensures

pub returns : goal.returns
returns c = let e : c.loop-i.i ≡ c.args.places.n = omega arith in rw e at c.loop-i.invariant
