-- `rounds::rematched` meets its contract.
use mathlib.Core.Path.{◌≡◌, ap, subst, ◌∙◌}
use mathlib.Core.List.{List}
use Prim.Native.Nat.{ℕ, ◌≤◌}
use native.Mathlib.Omega.{arith}
use lib.IntN.{ℤ}
use lib.ListN.{length}
use Rattle.matching.specs.Associate.{det_at, corners_at, reassociate}
use Rattle.matching.specs.Paired.{Paired}
use Rattle.grants.specs.declared.Places.{Places}
use Rattle.grants.specs.Grants.{open_in}
use Rattle.grants.proofs.Opening.{few, open-below, all-below, places-below, places_count, opened}
use Rattle.rounds.proofs.Tying.{all_named, reassociate-paired, later-is}
use Rattle.rounds.proofs.rematched.Goals as goal

pub gather-targets-requires : goal.gather-targets-requires
gather-targets-requires c =
    let s = c in
    let js = open_in s.args.count s.args.grants in
    rw c.open_places-places.ensures (omega (arith, places_count js, few s.args.grants s.args.count, s.requires.0), places-below js 64 (omega arith) (all-below s.args.count 64 s.requires.0 js (open-below s.args.count s.args.grants)))

pub invariant_of-simple_iou_match-2 : goal.invariant_of-simple_iou_match-2
invariant_of-simple_iou_match-2 c =
    let n : c.open_places-places.result.n ≤ 64 = opened c.args.count c.args.grants c.open_places-places.result c.requires.0 c.open_places-places.ensures in
    record { few = n; fits = omega arith }

pub by_marks-requires : goal.by_marks-requires
by_marks-requires c =
    let s = c in
    let d = s.args.dets in
    let p = c.open_places-places.result in
    let n : p.n ≡ length (open_in s.args.count s.args.grants) = ap (λ (x : Places). x.n) c.open_places-places.ensures ∙ places_count (open_in s.args.count s.args.grants) in
    let ms : List ℤ = reassociate s.args.thr d.n p.n (det_at d.cells) (corners_at c.gather-targets.result) in
    (s.requires.1, all_named s.args.count s.args.grants p d.n ms c.simple_iou_match-marks.result.at s.requires.0 c.open_places-places.ensures c.simple_iou_match-marks.ensures.is (subst (λ (k : ℕ). Paired d.n k ms) n (reassociate-paired s.args.thr d.n p.n (det_at d.cells) (corners_at c.gather-targets.result))))

pub returns : goal.returns
returns c =
    let s = c in
    later-is s.args.thr s.args.boxes c.gather-targets.result s.args.count s.args.dets s.args.grants c.open_places-places.result c.simple_iou_match-marks.result.at c.by_marks.result c.open_places-places.ensures c.gather-targets.ensures c.simple_iou_match-marks.ensures.is c.by_marks.ensures
