-- `rounds::first_round` meets its contract.
use Rattle.std.specs.Prelude.{Option, None}
use mathlib.Core.Path.{◌≡◌, sym, ap, subst, ◌∙◌}
use mathlib.Core.List.{List}
use Prim.Native.Nat.{ℕ}
use lib.IntN.{ℤ}
use lib.ListN.{length, replicate}
use Rattle.lists.proofs.Tab.{length-tab}
use Rattle.matching.specs.Associate.{det_at, corners_at, step_at, associate}
use Rattle.matching.specs.Paired.{Paired}
use Rattle.grants.specs.Grants.{open_in, places_of}
use Rattle.rounds.proofs.Tying.{all_named, associate-paired, open-all, first-is}
use Rattle.rounds.proofs.Whole.{left-fits}
use Rattle.object.specs.declared.Detection.{Detection}
use Rattle.rounds.proofs.first_round.Goals as goal

pub by_marks-requires : goal.by_marks-requires
by_marks-requires c =
    let s = c in
    let v = s.args.v in
    let d = s.args.dets in
    let n : v.n ≡ length (open_in v.n (replicate 64 None)) = sym (ap length (open-all v.n) ∙ length-tab (λ (j : ℕ). j) v.n) in
    let ms : List ℤ = associate s.args.s.iou_threshold s.args.s.inertia d.n v.n (det_at d.cells) (corners_at v.boxes) (step_at v.directions) (det_at v.previous) in
    (s.requires.1, all_named v.n (replicate 64 None) c.open_places-places.result d.n ms c.associate-marks.result.at s.requires.0 (c.open_places-places.ensures ∙ ap (λ (k : List (Option Detection)). places_of (open_in v.n k)) c.no_grants-none.ensures) c.associate-marks.ensures.is (subst (λ (k : ℕ). Paired d.n k ms) n (associate-paired s.args.s.iou_threshold s.args.s.inertia d.n v.n (det_at d.cells) (corners_at v.boxes) (step_at v.directions) (det_at v.previous))))

pub returns : goal.returns
returns c =
    let s = c in (
      first-is s.args.s s.args.v s.args.dets c.no_grants-none.result c.open_places-places.result c.associate-marks.result.at c.by_marks.result c.no_grants-none.ensures c.open_places-places.ensures c.associate-marks.ensures.is c.by_marks.ensures s.requires.0,
      left-fits c.associate-marks.result.at s.args.dets c.by_marks.result.left c.by_marks.ensures.1 s.requires.1,
    )
