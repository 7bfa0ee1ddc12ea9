-- `batch::speed_direction_batch` meets its contract.
use Rattle.std.proofs.Common.{◌≡◌, ◌-◌, ◌*◌, length, arith, zero-mul, ap₂}
use Rattle.std.specs.Float.{binary32}
use Rattle.std.specs.Float.Ieee.{Float, add}
use Rattle.object.specs.declared.Detection.{Detection}
use Rattle.matching.specs.Associate.{angle_term}
use Rattle.matching.specs.Cells.{overlap_cells}
use Rattle.matching.specs.Lent.{det_of, step_of, matrix_of}
use Rattle.matching.proofs.Loops.{row_ends}
use Rattle.matching.proofs.Rows.{rows_more, part_at, centred}
use Rattle.batch.proofs.speed_direction_batch.Goals as goal

pub loop-i-init : goal.loop-i-init
loop-i-init c = rw (zero-mul c.args.iou.tracks)

pub combined_row-requires-clause-centred : goal.combined_row-requires-clause-centred
combined_row-requires-clause-centred c = centred c.args.tracks.previous.cells.now c.args.tracks.previous.n _ _ _ _ c.centres.ensures.x c.centres.ensures.y

pub loop-i-preserved : goal.loop-i-preserved
loop-i-preserved c =
    let a = c.args in
    let nt = a.iou.tracks in
    let i = c.loop-i.i in
    rows_more (λ i j. add binary32 (matrix_of a.iou i j) (angle_term a.inertia (det_of a.dets i) (step_of a.tracks j) (det_of a.tracks.previous j))) a.out.now c.loop-i.out _ nt i (length c.loop-i.out - i * nt) _ c.loop-i.invariant (omega arith)
    (rw (← c.requires.tracks) at c.combined_row.ensures)
    (λ j h. ap₂ (λ (o : Float) (d : Detection). add binary32 o (angle_term a.inertia d (step_of a.tracks j) (det_of a.tracks.previous j))) (part_at a.iou.cells.now nt i j (length a.iou.cells.now - i * nt) (omega (arith, row_ends a.iou.objects nt i c.loop-i-test.true, a.iou.fits))) c.get.ensures)

pub returns : goal.returns
unfolding overlap_cells
returns c = let e : c.loop-i.i ≡ c.args.iou.objects = omega arith in rw e at c.loop-i.invariant
