-- `batch::iou_batch` meets its contract.
use Rattle.std.proofs.Common.{◌≡◌, ◌-◌, ◌*◌, length, arith, zero-mul, ap, ◌∙◌}
use Rattle.object.specs.declared.Corners.{Corners}
use Rattle.object.specs.Object.{corners_of}
use Rattle.pair.specs.Overlap.{overlap_of}
use Rattle.matching.specs.Associate.{overlaps}
use Rattle.matching.specs.Cells.{overlap_cells}
use Rattle.matching.specs.Lent.{det_of, box_of}
use Rattle.matching.proofs.Rows.{rows_more}
use Rattle.batch.proofs.iou_batch.Goals as goal

pub loop-i-init : goal.loop-i-init
loop-i-init c = rw (zero-mul c.args.boxes.n)

pub loop-i-preserved : goal.loop-i-preserved
loop-i-preserved c =
    let m = overlaps (det_of c.args.dets) (box_of c.args.boxes) in
    let nt = c.args.boxes.n in
    let i = c.loop-i.i in
    rows_more m c.args.out.now c.loop-i.out _ nt i (length c.loop-i.out - i * nt) _ c.loop-i.invariant (omega arith) c.overlap_row.ensures (λ j l. ap (λ (d : Corners). overlap_of d (box_of c.args.boxes j)) (c.from.ensures ∙ ap corners_of c.get.ensures))

pub returns : goal.returns
unfolding overlap_cells
returns c = let e : c.loop-i.i ≡ c.args.dets.n = omega arith in rw e at c.loop-i.invariant
