-- `batch::combined_row` meets its contract.
use Rattle.std.proofs.Common.{List, ◌++◌, drop, ap, ◌∙◌}
use Rattle.std.specs.Float.Ieee.{Float}
use Rattle.matching.proofs.Rows.{row-sums}
use Rattle.batch.proofs.combined_row.Goals as goal

pub returns : goal.returns
returns c =
    let a = c.args in
    c.sums.ensures
    ∙ ap (λ (l : List Float). l ++ drop a.tracks.previous.n a.out.now)
    (row-sums a.inertia a.d _ _ a.xs.now a.ys.now a.tracks.directions.now a.tracks.previous.cells.now a.iou.now _ _ a.tracks.previous.n c.requires.centred c.centre-x.ensures c.centre-y.ensures c.cosines.ensures)
