-- What is lent, as the definitions take it. Definitions only.
use Rattle.std.specs.Prelude.{ℕ}
use Rattle.object.specs.declared.Corners.{Corners}
use Rattle.object.specs.declared.Detection.{Detection}
use Rattle.matching.specs.declared.Detections.{Detections}
use Rattle.matching.specs.declared.Boxes.{Boxes}
use Rattle.matching.specs.declared.Motions.{Motions}
use Rattle.matching.specs.declared.Grid.{Grid}
use Rattle.pair.specs.Angle.{Step}
use Rattle.matching.specs.Matching.{Matrix}
use Rattle.matching.specs.Associate.{det_at, corners_at, step_at}
use Rattle.matching.specs.Cells.{entry_at}

abbrev pub det_of : Detections → ℕ → Detection
det_of dets = det_at dets.cells.now

abbrev pub box_of : Boxes → ℕ → Corners
box_of boxes = corners_at boxes.cells.now

abbrev pub step_of : Motions → ℕ → Step
step_of motions = step_at motions.directions.now

-- object i's number with track j
abbrev pub matrix_of : Grid → Matrix
matrix_of grid = entry_at grid.tracks grid.cells.now
