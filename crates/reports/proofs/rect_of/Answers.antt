-- `reports::rect_of` meets its contract.
use Rattle.frame.specs.Frame.{report_of}
use Rattle.reports.proofs.rect_of.Goals as goal

pub returns : goal.returns
unfolding report_of
returns c = rw (c.from_xyxy.ensures, c.shown_box-b.ensures)
