-- `objects::detection` meets its contract.
use Rattle.frame.specs.Objects.{detection_at}
use Rattle.objects.proofs.detection.Goals as goal

pub returns : goal.returns
unfolding detection_at
returns c = rw (c.get_prob.ensures, c.get_xyxy-r.ensures, c.get_rect.ensures, c.new-o.ensures, c.new-rect.ensures)
