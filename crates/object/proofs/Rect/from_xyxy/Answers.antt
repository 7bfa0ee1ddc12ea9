-- `object::Rect::from_xyxy` meets its contract.
use Rattle.object.specs.Object.{rect_of}
use Rattle.object.proofs.Rect.from_xyxy.Goals as goal

pub returns : goal.returns
unfolding rect_of
returns c = c.new.ensures
