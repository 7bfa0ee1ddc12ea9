-- `object::Rect::get_xyxy` meets its contract.
use Rattle.object.specs.Object.{xyxy_of}
use mathlib.Core.Path.{refl}
use Rattle.object.proofs.Rect.get_xyxy.Goals as goal

pub returns : goal.returns
unfolding xyxy_of
returns c = refl
