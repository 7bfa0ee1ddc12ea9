-- `from_image::settings_in` meets its contract.
use Rattle.image.specs.Image.{thaw_tracker}
use Rattle.from_image.proofs.settings_in.Goals as goal

pub returns : goal.returns
unfolding thaw_tracker
returns c = λ wide. rw c.is_set.ensures
