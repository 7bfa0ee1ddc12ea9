-- `from_image::track_at` meets its contract.
use Rattle.from_image.proofs.Reading.{track-read}
use Rattle.from_image.proofs.track_at.Goals as goal

pub returns : goal.returns
returns c =
    let a = c.args in
    track-read a.wide.now a.floats.now a.words.now a.k c.filter_at.ensures c.filter_at-2.ensures c.is_set.ensures c.box_at.ensures c.list_at.ensures c.direction_at.ensures c.kept_at.ensures
