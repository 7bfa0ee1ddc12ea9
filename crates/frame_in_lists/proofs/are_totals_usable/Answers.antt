-- `frame_in_lists::are_totals_usable` meets its contract.
use Rattle.image.specs.Image.{image_of}
use Rattle.frame_in_lists.proofs.Parts.{totals-untagged, totals-tagged}
use Rattle.frame_in_lists.proofs.are_totals_usable.Goals as goal

pub returns-then-not-is_tag : goal.returns-then-not-is_tag
returns-then-not-is_tag c =
    let a = c.args in
    totals-untagged (image_of a.wide.now a.floats.now a.words.now) _ c.is_tag.ensures c.if-not-is_tag.true

pub returns : goal.returns
returns c =
    let a = c.args in
    totals-tagged (image_of a.wide.now a.floats.now a.words.now) _ c.is_tag.ensures c.if-not-is_tag.false _ _ (c.settings_in-s.ensures _) c.are_totals_sound.ensures
