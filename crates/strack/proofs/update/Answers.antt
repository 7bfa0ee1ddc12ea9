-- `strack::update` meets its contract.
use mathlib.Core.Path.{refl, ap, ◌∙◌}
use Rattle.strack.specs.Boxes.{measure_of}
use Rattle.strack.proofs.Laws.{box-is}
use Rattle.strack.proofs.update.Goals as goal

pub returns : goal.returns
returns c =
    let a = c.args in
    box-is a.delta_t a.d a.t _ _ _ _ _ _ _ (c.convert_bbox_to_z-z.ensures ∙ ap measure_of c.from.ensures) c.filter_after.ensures c.no_filter.ensures refl refl c.heading.ensures c.shifted.ensures
