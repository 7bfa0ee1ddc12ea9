-- `making::with_settings` meets its contract.
use mathlib.Core.Path.{◌∙◌}
use Rattle.making.proofs.Begins.{begins-as, good_tag, bad_tag}
use Rattle.making.proofs.with_settings.Goals as goal

pub returns-in-Ok : goal.returns-in-Ok
returns-in-Ok c = begins-as _ _ _ _ _ (good_tag _ _ _ c.in-Ok.ensures c.with_settings.ensures) c.begin.ensures

pub returns-in-Err : goal.returns-in-Err
returns-in-Err c = bad_tag _ _ _ _ c.in-Err.ensures (c.from-in-Err.ensures ∙ c.from.ensures)
