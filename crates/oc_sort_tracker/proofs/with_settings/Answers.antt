-- `oc_sort_tracker::with_settings` meets its contract.
use mathlib.Core.Path.{sym, ◌∙◌}
use Rattle.frame.specs.Contract.{made_of}
use Rattle.frame.proofs.Contract.{made_by}
use Rattle.oc_sort_tracker.proofs.with_settings.Goals as goal

pub returns-then-in_range : goal.returns-then-in_range
unfolding made_of
returns-then-in_range c = made_by _ _ (rw (c.empty-tracker.ensures, sym c.in_range.ensures ∙ c.if-in_range.true))

pub returns-else-in_range : goal.returns-else-in_range
unfolding made_of
returns-else-in_range c = made_by _ _ (rw (c.empty-tracker.ensures, sym c.in_range.ensures ∙ c.if-in_range.false))
