-- `oc_sort_tracker::new` meets its contract.
use Rattle.oc_sort_tracker.specs.New.{defaults}
use Rattle.oc_sort_tracker.proofs.new.Goals as goal

pub returns : goal.returns
unfolding defaults
returns c = c.with_settings.ensures
