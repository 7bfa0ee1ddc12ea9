-- `strack::k_previous_obs` meets its contract.
use mathlib.Core.Path.{sym, ◌∙◌}
use Rattle.strack.proofs.Laws.{k-previous-seen, k-previous-none}
use Rattle.strack.proofs.k_previous_obs.Goals as goal

pub returns-then-is_some : goal.returns-then-is_some
returns-then-is_some c = c.find_previous_box.ensures ∙ k-previous-seen _ c.args.t (sym c.is_some.ensures ∙ c.if-is_some.true)

pub returns : goal.returns
returns c = k-previous-none _ c.args.t (sym c.is_some.ensures ∙ c.if-is_some.false)
