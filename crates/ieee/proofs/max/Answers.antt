-- `ieee::max` meets its contract: each way returns what the definition picks under the tests that led there.
use mathlib.Core.Path.{sym, ◌∙◌}
use lib.Ieee.{is_nan}
use Rattle.ieee.specs.Ops.{max_of}
use Rattle.ieee.proofs.Nans.{lt-numbers, pick_first}
use Rattle.ieee.proofs.max.Goals as goal

pub returns-then-a-b : goal.returns-then-a-b
unfolding max_of
returns-then-a-b c =
    let h = lt-numbers _ _ c.if-a-b.true in
    simp (h.0, h.1, c.if-a-b.true)

pub returns-then-is_nan : goal.returns-then-is_nan
unfolding max_of
returns-then-is_nan c = simp (sym c.is_nan.ensures ∙ c.if-is_nan.true)

pub returns-else-is_nan : goal.returns-else-is_nan
unfolding max_of
returns-else-is_nan c = pick_first (is_nan c.args.b) _ _ _ _ (sym c.is_nan.ensures ∙ c.if-is_nan.false) c.if-a-b.false
