-- `by_value::satinjacks_update_by_value` meets its contract.
use mathlib.Core.Path.{sym, ◌∙◌}
use Rattle.update_in_lists.proofs.Hosting.{unmeant, replied-as, stopped, stepped}
use Rattle.by_value.proofs.satinjacks_update_by_value.Goals as goal

pub returns-then-not-is_meant : goal.returns-then-not-is_meant
returns-then-not-is_meant c =
    let a = c.args in
    replied-as c.from.ensures (unmeant a.i a.input.now a.boxes.now a.ids.now (sym c.is_meant.ensures ∙ c.if-not-is_meant.true))

pub returns-then-is_err : goal.returns-then-is_err
returns-then-is_err c =
    let a = c.args in
    replied-as c.from-reply.ensures (stopped a.i a.input.now a.boxes.now a.ids.now (sym c.is_meant.ensures ∙ c.if-not-is_meant.false) _ c.thaw-t.ensures _ _ _ c.update-answer.ensures (sym c.is_err.ensures.value ∙ c.if-is_err.true))

pub returns : goal.returns
returns c =
    let a = c.args in
    replied-as c.from-reply.ensures (stepped a.i a.input.now a.boxes.now a.ids.now (sym c.is_meant.ensures ∙ c.if-not-is_meant.false) _ c.thaw-t.ensures _ _ _ c.update-answer.ensures (sym c.is_err.ensures.value ∙ c.if-is_err.false) _ c.freeze-image.ensures)
