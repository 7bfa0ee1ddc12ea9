-- `oc_sort_tracker::update` meets its contract.
use mathlib.Core.Path.{refl, sym, ◌∙◌}
use Rattle.frame.specs.Contract.{call_of}
use Rattle.frame.specs.Frame.{early}
use Rattle.oc_sort_tracker.proofs.Framing.{told-refused, told-accepted, unsound, early-refused, accepted}
use Rattle.oc_sort_tracker.proofs.update.Goals as goal

pub returns-then-not-is_sound : goal.returns-then-not-is_sound
returns-then-not-is_sound c = unsound c.args.t c.args.input.now c.args.boxes.now c.args.ids.now _ (sym c.is_sound.ensures ∙ c.if-not-is_sound.true) c.refused.ensures

pub accepted-requires : goal.accepted-requires
accepted-requires c = ((sym c.is_sound.ensures ∙ c.if-not-is_sound.false), told-accepted (early _ (call_of c.args.input.now c.args.boxes.now c.args.ids.now)) (sym (c.in-Ok.ensures (call_of c.args.input.now c.args.boxes.now c.args.ids.now) refl refl refl)))

pub returns-in-Err : goal.returns-in-Err
returns-in-Err c = early-refused c.args.t c.args.input.now c.args.boxes.now c.args.ids.now _ (sym c.is_sound.ensures ∙ c.if-not-is_sound.false) _ (told-refused (early _ (call_of c.args.input.now c.args.boxes.now c.args.ids.now)) _ (sym (c.in-Err.ensures (call_of c.args.input.now c.args.boxes.now c.args.ids.now) refl refl refl))) c.refused-in-Err.ensures

pub returns-in-Ok : goal.returns-in-Ok
returns-in-Ok c = accepted c.args.t c.args.input.now c.args.boxes.now c.args.ids.now _ (sym c.is_sound.ensures ∙ c.if-not-is_sound.false) (told-accepted (early _ (call_of c.args.input.now c.args.boxes.now c.args.ids.now)) (sym (c.in-Ok.ensures (call_of c.args.input.now c.args.boxes.now c.args.ids.now) refl refl refl))) _ _ c.accepted.ensures
