-- `frame_in_lists::ahead_at` meets its contract.
use mathlib.Core.Path.{sym, ◌∙◌}
use native.Mathlib.Omega.{arith}
use Rattle.frame_in_lists.proofs.Parts.{test-is, ahead-unusable, can-step, can-follow, ahead-usable}
use Rattle.frame_in_lists.proofs.ahead_at.Goals as goal

pub returns-then-not-is_meant_at-sound : goal.returns-then-not-is_meant_at-sound
returns-then-not-is_meant_at-sound c =
    let is = c.track_at-e.ensures in
    ahead-unusable _ _ _ _ is (sym (test-is _ _ _ _ is _ _ _ (c.settings_in-s.ensures _) c.is_meant_at.ensures c.is_sound_at-sound.ensures) ∙ c.if-not-is_meant_at-sound.true)

pub predict_one-p-requires : goal.predict_one-p-requires
predict_one-p-requires c =
    let is = c.track_at-e.ensures in
    let u = sym (test-is _ _ _ _ is _ _ _ (c.settings_in-s.ensures _) c.is_meant_at.ensures c.is_sound_at-sound.ensures) ∙ c.if-not-is_meant_at-sound.false in
    can-step _ _ _ _ is u c.requires.1

pub overflow_add-result : goal.overflow_add-result
overflow_add-result c =
    let is = c.track_at-e.ensures in
    let u = sym (test-is _ _ _ _ is _ _ _ (c.settings_in-s.ensures _) c.is_meant_at.ensures c.is_sound_at-sound.ensures) ∙ c.if-not-is_meant_at-sound.false in
    omega (arith, can-follow _ _ _ _ is u c.requires.1)

pub returns-then-is_unbroken : goal.returns-then-is_unbroken
returns-then-is_unbroken c =
    let is = c.track_at-e.ensures in
    let u = sym (test-is _ _ _ _ is _ _ _ (c.settings_in-s.ensures _) c.is_meant_at.ensures c.is_sound_at-sound.ensures) ∙ c.if-not-is_meant_at-sound.false in
    ahead-usable _ _ _ _ is u _ _ c.predict_one-p.ensures (sym c.if-is_unbroken.true ∙ c.is_unbroken.ensures)

pub returns-else-is_unbroken : goal.returns-else-is_unbroken
returns-else-is_unbroken c =
    let is = c.track_at-e.ensures in
    let u = sym (test-is _ _ _ _ is _ _ _ (c.settings_in-s.ensures _) c.is_meant_at.ensures c.is_sound_at-sound.ensures) ∙ c.if-not-is_meant_at-sound.false in
    ahead-usable _ _ _ _ is u _ _ c.predict_one-p.ensures (sym c.if-is_unbroken.false ∙ c.is_unbroken.ensures)
