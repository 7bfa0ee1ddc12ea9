-- `rules::is_sound` meets its contract.
use mathlib.Core.Path.{sym, ◌∙◌}
use mathlib.Core.Bool.{◌&&◌}
use Prim.Native.Nat.{◌*◌}
use borrow.Author.Tests.{leb-true}
use lib.Dec.{leb}
use Rattle.lapjv_walk.proofs.Cases.{and_right}
use Rattle.frame.specs.State.{in_range, state_rules}
use Rattle.rules.specs.Rules.{total_rules}
use Rattle.rules.proofs.is_sound.Goals as goal

pub returns-else-are_totals_sound : goal.returns-else-are_totals_sound
unfolding state_rules total_rules
returns-else-are_totals_sound c = rw (c.if-are_totals_sound.false, sym c.are_totals_sound.ensures ∙ c.if-are_totals_sound.false)

pub are_sound-requires : goal.are_sound-requires
unfolding total_rules
are_sound-requires c =
    let t = c.args.t in
    leb-true _ _ (and_right (in_range t.settings && leb t.frames 1000000 && leb t.issued (64 * t.frames)) (leb t.count 64) (sym c.are_totals_sound.ensures ∙ c.if-are_totals_sound.true))

pub returns-then-are_totals_sound : goal.returns-then-are_totals_sound
unfolding state_rules total_rules
returns-then-are_totals_sound c = rw (sym c.are_totals_sound.ensures ∙ c.if-are_totals_sound.true) c.are_sound.ensures
