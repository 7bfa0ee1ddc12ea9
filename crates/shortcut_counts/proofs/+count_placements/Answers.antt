-- `shortcut_counts::count_placements` meets its contract.
use mathlib.Core.Path.{sym, ap, ◌∙◌}
use Prim.Native.Nat.{ℕ, ◌-◌}
use native.Mathlib.Nat.{add-zero}
use native.Mathlib.Omega.{arith}
use Rattle.shortcut_counts.specs.Placements.{placements}
use Rattle.shortcut_counts.proofs.Placing.{placements-none}
use Rattle.shortcut_counts.proofs.Columns.{few-counted, up_to-few, bit-few, free-turn, used_turn, all-tried}
use Rattle.shortcut_counts.proofs.+count_placements.Goals as goal
use Rattle.shortcut_counts.proofs.+count_placements.Goals.{then-mask-bit-eq0, else-mask-bit-eq0}

pub returns-then-rows-eq0 : goal.returns-then-rows-eq0
returns-then-rows-eq0 t c =
    sym (placements-none c.args.columns c.args.mask) ∙ ap (λ (z : ℕ). placements z c.args.columns c.args.mask) (sym c.if-rows-eq0.true)

pub loop-column-init : goal.loop-column-init
loop-column-init t c =
    c.count_placements-n.ensures ∙ sym (add-zero (placements (c.args.rows - 1) c.args.columns c.args.mask))

pub count_placements-n-requires-then-mask-bit-eq0 : goal.count_placements-n-requires-then-mask-bit-eq0
count_placements-n-requires-then-mask-bit-eq0 t c = omega (arith, c.power_of_two-bit.ensures, bit-few c.loop-column.column (omega arith))

pub overflow_add-n : goal.overflow_add-n
overflow_add-n t c = omega (arith, c.loop-column.invariant, up_to-few (c.args.rows - 1) c.args.columns c.args.mask (omega arith) (omega arith) c.loop-column.column, few-counted (c.args.rows - 1) c.args.columns _ c.count_placements-n-then-mask-bit-eq0.result (omega arith) (omega arith) c.count_placements-n-then-mask-bit-eq0.ensures)

pub loop-column-preserved : goal.loop-column-preserved
loop-column-preserved t c =
    elim c.if-mask-bit-eq0.branch [
      | then-mask-bit-eq0 w ↦ w.n-is ∙ free-turn (c.args.rows - 1) c.args.columns c.args.mask c.loop-column.column c.loop-column.n c.power_of_two-bit.result w.count_placements-n-then-mask-bit-eq0.result c.loop-column.invariant c.power_of_two-bit.ensures w.if-mask-bit-eq0.true w.count_placements-n-then-mask-bit-eq0.ensures
      | else-mask-bit-eq0 w ↦ w.n-is ∙ used_turn (c.args.rows - 1) c.args.columns c.args.mask c.loop-column.column c.loop-column.n c.power_of_two-bit.result c.loop-column.invariant c.power_of_two-bit.ensures w.if-mask-bit-eq0.false
    ]

pub returns : goal.returns
returns t c =
    all-tried c.args.rows c.args.columns c.args.mask c.loop-column.column c.loop-column.n c.if-rows-eq0.false (omega arith) c.loop-column.invariant
