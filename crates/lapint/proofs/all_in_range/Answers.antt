-- `lapint::all_in_range` meets its contract.
use mathlib.Core.Path.{sym}
use lib.IntN.{pos}
use lib.ListN.{get_or}
use mir.Syntax.{w64}
use mir.ValLaws.{to_z-of_z}
use native.Mathlib.Omega.{arith}
use Rattle.lapint.proofs.InRange.{one-out}
use Rattle.lapint.proofs.all_in_range.Goals as goal

pub returns-then-not-cost_in_range : goal.returns-then-not-cost_in_range
returns-then-not-cost_in_range c =
    let z = to_z-of_z w64 (get_or c.args.cost.now c.loop-c.c-index (pos 0)) (record { sfits = omega arith }) in
    sym (one-out c.args.cost.now c.loop-c.c-index _ c.loop-c-test.true (rw z at (sym c.if-not-cost_in_range.ensures)))
