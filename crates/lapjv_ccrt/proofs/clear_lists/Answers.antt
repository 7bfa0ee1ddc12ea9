-- `lapjv_ccrt::clear_lists` meets its contract.
use mathlib.Core.Path.{refl, ◌∙◌}
use native.Mathlib.Omega.{arith}
use Rattle.lists.proofs.Tab.{tab-fill}
use Rattle.lapjv_walk.specs.Marks.{free}
use Rattle.lapjv_ccrt.proofs.clear_lists.Goals as goal

pub loop-i-preserved : goal.loop-i-preserved
loop-i-preserved g c =
    let l = c.loop-i in
    let p = c.requires in
    let h = c.loop-i-test.true in (
      c.clear_mark.ensures ∙ tab-fill _ free _ _ l.i _ l.invariant.0 refl (omega arith),
      tab-fill _ g.C.Cost.on.none _ _ l.i _ l.invariant.1 c.large.ensures (omega arith),
      c.put_mark.ensures ∙ tab-fill _ free _ _ l.i _ l.invariant.2 refl (omega arith),
    )
