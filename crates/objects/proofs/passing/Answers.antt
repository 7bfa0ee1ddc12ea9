-- `objects::passing` meets its contract.
use mathlib.Core.Path.{◌≡◌, ap, ◌∙◌}
use mathlib.Core.List.{[]}
use Prim.Native.Nat.{◌/◌}
use native.Mathlib.Omega.{arith}
use lib.ListN.{length}
use Rattle.object.specs.declared.Detection.{Detection}
use Rattle.frame.specs.Objects.{Obj, objects_of}
use Rattle.objects.proofs.Pushing.{dets-count, few-pushed, turn}
use Rattle.objects.proofs.passing.Goals as goal

pub loop-p-init : goal.loop-p-init
loop-p-init g c = (c.requires.1, rw c.none-out.ensures (omega (arith, dets-count [])), λ t says. c.none-out.ensures)

pub loop-p-preserved : goal.loop-p-preserved
loop-p-preserved g c =
    let l = c.loop-p in (
      c.requires.1,
      few-pushed _ _ _ _ l.p c.push_if.ensures l.invariant.1,
      λ t says. turn (λ (o : Obj). t o.det.score) c.args.input.now l.p l.out c.push_if.new.self c.detection-o.result c.passes.result
          (l.invariant.2 t says) c.detection-o.ensures (says _ _ c.passes.ensures ∙ ap (λ (d : Detection). t d.score) c.detection-o.ensures) c.push_if.ensures (omega arith),
    )

pub returns : goal.returns
unfolding objects_of
returns g c = λ t says. let e : c.loop-p.p ≡ length c.args.input.now / 5 = omega arith in rw e at c.loop-p.invariant.2 t says
