-- `grants::left` meets its contract.
use borrow.Author.Rules.{rules}
use mathlib.Core.Path.{◌≡◌, ap, ◌∙◌}
use mathlib.Core.List.{[]}
use native.Mathlib.Omega.{arith}
use lib.IntN.{pos}
use lib.ListN.{length, get_or}
use mir.Syntax.{w64}
use mir.ValLaws.{to_z-of_z}
use Rattle.objects.specs.declared.Dets.{Dets}
use Rattle.objects.proofs.Pushing.{dets-count}
use Rattle.grants.proofs.Known.{cells-long}
use Rattle.grants.proofs.Leaving.{few, turn, done}
use Rattle.grants.proofs.left.Goals as goal

pub loop-i-init : goal.loop-i-init
loop-i-init c = (rw c.none-out.ensures (omega (arith, dets-count [])), λ os n e. c.none-out.ensures)

pub detection_at-requires : goal.detection_at-requires
detection_at-requires c = let s = c in omega (arith, cells-long s.args.dets _ s.well_formed.1.0, s.requires)

pub push_if-requires : goal.push_if-requires
push_if-requires c = omega (arith, c.loop-i.invariant.0)

pub loop-i-preserved : goal.loop-i-preserved
loop-i-preserved c =
    let s = c in
    let l = c.loop-i in
    let z = to_z-of_z w64 (get_or s.args.marks l.i (pos 0)) (record { sfits = search rules }) in (
      few c.is_free.result l.out c.push_if.new.self c.detection_at.result l.i c.push_if.ensures l.invariant.0,
      λ os n e. turn s.args.marks os l.i s.args.dets.cells l.out c.push_if.new.self c.is_free.result c.detection_at.result e (l.invariant.1 os n e) (rw z at c.is_free.ensures) c.detection_at.ensures c.push_if.ensures (omega (arith, n)) (omega arith) (omega arith),
    )

pub returns : goal.returns
returns c =
    let s = c in
    λ os e.
    let n : s.args.dets.n ≡ length os = ap (λ (x : Dets). x.n) e ∙ dets-count os in
    done s.args.marks os c.loop-i.out c.loop-i.i (c.loop-i.invariant.1 os n (ap (λ (x : Dets). x.cells) e)) (omega (arith, n)) (omega (arith, n))
