-- `image::is_meant_at` meets its contract.
use mathlib.Core.Path.{sym, ◌∙◌}
use Prim.Native.Nat.{◌+◌, ◌*◌}
use native.Mathlib.Omega.{arith}
use Rattle.image.proofs.Tested.{and-true, tags-turn, tags-done}
use Rattle.image.proofs.is_meant_at.Goals as goal

pub loop-j-init : goal.loop-j-init
loop-j-init c = c.is_tag-ok.ensures ∙ sym (and-true _)

pub loop-j-preserved : goal.loop-j-preserved
loop-j-preserved c =
    let l = c.loop-j in
    tags-turn c.args.words.now (5 + 15 * c.args.k) l.j l.ok _ (omega arith) l.invariant c.is_tag-ok-in-loop-j.ensures

pub returns : goal.returns
returns c =
    let l = c.loop-j in
    tags-done c.args.wide.now c.args.floats.now c.args.words.now c.args.k l.j l.ok (omega arith) l.invariant
