-- `from_image::kept_at` meets its contract.
use Rattle.std.specs.Prelude.{None}
use borrow.Author.Rules.{rules}
use mathlib.Core.Path.{refl}
use Prim.Native.Nat.{◌+◌, ◌*◌}
use native.Mathlib.Omega.{arith}
use lib.ListN.{get_or}
use Rattle.lists.proofs.Tab.{tab-fill}
use Rattle.image.specs.Image.{box_at}
use Rattle.from_image.proofs.Reading.{tab-all}
use Rattle.from_image.proofs.kept_at.Goals as goal

pub loop-j-init : goal.loop-j-init
loop-j-init c = refl

pub loop-j-preserved : goal.loop-j-preserved
loop-j-preserved c =
    let l = c.loop-j in
    tab-fill _ None _ l.out l.j _ l.invariant c.box_at.ensures (search rules)

pub returns : goal.returns
returns c =
    let l = c.loop-j in
    let a = c.args in
    tab-all (λ i. box_at (get_or a.words.now (a.w + i) 0) a.floats.now (a.f + 5 * i)) _ l.out l.j 8 l.invariant (omega arith) (search rules)
