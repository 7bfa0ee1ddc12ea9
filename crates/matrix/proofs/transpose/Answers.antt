-- `matrix::transpose` meets its contract.
use borrow.Author.Rules.{rules}
use Prim.Native.Nat.{ℕ, ◌+◌, ◌*◌, ◌/◌, ◌%◌}
use native.Mathlib.Nat.{zero-mul}
use native.Mathlib.Omega.{arith}
use mathlib.Core.Path.{◌≡◌, ap, ◌∙◌}
use lib.Ieee.{nan}
use lib.ListN.{get_or}
use Rattle.lists.specs.Lists.{tab}
use Rattle.lists.proofs.Fill.{filled_none, filled-all}
use Rattle.lists.proofs.Each.{tab-each}
use Rattle.matrix.specs.Matrix.{transpose}
use Rattle.matrix.proofs.Rows.{row_inside, part_length, column-places, filled_row}
use Rattle.matrix.proofs.transpose.Goals as goal

pub loop-j-init : goal.loop-j-init
loop-j-init c = rw zero-mul (filled_none _ _)

pub loop-j-preserved : goal.loop-j-preserved
loop-j-preserved c =
    let a = c.args in
    let l = c.loop-j in
    let j = l.j-counter in
    let inside = row_inside a.m a.n j c.loop-j-test.true in
    let w = part_length l.out j a.n (omega (arith, inside, l.invariant.same, c.requires.1.1)) in
    filled_row (λ q. get_or a.a.now (q % a.n * a.m + q / a.n) nan) a.out.now l.out _ j a.n l.invariant
    (omega (arith, inside, c.requires.1.1))
    (tab-each nan (λ i. get_or a.a.now (i * a.m + j) nan) _ a.n (c.set_each.auto.out ∙ w) (λ i h. let within = c.set_each.ensures i (rw w h) in search rules)
    ∙ column-places a.n a.m a.a.now j)

pub returns : goal.returns
unfolding transpose
returns c =
    let l = c.loop-j in
    let e : l.j-counter ≡ c.args.m = omega arith in
    filled-all _ _ _ _ l.invariant (omega (arith, l.invariant.same, c.requires.1.1, ap (λ (x : ℕ). x * c.args.n) e)) ∙ ap (tab _) c.requires.1.1
