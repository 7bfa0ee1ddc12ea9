-- `matrix::product` meets its contract.
use Prim.Native.Nat.{ℕ, ◌*◌, ◌/◌, ◌%◌}
use native.Mathlib.Nat.{zero-mul}
use native.Mathlib.Omega.{arith}
use mathlib.Core.Path.{◌≡◌, ap, ◌∙◌}
use Rattle.lists.specs.Lists.{tab}
use Rattle.lists.proofs.Fill.{filled_none, filled-all}
use Rattle.matrix.specs.Matrix.{entry_of, product}
use Rattle.matrix.proofs.Rows.{row_inside, row-places, filled_row}
use Rattle.matrix.proofs.product.Goals as goal

pub loop-i-init : goal.loop-i-init
loop-i-init g c = rw zero-mul (filled_none _ _)

pub loop-i-preserved : goal.loop-i-preserved
loop-i-preserved g c =
    let a = c.args in
    let l = c.loop-i in
    let m = g.row.M in
    filled_row (λ q. entry_of a.k m a.a.now a.b.now (q / m) (q % m)) a.out.now l.out _ l.i m l.invariant
    (omega (arith, row_inside a.n m l.i c.loop-i-test.true, c.requires.room))
    (c.copy_from_slice.ensures.after ∙ (c.row-row.ensures ∙ row-places a.k m a.a.now a.b.now l.i))

pub returns : goal.returns
unfolding product
returns g c =
    let l = c.loop-i in
    let e : l.i ≡ c.args.n = omega arith in
    filled-all _ _ _ _ l.invariant (omega (arith, l.invariant.same, c.requires.room, ap (λ (x : ℕ). x * g.row.M) e)) ∙ ap (tab _) c.requires.room
