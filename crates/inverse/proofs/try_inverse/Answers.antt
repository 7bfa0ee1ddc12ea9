-- `inverse::try_inverse` meets its contract.
use native.Mathlib.Omega.{arith}
use mathlib.Core.Path.{◌≡◌, ap, sym, ◌∙◌}
use Rattle.std.specs.Prelude.{Some}
use Rattle.std.specs.Option.{option_map}
use Rattle.inverse.specs.Inverse.{right_half, columns, inverse}
use Rattle.inverse.proofs.Columns.{column-turns, column-ends}
use Rattle.inverse.proofs.try_inverse.Goals as goal

pub returns-then-is_unusable : goal.returns-then-is_unusable
unfolding inverse
returns-then-is_unusable c =
    let l = c.loop-c in
    ap (option_map right_half) (sym (ap (columns 4) (sym c.beside_identity-m.ensures) ∙ column-ends l.c l.m _ c.loop-c-test.true l.invariant (sym c.is_unusable.ensures ∙ c.if-is_unusable.true)))

pub loop-c-preserved : goal.loop-c-preserved
loop-c-preserved c =
    let l = c.loop-c in
    rw c.cleared-m.ensures (column-turns l.c l.m _ l.invariant (sym c.is_unusable.ensures ∙ c.if-is_unusable.false))

pub returns : goal.returns
unfolding inverse
returns c =
    let l = c.loop-c in
    let e : l.c ≡ 4 = omega arith in
    let q : columns 4 c.beside_identity-m.result ≡ Some l.m = rw e at l.invariant in
    rw c.right_half.ensures (ap (option_map right_half) (sym (ap (columns 4) (sym c.beside_identity-m.ensures) ∙ q)))
