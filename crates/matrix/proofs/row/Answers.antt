-- `matrix::row` meets its contract.
use borrow.Author.Rules.{rules}
use Prim.Native.Nat.{◌<◌}
use native.Mathlib.Omega.{arith}
use mathlib.Core.Path.{◌≡◌, ap, ◌∙◌}
use lib.ListN.{length, length-replicate}
use lib.Ieee.{nan}
use Rattle.lists.proofs.Each.{tab-each}
use Rattle.matrix.specs.Matrix.{entry_of}
use Rattle.matrix.proofs.Rows.{gathered, first-term, more-terms}
use Rattle.matrix.proofs.row.Goals as goal

pub loop-l-init : goal.loop-l-init
loop-l-init g c =
    let a = c.args in
    record {
      some = omega arith;
      so_far = tab-each nan _ _ g.row.M (search rules) (λ j h.
          let e = c.set_each.ensures j (rw length-replicate h) in
          let t = first-term a.k g.row.M a.a.now a.b.now a.i j in
          search rules);
    }

pub loop-l-preserved : goal.loop-l-preserved
loop-l-preserved g c =
    let a = c.args in
    let l = c.loop-l in
    let m = g.row.M in
    record {
      some = omega arith;
      so_far = tab-each nan _ _ m (search rules) (λ j h.
          let within : j < length l.row = omega arith in
          let e = c.set_each-in-loop-l.ensures j within in
          let t = more-terms a.k m a.a.now a.b.now a.i l.row l.l j l.invariant.some l.invariant.so_far h in
          search rules);
    }

pub returns : goal.returns
unfolding entry_of
returns g c =
    let a = c.args in
    let e : c.loop-l.l ≡ a.k = omega arith in
    c.loop-l.invariant.so_far ∙ ap (gathered a.k g.row.M a.a.now a.b.now a.i) e
