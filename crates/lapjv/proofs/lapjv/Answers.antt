-- `lapjv::lapjv` meets its contract.
use mathlib.Core.Path.{ap, subst, sym}
use lib.ListN.{length}
use native.Mathlib.Omega.{arith}
use Rattle.lapjv_walk.specs.Lapjv.{OneToOne, Pairs}
use Rattle.lapjv_walk.specs.Ops.{floats}
use Rattle.lapjv_walk.proofs.Fill.{take-fill, take_long}
use Rattle.lapjv_walk.proofs.Most.{reads-most}
use Rattle.lapjv_walk.proofs.Whole.{all_end, one_to_one}
use Rattle.lapjv.proofs.Whole.{fits-sizes}
use Rattle.lapjv.proofs.lapjv.Goals as goal

pub lapjv_own-reads-requires : goal.lapjv_own-reads-requires
lapjv_own-reads-requires c =
    let a = c.args in
    let s = fits-sizes a.n (length a.cost.now) (length a.x.now) (length a.y.now) (sym c.if-not-sizes_fit.ensures) in
    (record { some = s.some; most = s.most; len = s.costs-n }, tt, take-fill 0 64 a.n s.most, take_long _ 64 a.n s.most, omega arith, take_long _ 64 a.n s.most, s.rows-n, s.columns-n)

pub returns : goal.returns
returns c =
    let a = c.args in
    let f = sym c.if-not-sizes_fit.ensures in
    let s = fits-sizes a.n (length a.cost.now) (length a.x.now) (length a.y.now) f in
    let e = c.lapjv_own-reads.ensures in
    record {
      number = rw f;
      rows = rw f (sym (ap (λ (p : Pairs). p.x) e.0));
      columns = rw f (sym (ap (λ (p : Pairs). p.y) e.0));
      one_to_one = λ _. subst (λ (p : Pairs). OneToOne a.n p.x p.y) e.0 (one_to_one floats a.n a.cost.now s.some);
      ends = λ _. all_end floats a.n a.cost.now s.some;
      counted = rw f e.1;
      at_most = rw e.1 (reads-most floats a.n a.cost.now s.some);
    }
