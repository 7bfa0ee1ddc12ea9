-- `lapint::lapint` meets its contract.
use mathlib.Core.Path.{ap, subst, sym}
use lib.ListN.{length}
use native.Mathlib.Omega.{arith}
use Rattle.lapjv_walk.specs.Holds.{Square}
use Rattle.lapjv_walk.specs.Lapjv.{OneToOne, Pairs}
use Rattle.lapjv_walk.proofs.Fill.{take-fill, take_long}
use Rattle.lapjv_walk.proofs.Whole.{all_end, one_to_one}
use Rattle.lapint_walk.specs.Cheapest.{Cheapest}
use Rattle.lapint_walk.specs.Wholes.{wholes}
use Rattle.lapint_walk.proofs.Whole.{cheapest}
use Rattle.lapjv.proofs.Whole.{fits-sizes}
use Rattle.lapint.proofs.InRange.{in-range-costs}
use Rattle.lapint.proofs.lapint.Goals as goal

pub lapjv_own-requires : goal.lapjv_own-requires
lapjv_own-requires c =
    let a = c.args in
    let s = fits-sizes a.n (length a.cost.now) (length a.x.now) (length a.y.now) (sym c.if-not-sizes_fit.ensures) in
    let q : Square a.n a.cost.now = record { some = s.some; most = s.most; len = s.costs-n } in
    (q, in-range-costs a.n a.cost.now q (sym c.if-not-all_in_range.ensures), take-fill 0 64 a.n s.most, take_long _ 64 a.n s.most, omega arith, take_long _ 64 a.n s.most, s.rows-n, s.columns-n)

pub returns : goal.returns
returns c =
    let a = c.args in
    let f = sym c.if-not-sizes_fit.ensures in
    let r = sym c.if-not-all_in_range.ensures in
    let s = fits-sizes a.n (length a.cost.now) (length a.x.now) (length a.y.now) f in
    let q : Square a.n a.cost.now = record { some = s.some; most = s.most; len = s.costs-n } in
    let e = c.lapjv_own.ensures.0 in
    record {
      number = rw (f, r);
      rows = rw (f, r) (sym (ap (λ (p : Pairs). p.x) e));
      columns = rw (f, r) (sym (ap (λ (p : Pairs). p.y) e));
      one_to_one = λ _. subst (λ (p : Pairs). OneToOne a.n p.x p.y) e (one_to_one wholes a.n a.cost.now s.some);
      cheapest = λ _. subst (λ (p : Pairs). Cheapest a.n a.cost.now p.x) e (cheapest a.n a.cost.now q (in-range-costs a.n a.cost.now q r));
      ends = λ _. all_end wholes a.n a.cost.now s.some;
    }
