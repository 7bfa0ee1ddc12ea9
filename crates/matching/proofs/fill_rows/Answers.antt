-- `matching::fill_rows` meets its contract.
use Rattle.std.proofs.Common.{◌≡◌, arith, ◌*◌, length, zero-mul, ◌-◌, refl}
use Rattle.matching.proofs.Rows.{rows_more}
use Rattle.matching.proofs.fill_rows.Goals as goal

pub loop-i-init : goal.loop-i-init
loop-i-init g c = λ f h. rw (zero-mul c.args.columns)

pub loop-i-preserved : goal.loop-i-preserved
loop-i-preserved g c = λ f h. rows_more f c.args.out.now c.loop-i.out _ c.args.columns c.loop-i.i-counter (length c.loop-i.out - c.loop-i.i-counter * c.args.columns) (f c.loop-i.i-counter) (c.loop-i.invariant f h) (omega arith) (c.fill.ensures (f c.loop-i.i-counter) (λ j v l e. h _ j v c.loop-i-test.true l e)) (λ j l. refl)

pub returns : goal.returns
returns g c = λ f h. let e : c.loop-i.i-counter ≡ c.args.rows = omega arith in rw e at (c.loop-i.invariant f h)
