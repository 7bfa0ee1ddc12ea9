-- `lapjv::sizes_fit` meets its contract.
use Prim.Native.Nat.{◌*◌}
use borrow.Author.Tests.{eq-eqb, le-ltb, lt-ltb, ne_eqb}
use native.Mathlib.Omega.{arith}
use Rattle.lapjv_walk.proofs.Cells.{cells}
use Rattle.lapjv.proofs.sizes_fit.Goals as goal

pub returns-then-n-eq0 : goal.returns-then-n-eq0
returns-then-n-eq0 c = rw (le-ltb 0 c.args.n (omega arith))

pub returns-then-n-gt64 : goal.returns-then-n-gt64
returns-then-n-gt64 c = rw (lt-ltb 0 c.args.n (omega arith), le-ltb c.args.n 65 (omega arith))

pub overflow_mul-n : goal.overflow_mul-n
overflow_mul-n c = omega (arith, cells c.args.n (omega arith))

pub returns-then-costs-n : goal.returns-then-costs-n
returns-then-costs-n c = let a = c.args in rw (lt-ltb 0 a.n (omega arith), lt-ltb a.n 65 (omega arith), ne_eqb a.costs (a.n * a.n) c.if-costs-n.true)

pub returns-then-rows-n : goal.returns-then-rows-n
returns-then-rows-n c = let a = c.args in rw (lt-ltb 0 a.n (omega arith), lt-ltb a.n 65 (omega arith), eq-eqb a.costs (a.n * a.n) c.if-costs-n.false, ne_eqb a.rows a.n c.if-rows-n.true)

pub returns : goal.returns
returns c = let a = c.args in rw (lt-ltb 0 a.n (omega arith), lt-ltb a.n 65 (omega arith), eq-eqb a.costs (a.n * a.n) c.if-costs-n.false, eq-eqb a.rows a.n c.if-rows-n.false)
