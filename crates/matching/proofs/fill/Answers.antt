-- `matching::fill` meets its contract.
use Rattle.std.proofs.Common.{◌≡◌, arith}
use Rattle.lists.proofs.Tab.{tab-fill}
use Rattle.matching.proofs.fill.Goals as goal

pub loop-j-preserved : goal.loop-j-preserved
loop-j-preserved g c = λ f h. tab-fill f c.value.result c.args.out.now c.loop-j.out c.loop-j.j c.value.result (c.loop-j.invariant f h) (h _ _ (omega arith) c.value.ensures) (omega arith)

pub returns : goal.returns
returns g c = λ f h. let e : c.loop-j.j ≡ c.args.n = omega arith in rw e at (c.loop-j.invariant f h)
