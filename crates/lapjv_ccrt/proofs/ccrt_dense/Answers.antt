-- `lapjv_ccrt::ccrt_dense` meets its contract.
use mathlib.Core.Bool.{true}
use Rattle.lapjv_walk.proofs.Fill.{take-fill}
use Rattle.lapjv_ccrt.proofs.ccrt_dense.Goals as goal

pub ccrt_in-requires : goal.ccrt_in-requires
ccrt_in-requires g c = let p = c.requires in (p.0, p.1, take-fill true 64 c.args.n p.0.most, p.2, p.3, p.4, p.5)
