-- The operations that the assignment asks of a type of costs, as `Ops` with that type outside. Definitions only.
use Rattle.std.specs.Prelude.{Bool}
use Rattle.lapjv_walk.specs.Ops.{Ops}

pub record OpsOn (C : Type 0) : Type 0 where
  pub add : C → C → C
  pub sub : C → C → C
  pub lt : C → C → Bool
  pub le : C → C → Bool
  pub eq : C → C → Bool
  pub large : C
  pub none : C

abbrev pub ops : {C : Type 0} → OpsOn C → Ops
ops {C} o = record { C = C; add = o.add; sub = o.sub; lt = o.lt; le = o.le; eq = o.eq; large = o.large; none = o.none }
