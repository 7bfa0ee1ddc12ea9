-- What the assignment asks of its costs: a type, two operations, three tests and two values. No law of them is asked. Definitions only.
use Rattle.std.specs.Prelude.{Bool, List, ℕ, ◌+◌, ◌*◌, get_or, Float}
use Rattle.std.specs.Float.Ieee as Ieee
use Rattle.std.specs.Float.{binary64, nan}

pub record Ops : Type 1 where
  pub C : Type 0
  pub add : C → C → C
  pub sub : C → C → C
  pub lt : C → C → Bool
  pub le : C → C → Bool
  pub eq : C → C → Bool
  -- the start value
  pub large : C
  -- what stands past a list's end; never read
  pub none : C

-- f64; the start value is 1,000,000
abbrev pub floats : Ops
floats = record { C = Float; add = Ieee.add binary64; sub = Ieee.sub binary64; lt = Ieee.lt; le = Ieee.le; eq = Ieee.eq; large = Ieee.of_bits binary64 0x412e_8480_0000_0000; none = nan }

module _ (O : Ops) where
  abbrev pub val_at : List O.C → ℕ → O.C
  val_at d j = get_or d j O.none

  -- the cost of row i at column j, of n rows of n, row after row: every read of the costs is one of these
  abbrev pub cost_at : ℕ → List O.C → ℕ → ℕ → O.C
  cost_at n cost i j = get_or cost (i * n + j) O.none
