-- The numbers of refusals. Assumes nothing.
use mathlib.Core.Path.{◌≡◌}
use native.Mathlib.Omega.{arith}
use Rattle.object.specs.Refusal.{number_of}
use Rattle.object.specs.declared.Refusal.{Refusal}
use Rattle.object.specs.declared.Refusal.TheVariants.{UnsoundState, BadSetting, RaggedFrame, CrowdedFrame, ShortAnswer, RunOver, FullTable, BadMatrix, CostOutOfRange}

-- no refusal has number 0
pub nonzero : (r : Refusal) → number_of r ≡ 0 → ⊥
nonzero UnsoundState e = omega (arith, e)
nonzero BadSetting e = omega (arith, e)
nonzero RaggedFrame e = omega (arith, e)
nonzero CrowdedFrame e = omega (arith, e)
nonzero ShortAnswer e = omega (arith, e)
nonzero RunOver e = omega (arith, e)
nonzero FullTable e = omega (arith, e)
nonzero BadMatrix e = omega (arith, e)
nonzero CostOutOfRange e = omega (arith, e)
