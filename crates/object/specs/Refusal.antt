-- Document 01, 'What a call may be told': the number of each refusal. Definitions only.
use Rattle.std.specs.Prelude.{◌≡◌, ℕ, Result, Ok, Err}
use Rattle.object.specs.declared.Refusal.{Refusal}
use Rattle.object.specs.declared.Refusal.TheVariants.{UnsoundState, BadSetting, RaggedFrame, CrowdedFrame, ShortAnswer, RunOver, FullTable, BadMatrix, CostOutOfRange}

abbrev pub number_of : Refusal → ℕ
number_of UnsoundState = 1
number_of BadSetting = 2
number_of RaggedFrame = 3
number_of CrowdedFrame = 4
number_of ShortAnswer = 5
number_of RunOver = 6
number_of FullTable = 7
number_of BadMatrix = 8
-- document 02, 2.3
number_of CostOutOfRange = 12

-- the number that the caller of a call is told: 0 where nothing is refused
abbrev pub told_of : {T : Type 0} → Result T Refusal → ℕ
told_of (Ok x) = 0
told_of (Err r) = number_of r

-- who is told 0 was not turned away: no refusal has that number
abbrev pub NoneIsZero : Type 0
NoneIsZero = (r : Refusal) → number_of r ≡ 0 → ⊥
