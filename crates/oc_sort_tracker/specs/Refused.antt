-- The answer to a frame that is refused. Definitions only.
use Rattle.std.specs.Prelude.{Err}
use Rattle.object.specs.declared.Refusal.{Refusal}
use Rattle.frame.specs.declared.Tracker.{Tracker}
use Rattle.frame.specs.declared.Answer.{Answer}

-- why, and the state as it was
abbrev pub refused_with : Tracker → Refusal → Answer
refused_with t r = record { outcome = Err r; tracker = t }
