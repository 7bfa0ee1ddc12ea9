-- `host::satinjacks_assign` meets its contract.
use mathlib.Core.Path.{refl, ◌∙◌, ◌≡◌}
use Prim.Native.Nat.{ℕ}
use Rattle.std.specs.Prelude.{Result, Ok, Err}
use Rattle.std.specs.Result.{result_unwrap_or}
use Rattle.object.specs.declared.Refusal.{Refusal}
use Rattle.lapjv.specs.Answer.{reads_of}
use Rattle.host.proofs.satinjacks_assign.Goals as goal

reads : (r : Result ℕ Refusal) → result_unwrap_or r 0 ≡ reads_of r
reads (Ok k) = refl
reads (Err e) = refl

pub returns : goal.returns
returns c = (_, (c.told.ensures, c.unwrap_or.ensures ∙ reads c.lapjv-answer.result, c.lapjv-answer.ensures))
