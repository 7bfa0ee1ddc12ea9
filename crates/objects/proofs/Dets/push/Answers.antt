-- `objects::Dets::push` meets its contract.
use native.Mathlib.Numerals.{unary_clauses}
use Rattle.objects.specs.Dets.{pushed}
use Rattle.objects.proofs.Dets.push.Goals as goal

pub returns : goal.returns
unfolding pushed
returns c = simp unary_clauses
