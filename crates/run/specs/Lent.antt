-- What a caller learns of `lent::update_in_place`: its own `ensures`, read off as the prover reads it. Definitions only.
use Rattle.std.specs.Prelude.{refl, ℕ, Result}
use base.Logic.{emp}
use contract.Lifetimes.{Lfts}
use denote.Triple.Clauses.{AtExit}
use borrow.Fn.Claims.{AllOf}
use borrow.Fn.World.{World, Pr, ArgsD}
use borrow.Fn.Read.{Read, r_last, no_know, all_models}
use Rattle.lent.specs.contracts.update_in_place as call
use Rattle.object.specs.declared.Refusal.{Refusal}

-- what goes in, and the arguments as the call leaves them
abbrev pub Dens : Lfts 4 → Type 0
Dens κs = ArgsD call.signature κs

abbrev pub Exit : Lfts 4 → Type 0
Exit κs = AtExit call.ended κs

module _ (κs : Lfts 4) (a : Dens κs) (r : Result ℕ Refusal) (e : Exit κs) where
  abbrev ensures : (w : World) → Pr w
  ensures w = (call.clauses w.𝓛 w.𝓜.mem w.𝓡.returns κs a).ensures tt r e

  -- it tells plain facts, the same in every model
  abbrev reading : Read (λ w. emp w.𝓤) no_know ensures
  reading = all_models ensures (λ w. r_last _) (λ w. refl) (λ w. refl) (λ w. refl)

  abbrev pub Learnt : Type 0
  Learnt = AllOf reading.tells
