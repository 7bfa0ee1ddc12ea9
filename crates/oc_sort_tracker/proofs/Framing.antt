-- The frame call's contract, from whichever test refused it or from the accepted frame. Assumes nothing.
use Rattle.std.specs.Prelude.{Option, Some, None}
use mathlib.Core.Path.{◌≡◌, refl, sym, ap, subst}
use mathlib.Core.Bool.{true, false}
use mathlib.Core.List.{List}
use Prim.Native.Nat.{ℕ}
use native.Mathlib.Omega.{arith}
use lib.Ieee.{Float}
use Rattle.std.specs.Prelude.{Ok, Err}
use Rattle.lists.specs.Lists.{pick}
use Rattle.object.specs.declared.Refusal.{Refusal}
use Rattle.object.specs.declared.Refusal.TheVariants.{UnsoundState}
use Rattle.frame.specs.declared.Tracker.{Tracker}
use Rattle.frame.specs.declared.Answer.{Answer}
use Rattle.frame.specs.State.{state_rules}
use Rattle.frame.specs.Frame.{Call, early, frame_at, accepted_frame, frame_of}
use Rattle.frame.specs.Contract.{call_of, Framed}
use Rattle.frame.proofs.Contract.{framed-by}
use Rattle.rules.specs.Rules.{outcome_at}
use Rattle.settling.specs.Settled.{Answered}
use Rattle.oc_sort_tracker.specs.Refused.{refused_with}

-- ---- what a test's outcome tells

pub told-refused : (o : Option Refusal) (r : Refusal) → outcome_at o ≡ Err r → o ≡ Some r
told-refused None r e = absurd (let z : ◌≡◌ {A = ℕ} 0 1 = cc in omega arith)
told-refused (Some q) r e = ap Some (let z : q ≡ r = cc in z)

pub told-accepted : (o : Option Refusal) → outcome_at o ≡ Ok tt → o ≡ None
told-accepted None e = refl
told-accepted (Some q) e = absurd (let z : ◌≡◌ {A = ℕ} 0 1 = cc in omega arith)

module _ (t : Tracker) (input boxes : List Float) (ids : List ℕ) (r : Answer) where
  abbrev call : Call
  call = call_of input boxes ids

  framed : (boxes' : List Float) (ids' : List ℕ) (o : Option Refusal) → pick (state_rules t) (early t.frames call) (Some UnsoundState) ≡ o → Answered (frame_at t call o) boxes ids r boxes' ids' → Framed t input boxes ids r boxes' ids'
  unfolding frame_of
  framed boxes' ids' o e a =
      let b : Answered (frame_of t call) boxes ids r boxes' ids' = subst (λ (x : Option Refusal). Answered (frame_at t call x) boxes ids r boxes' ids') (sym e) a in
      framed-by t input boxes ids r boxes' ids' b.outcome b.next b.boxes-after b.ids-after

  refused-by : (q : Refusal) → r ≡ refused_with t q → Answered (frame_at t call (Some q)) boxes ids r boxes ids
  refused-by q e = record { outcome = ap (λ (a : Answer). a.outcome) e; next = ap (λ (a : Answer). a.tracker) e; boxes-after = refl; ids-after = refl }

  pub unsound : state_rules t ≡ false → r ≡ refused_with t UnsoundState → Framed t input boxes ids r boxes ids
  unsound h e = framed boxes ids (Some UnsoundState) (rw h) (refused-by UnsoundState e)

  pub early-refused : state_rules t ≡ true → (q : Refusal) → early t.frames call ≡ Some q → r ≡ refused_with t q → Framed t input boxes ids r boxes ids
  early-refused h q k e = framed boxes ids (Some q) (rw h k) (refused-by q e)

  pub accepted : state_rules t ≡ true → early t.frames call ≡ None → (boxes' : List Float) (ids' : List ℕ) → Answered (accepted_frame t input) boxes ids r boxes' ids' → Framed t input boxes ids r boxes' ids'
  accepted h k boxes' ids' a = framed boxes' ids' None (rw h k) a
