-- The rounds leave no more objects than came. Assumes nothing.
use mathlib.Core.List.{List, [], ◌∷◌}
use Prim.Native.Nat.{◌+◌, ◌≤◌}
use native.Mathlib.Omega.{arith}
use lib.IntN.{ℤ, pos, negsuc}
use lib.ListN.{length}
use Rattle.lists.proofs.Keep.{keep-short}
use Rattle.frame.specs.declared.Settings.{Settings}
use Rattle.frame.specs.Objects.{Obj, first_score, first_class}
use Rattle.frame.specs.Rounds.{View, unless_taken, left_by, first_marks, first_round, later_marks, later_round, rounds}

unless-few : (m : ℤ) (o : Obj) (os : List Obj) → length (unless_taken m o os) ≤ length os + 1
unless-few (negsuc n) o os = omega arith
unless-few (pos t) o os = omega arith

left-few : (ms : List ℤ) (os : List Obj) → length (left_by ms os) ≤ length os
left-few [] os = omega arith
left-few (m ∷ ms) [] = omega arith
left-few (m ∷ ms) (o ∷ os) = omega (arith, unless-few m o (left_by ms os), left-few ms os)

pub rounds-few : (s : Settings) (vs : List View) (os : List Obj) → length (rounds s vs os).left ≤ length os
unfolding rounds first_round later_round
rounds-few s vs os =
    let w₀ = first_round s vs (first_class s os) in
    omega
    (arith, left-few (later_marks (λ (v : View). v.last) s w₀.slots w₀.left) w₀.left, left-few (first_marks s vs (first_class s os)) (first_class s os), keep-short (λ (o : Obj). first_score s o.det.score) os)
