-- `ieee::normalised` meets its contract. The invariant: m * 2 ^ p stays t * 2 ^ 149. The measure is what m lacks to 2 ^ 23.
use mathlib.Core.Path.{◌≡◌}
use Prim.Native.Nat.{◌-◌, ◌*◌, ◌^◌, ◌≤◌, ◌<◌}
use Rattle.ieee.proofs.normalised.Given as goal

abbrev pub invariant-loop-m : goal.invariant-loop-m
invariant-loop-m l = (l.m * 2 ^ l.p ≡ l.t * 2 ^ 149) × (0 < l.m) × (l.m < 2 ^ 24) × (0 < l.t) × (l.p ≤ 149)

abbrev pub decreases-loop-m : goal.decreases-loop-m
decreases-loop-m l = 2 ^ 23 - l.m
