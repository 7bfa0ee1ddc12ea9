-- `grants::open_places` meets its contract.
use mathlib.Core.Path.{◌≡◌}
use Rattle.grants.specs.Grants.{open_in, places_of}
use Rattle.grants.proofs.open_places.Given as goal

abbrev pub invariant-loop-j : goal.invariant-loop-j
invariant-loop-j l = l.out ≡ places_of (open_in l.j l.grants)
