-- A seat is taken the same way whatever the prices are. Assumes nothing.
use mathlib.Core.Path.{ap, refl, ◌≡◌}
use mathlib.Core.Bool.{Bool}
use mathlib.Core.List.{List, []}
use Prim.Native.Nat.{ℕ}
use lib.IntN.{ℤ}
use Rattle.lapjv_walk.specs.Carr.{Carr, carr_seat}
use Rattle.lapjv_walk.proofs.Turns.{carr≡}

pub seat-any : {C : Type 0} (i j : ℕ) (again : Bool) (v : List C) (s : Carr C) {r : List ℕ} {a b t : ℕ} {x y : List ℤ}
    → carr_seat {C = Unit} i j again [] (record { rows = s.rows; current = s.current; fresh = s.fresh; turn = s.turn; x = s.x; y = s.y; v = [] }) ≡ record { rows = r; current = a; fresh = b; turn = t; x = x; y = y; v = [] }
    → carr_seat i j again v s ≡ record { rows = r; current = a; fresh = b; turn = t; x = x; y = y; v = v }
unfolding carr_seat
seat-any i j again v s e = carr≡ (ap (λ (z : Carr Unit). z.rows) e) (ap (λ (z : Carr Unit). z.current) e) (ap (λ (z : Carr Unit). z.fresh) e) (ap (λ (z : Carr Unit). z.turn) e) (ap (λ (z : Carr Unit). z.x) e) (ap (λ (z : Carr Unit). z.y) e) refl
