-- `carr_dence`: a seat, a look at one more column and a turn, each by its cases. Assumes nothing.
use mathlib.Core.Path.{◌≡◌}
use mathlib.Core.Bool.{Bool, false, true}
use mathlib.Core.List.{List}
use Prim.Native.Nat.{◌*◌, ◌+◌, ℕ}
use lib.Dec.{ltb}
use lib.IntN.{pos, ℤ}
use lib.ListN.{get_or, set}
use Rattle.lapjv_walk.specs.Carr.{Carr, carr_pick, carr_seat, carr_step, Two, two, two_step}
use Rattle.lapjv_walk.specs.Marks.{index, is_free}
use Rattle.lapjv_walk.specs.Ops.{cost_at, Ops}

-- ---- a seat by its cases

pub carr≡ : {C : Type 0} {r r' : List ℕ} {a a' b b' t t' : ℕ} {x x' y y' : List ℤ} {v v' : List C} → r ≡ r' → a ≡ a' → b ≡ b' → t ≡ t' → x ≡ x' → y ≡ y' → v ≡ v'
    → ◌≡◌ {A = Carr C} (record { rows = r; current = a; fresh = b; turn = t; x = x; y = y; v = v }) (record { rows = r'; current = a'; fresh = b'; turn = t'; x = x'; y = y'; v = v' })
carr≡ p q s u w z m = λ i. record { rows = p i; current = q i; fresh = s i; turn = u i; x = w i; y = z i; v = m i }

module _ {C : Type 0} (i j : ℕ) (v : List C) (s : Carr C) where
  pub seat-empty : (again : Bool) → is_free (get_or s.y j (pos 0)) ≡ true
      → carr_seat i j again v s ≡ record { rows = s.rows; current = s.current + 1; fresh = s.fresh; turn = s.turn + 1; x = set s.x i (pos j); y = set s.y j (pos i); v = v }
  unfolding carr_seat
  seat-empty again e = rw e

  pub seat-again : (again : Bool) → is_free (get_or s.y j (pos 0)) ≡ false → again ≡ true
      → carr_seat i j again v s ≡ record { rows = set s.rows s.current (index (get_or s.y j (pos 0))); current = s.current; fresh = s.fresh; turn = s.turn + 1; x = set s.x i (pos j); y = set s.y j (pos i); v = v }
  unfolding carr_seat
  seat-again again e f = rw (e, f)

  pub seat-back : (again : Bool) → is_free (get_or s.y j (pos 0)) ≡ false → again ≡ false
      → carr_seat i j again v s ≡ record { rows = set s.rows s.fresh (index (get_or s.y j (pos 0))); current = s.current + 1; fresh = s.fresh + 1; turn = s.turn + 1; x = set s.x i (pos j); y = set s.y j (pos i); v = v }
  unfolding carr_seat
  seat-back again e f = rw (e, f)

-- ---- a turn of the two best by its cases, with the cost r that it read

pub two≡ : {C : Type 0} {a a' : ℕ} {b b' : ℤ} {v v' w w' : C} → a ≡ a' → b ≡ b' → v ≡ v' → w ≡ w' → ◌≡◌ {A = Two C} (record { j1 = a; j2 = b; v1 = v; v2 = w }) (record { j1 = a'; j2 = b'; v1 = v'; v2 = w' })
two≡ p q r s = λ i. record { j1 = p i; j2 = q i; v1 = r i; v2 = s i }

module _ (O : Ops) (n : ℕ) (cost : List O.C) (i : ℕ) (v : List O.C) (j : ℕ) (s : Two O.C) (r : O.C) (er : r ≡ cost_at O n cost i j) where
  pub two-skip : O.lt (O.sub r (get_or v j O.none)) s.v2 ≡ false → two_step O n cost i v j s ≡ s
  unfolding two_step
  two-skip e = rw (← er, e)

  pub two-second : O.lt (O.sub r (get_or v j O.none)) s.v2 ≡ true → O.le s.v1 (O.sub r (get_or v j O.none)) ≡ true
      → two_step O n cost i v j s ≡ record { j1 = s.j1; j2 = pos j; v1 = s.v1; v2 = O.sub r (get_or v j O.none) }
  unfolding two_step
  two-second e f = rw (← er, e, f)

  pub two-first : O.lt (O.sub r (get_or v j O.none)) s.v2 ≡ true → O.le s.v1 (O.sub r (get_or v j O.none)) ≡ false
      → two_step O n cost i v j s ≡ record { j1 = j; j2 = pos s.j1; v1 = O.sub r (get_or v j O.none); v2 = s.v1 }
  unfolding two_step
  two-first e f = rw (← er, e, f)

-- ---- a turn of carr_dence by its cases, with the two best that it found

module _ (O : Ops) (n : ℕ) (cost : List O.C) (s : Carr O.C) (b : Two O.C) (eb : two O n cost (get_or s.rows s.current 0) s.v ≡ b) where
  abbrev low : O.C
  low = O.sub (get_or s.v b.j1 O.none) (O.sub b.v2 b.v1)

  pub carr-lower : ltb (s.turn + 1) ((s.current + 1) * n) ≡ true → O.lt low (get_or s.v b.j1 O.none) ≡ true
      → carr_step O n cost s ≡ carr_seat (get_or s.rows s.current 0) b.j1 true (set s.v b.j1 low) s
  unfolding carr_step carr_pick
  carr-lower e f = rw (eb, e, f)

  pub carr-second : ltb (s.turn + 1) ((s.current + 1) * n) ≡ true → O.lt low (get_or s.v b.j1 O.none) ≡ false → is_free (get_or s.y b.j1 (pos 0)) ≡ false → is_free b.j2 ≡ false
      → carr_step O n cost s ≡ carr_seat (get_or s.rows s.current 0) (index b.j2) false s.v s
  unfolding carr_step carr_pick
  carr-second e f g h = rw (eb, e, f, g, h)

  pub carr-late : ltb (s.turn + 1) ((s.current + 1) * n) ≡ false → carr_step O n cost s ≡ carr_seat (get_or s.rows s.current 0) b.j1 false s.v s
  unfolding carr_step carr_pick
  carr-late e = rw (eb, e)

  pub carr-open : ltb (s.turn + 1) ((s.current + 1) * n) ≡ true → O.lt low (get_or s.v b.j1 O.none) ≡ false → is_free (get_or s.y b.j1 (pos 0)) ≡ true
      → carr_step O n cost s ≡ carr_seat (get_or s.rows s.current 0) b.j1 false s.v s
  unfolding carr_step carr_pick
  carr-open e f g = rw (eb, e, f, g)

  pub carr-alone : ltb (s.turn + 1) ((s.current + 1) * n) ≡ true → O.lt low (get_or s.v b.j1 O.none) ≡ false → is_free (get_or s.y b.j1 (pos 0)) ≡ false → is_free b.j2 ≡ true
      → carr_step O n cost s ≡ carr_seat (get_or s.rows s.current 0) b.j1 false s.v s
  unfolding carr_step carr_pick
  carr-alone e f g h = rw (eb, e, f, g, h)
