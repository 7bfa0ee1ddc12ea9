-- Document 01, item 2, `carr_dence`: augmenting row reduction. Definitions only.
use Rattle.std.specs.Prelude.{Bool, true, false, not, ◌&&◌, List, ℕ, ◌+◌, ◌*◌, ltb, ℤ, pos, set}
use Rattle.lists.specs.Lists.{pick}
use Rattle.lapjv_walk.specs.Marks.{free, is_free, index, mark_at, num_at}
use Rattle.lapjv_walk.specs.Ops.{Ops, val_at, cost_at}
use Rattle.lapjv_walk.specs.Loops.{walk, runs}
use Rattle.lapjv_walk.specs.Ccrt.{Kept}

-- a row's best column and the second best, free if there is none, with their reduced costs
pub record Two (C : Type 0) : Type 0 where
  pub j1 : ℕ
  pub j2 : ℤ
  pub v1 : C
  pub v2 : C

-- a pass under way: the free rows, the place reached, how many are kept for the next pass, the turns taken, the pairs and the prices
pub record Carr (C : Type 0) : Type 0 where
  pub rows : List ℕ
  pub current : ℕ
  pub fresh : ℕ
  pub turn : ℕ
  pub x : List ℤ
  pub y : List ℤ
  pub v : List C

-- row i takes column j; the row that had it comes next if `again`, else it is kept
unfoldable pub carr_seat : {C : Type 0} → ℕ → ℕ → Bool → List C → Carr C → Carr C
carr_seat i j again v s =
    let out : ℤ = mark_at s.y j in
    let empty : Bool = is_free out in
    record {
      rows = pick empty s.rows (set s.rows (pick again s.current s.fresh) (index out));
      current = pick (not empty && again) s.current (s.current + 1);
      fresh = pick (not empty && not again) (s.fresh + 1) s.fresh;
      turn = s.turn + 1;
      x = set s.x i (pos j);
      y = set s.y j (pos i);
      v = v;
    }

-- another turn follows while free rows are left
unfoldable pub carr_more : {C : Type 0} → ℕ → Carr C → Bool
carr_more count s = ltb s.current count

module _ (O : Ops) (n : ℕ) (cost : List O.C) where
  unfoldable pub two_step : ℕ → List O.C → ℕ → Two O.C → Two O.C
  two_step i v j s =
      let c : O.C = O.sub (cost_at O n cost i j) (val_at O v j) in
      pick (O.lt c s.v2)
      (pick (O.le s.v1 c) (record { j1 = s.j1; j2 = pos j; v1 = s.v1; v2 = c }) (record { j1 = j; j2 = pos s.j1; v1 = c; v2 = s.v1 }))
      s

  unfoldable pub two : ℕ → List O.C → Two O.C
  two i v = walk (two_step i v) 1 n (record { j1 = 0; j2 = free; v1 = O.sub (cost_at O n cost i 0) (val_at O v 0); v2 = O.large })

  -- row i takes its best column at a lower price, or its second best where the best is taken;
  -- from turn (current + 1) * n on, its best column as it is
  unfoldable pub carr_pick : ℕ → Two O.C → Carr O.C → Carr O.C
  carr_pick i b s =
      let j1 : ℕ = b.j1 in
      let lower : O.C = O.sub (val_at O s.v j1) (O.sub b.v2 b.v1) in
      pick (ltb (s.turn + 1) ((s.current + 1) * n))
      (pick (O.lt lower (val_at O s.v j1))
      (carr_seat i j1 true (set s.v j1 lower) s)
      (pick (not (is_free (mark_at s.y j1)) && not (is_free b.j2))
      (carr_seat i (index b.j2) false s.v s)
      (carr_seat i j1 false s.v s)))
      (carr_seat i j1 false s.v s)

  unfoldable pub carr_step : Carr O.C → Carr O.C
  carr_step s = carr_pick (num_at s.rows s.current) (two (num_at s.rows s.current) s.v) s

  -- within count * n turns
  unfoldable pub carr_runs : Kept O.C → Carr O.C
  carr_runs s = runs (carr_more s.count) carr_step (s.count * n) (record { rows = s.rows; current = 0; fresh = 0; turn = 0; x = s.x; y = s.y; v = s.v })

  -- none left over, nothing changes
  unfoldable pub carr_dence : Kept O.C → Kept O.C
  carr_dence s =
      let t : Carr O.C = carr_runs s in
      record { rows = t.rows; count = t.fresh; x = t.x; y = t.y; v = t.v }
