-- Document 01, item 2, `ca_dense` and `lapjv`; and what it ends with: rows and columns paired one to one, x and y inverse. Definitions only.
use Rattle.std.specs.Prelude.{◌≡◌, Bool, not, List, ℕ, ◌<◌, eqb, ℤ, pos, length, set}
use Rattle.lapjv_walk.specs.Marks.{index, mark_at, num_at}
use Rattle.lapjv_walk.specs.Ops.{Ops}
use Rattle.lapjv_walk.specs.Loops.{walk, runs}
use Rattle.lapjv_walk.specs.Ccrt.{Kept, ccrt_dense}
use Rattle.lapjv_walk.specs.Carr.{carr_dence}
use Rattle.lapjv_walk.specs.Path.{Route, find_path_dense}

-- each row's column and each column's row
pub record Pairs : Type 0 where
  pub x : List ℤ
  pub y : List ℤ

-- the way back along a path: the row that took a column last, the column that it left, the pairs
pub record Trail : Type 0 where
  pub row : ℕ
  pub j : ℕ
  pub x : List ℤ
  pub y : List ℤ

pub record Ca (C : Type 0) : Type 0 where
  pub x : List ℤ
  pub y : List ℤ
  pub v : List C

unfoldable pub hop_more : ℕ → Trail → Bool
hop_more start s = not (eqb s.row start)

-- the row before column j takes it, and leaves its own
unfoldable pub hop : List ℕ → Trail → Trail
hop pred s =
    let i : ℕ = num_at pred s.j in
    record { row = i; j = index (mark_at s.x i); x = set s.x i (pos s.j); y = set s.y s.j (pos i) }

-- from column j back to the row start, within n turns; n is no row
unfoldable pub augment : ℕ → List ℕ → ℕ → ℕ → List ℤ → List ℤ → Trail
augment n pred start j x y = runs (hop_more start) (hop pred) n (record { row = n; j = j; x = x; y = y })

module _ (O : Ops) (n : ℕ) (cost : List O.C) where
  -- the free row start gets a column
  unfoldable pub ca_step : ℕ → Ca O.C → Ca O.C
  ca_step start s =
      let p : Route O.C = find_path_dense O n cost start s.y s.v in
      let t : Trail = augment n p.pred start (index p.last) s.x s.y in
      record { x = t.x; y = t.y; v = p.v }

  -- the first m rows of those left over
  unfoldable pub ca_dense : ℕ → Kept O.C → Ca O.C
  ca_dense m s = walk (λ r t. ca_step (num_at s.rows r) t) 0 m (record { x = s.x; y = s.y; v = s.v })

  unfoldable pub two_passes : Kept O.C
  two_passes = carr_dence O n cost (carr_dence O n cost (ccrt_dense O n cost))

  unfoldable pub lapjv : Pairs
  lapjv = record { x = (ca_dense two_passes.count two_passes).x; y = (ca_dense two_passes.count two_passes).y }

-- row i has a column, which has row i
pub record Sits (n : ℕ) (x y : List ℤ) (i : ℕ) : Type 0 where
  pub j : ℕ
  pub j_n : j < n
  pub x_is : mark_at x i ≡ pos j
  pub y_is : mark_at y j ≡ pos i

-- rows and columns paired one to one; x and y inverse
pub record OneToOne (n : ℕ) (x y : List ℤ) : Type 0 where
  pub len_x : length x ≡ n
  pub len_y : length y ≡ n
  pub rows : (i : ℕ) → i < n → Sits n x y i
  pub columns : (j : ℕ) → j < n → Sits n y x j
