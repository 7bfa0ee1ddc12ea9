-- What holds between the steps of the walk, for any costs: sizes, marks in range, columns told apart, rows that wait. Definitions only.
use Rattle.std.specs.Prelude.{◌≡◌, false, List, ◌⊎◌, ℕ, ◌*◌, ◌≤◌, ◌<◌, ℤ, pos, length}
use Rattle.lapjv_walk.specs.Marks.{free, is_free, index, mark_at, num_at}
use Rattle.lapjv_walk.specs.Ccrt.{Assign, Kept}
use Rattle.lapjv_walk.specs.Path.{Scan}
use Rattle.lapjv_walk.specs.Lapjv.{Sits}

-- costs of n rows of n, n from 1 to 64
pub record Square {C : Type 0} (n : ℕ) (cost : List C) : Type 0 where
  pub some : 0 < n
  pub most : n ≤ 64
  pub len : length cost ≡ n * n

-- n indices below n, no two the same
pub record Apart (n : ℕ) (cols : List ℕ) : Type 0 where
  pub len : length cols ≡ n
  pub below : (i : ℕ) → i < n → num_at cols i < n
  pub inj : (p q : ℕ) → p < n → q < n → num_at cols p ≡ num_at cols q → p ≡ q

-- a mark that is an index below n
pub record Seat (n : ℕ) (m : ℤ) : Type 0 where
  pub at : ℕ
  pub below : at < n
  pub is : m ≡ pos at

-- n marks, each an index below n
pub record Seated (n : ℕ) (y : List ℤ) : Type 0 where
  pub len : length y ≡ n
  pub seat : (j : ℕ) → j < n → Seat n (mark_at y j)

-- n marks, each free or an index below n
pub record Marked (n : ℕ) (y : List ℤ) : Type 0 where
  pub len : length y ≡ n
  pub seat : (j : ℕ) → j < n → is_free (mark_at y j) ≡ false → Seat n (mark_at y j)

-- n marks whose indices are below n
pub record Ranged (n : ℕ) (x : List ℤ) : Type 0 where
  pub len : length x ≡ n
  pub below : (i : ℕ) → i < n → index (mark_at x i) < n

-- ---- `ccrt_dense`, after the columns from `from` on

-- a row's column, at `from` or behind it
pub record SitsFrom (n from : ℕ) (x y : List ℤ) (i : ℕ) : Type 0 where
  pub j : ℕ
  pub j_n : j < n
  pub j_from : from ≤ j
  pub x_is : mark_at x i ≡ pos j
  pub y_is : mark_at y j ≡ pos i

pub record AssignOk (n from : ℕ) (s : Assign) : Type 0 where
  pub len_x : length s.x ≡ n
  pub len_y : length s.y ≡ n
  pub len_u : length s.unique ≡ n
  pub low : (c : ℕ) → c < from → Seat n (mark_at s.y c)
  pub high : (c : ℕ) → c < n → (mark_at s.y c ≡ free) ⊎ Seat n (mark_at s.y c)
  pub y_x : (c i : ℕ) → c < n → from ≤ c → mark_at s.y c ≡ pos i → mark_at s.x i ≡ pos c
  pub x_y : (i : ℕ) → i < n → (mark_at s.x i ≡ free) ⊎ SitsFrom n from s.x s.y i

-- ---- rows that wait for a column

-- each row waits, or sits at a column that names it back; no column names a row that waits; marks are in range
pub record Paired (n : ℕ) (W : ℕ → Type 0) (x y : List ℤ) : Type 0 where
  pub len_x : length x ≡ n
  pub len_y : length y ≡ n
  pub x_marks : (i : ℕ) → i < n → (mark_at x i ≡ free) ⊎ Seat n (mark_at x i)
  pub marks : (j : ℕ) → j < n → (mark_at y j ≡ free) ⊎ Seat n (mark_at y j)
  pub y_x : (j i : ℕ) → j < n → mark_at y j ≡ pos i → (mark_at x i ≡ pos j) × (W i → ⊥)
  pub row : (i : ℕ) → i < n → W i ⊎ Sits n x y i

-- row k stands at a place of A
pub record Waits (A : ℕ → Type 0) (rows : List ℕ) (k : ℕ) : Type 0 where
  pub p : ℕ
  pub act : A p
  pub is : num_at rows p ≡ k

-- the rows at the places A wait, each below n, none twice, and the others sit
pub record Queue (n : ℕ) (A : ℕ → Type 0) (rows : List ℕ) (x y : List ℤ) : Type 0 where
  pub below : (p : ℕ) → A p → num_at rows p < n
  pub inj : (p q : ℕ) → A p → A q → num_at rows p ≡ num_at rows q → p ≡ q
  pub pairs : Paired n (λ k. Waits A rows k) x y

-- between the steps: the rows left over wait
pub record Left (n : ℕ) {C : Type 0} (s : Kept C) : Type 0 where
  pub count_n : s.count ≤ n
  pub len_rows : length s.rows ≡ n
  pub len_v : length s.v ≡ n
  pub queue : Queue n (λ p. p < s.count) s.rows s.x s.y

-- ---- the search for a path

-- lo ≤ hi ≤ n, and the columns before hi are taken
pub record Held (n : ℕ) (y : List ℤ) {C : Type 0} (s : Scan C) : Type 0 where
  pub lo_hi : s.lo ≤ s.hi
  pub hi_n : s.hi ≤ n
  pub len_d : length s.d ≡ n
  pub len_pred : length s.pred ≡ n
  pub apart : Apart n s.cols
  pub held : (q : ℕ) → q < s.hi → Seat n (mark_at y (num_at s.cols q))

-- n different columns are not all taken
abbrev pub Room : ℕ → List ℤ → Type 0
Room n y = (cols : List ℕ) → Apart n cols → ((q : ℕ) → q < n → Seat n (mark_at y (num_at cols q))) → ⊥
