-- Document 01, 'What a call may be told': how an accepted frame's reports stand in the buffers. Definitions only.
use Rattle.std.specs.Prelude.{◌≡◌, Bool, List, ◌++◌, ℕ, ◌+◌, ◌*◌, ltb, Float, length, set, drop}
use Rattle.object.specs.declared.Rect.{Rect}
use Rattle.frame.specs.declared.Tracked.{Tracked}
use Rattle.frame.specs.Frame.{Report, box_cells, id_cells}

-- A run issues fewer than 64,000,000 ids, so the id told, one more, fits.
unfoldable pub low_id : Tracked → Bool
low_id e = ltb e.id 64000000

-- x, y, width and height behind n rectangles
unfoldable pub rect_at : ℕ → Rect → List Float → List Float
rect_at n r cells = set (set (set (set cells (4 * n) r.x) (4 * n + 1) r.y) (4 * n + 2) r.width) (4 * n + 3) r.height

-- the count of the reports, and the buffers: reports from the start, cells past them as they were
pub record Written (rs : List Report) (n : ℕ) (boxes : List Float) (ids : List ℕ) (boxes' : List Float) (ids' : List ℕ) : Type 0 where
  pub count : n ≡ length rs
  pub boxes-after : boxes' ≡ box_cells rs ++ drop (4 * length rs) boxes
  pub ids-after : ids' ≡ id_cells rs ++ drop (length rs) ids
