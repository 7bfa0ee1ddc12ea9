-- What holds of the marks that a round gives its objects, for any numbers. Definitions only.
use Rattle.std.specs.Prelude.{◌≡◌, List, ℕ, ◌<◌, T, ℤ, pos, Float, length}
use Rattle.std.specs.Float.Ieee.{le}
use Rattle.lapjv_walk.specs.Marks.{mark_at}
use Rattle.matching.specs.Matching.{Matrix}

-- each of the first nd marks is a track below nt, or free
abbrev pub Below : ℕ → ℕ → List ℤ → Type 0
Below nd nt marks = (i j : ℕ) → i < nd → mark_at marks i ≡ pos j → j < nt

-- each of nd objects has a mark: a track below nt, or free; no track is named twice
pub record Paired (nd nt : ℕ) (marks : List ℤ) : Type 0 where
  pub len : length marks ≡ nd
  pub below : (i j : ℕ) → i < nd → mark_at marks i ≡ pos j → j < nt
  pub apart : (i k j : ℕ) → i < nd → k < nd → mark_at marks i ≡ pos j → mark_at marks k ≡ pos j → i ≡ k

-- and every pair overlaps by the threshold or more
pub record Fair (nd nt : ℕ) (thr : Float) (iou : Matrix) (marks : List ℤ) : Type 0 where
  pub paired : Paired nd nt marks
  pub meets : (i j : ℕ) → i < nd → mark_at marks i ≡ pos j → T (le thr (iou i j))
