-- Why document 02, 2.3 asks for another start value than the f64s': three rows whose pairing isn't cheapest from 1,000,000 on. Definitions only.
use Rattle.std.specs.Prelude.{◌≡◌, List, [], ◌∷◌, ℤ, pos, negsuc}
use Rattle.lapjv_walk.specs.Lapjv.{lapjv}
use Rattle.lapjv_walk.specs.Marks.{index, mark_at}
use Rattle.lapint_walk.specs.Wholes.{wholes_from, wholes}
use Rattle.lapint_walk.specs.Cheapest.{total}

-- 999,997 -999,999 -1,000,000 / 999,998 999,998 999,999 / -1,000,000 1,000,000 -999,999
abbrev pub three_rows : List ℤ
three_rows = pos 999_997 ∷ negsuc 999_998 ∷ negsuc 999_999 ∷ pos 999_998 ∷ pos 999_998 ∷ pos 999_999 ∷ negsuc 999_999 ∷ pos 1_000_000 ∷ negsuc 999_998 ∷ []

-- Row 1 is left over; its reduced costs are 1,999,999, 1,999,997 and 1,999,999. None is below 1,000,000, so it would take column 0 and not column 1.
pub record StartValue : Type 0 where
  pub from_f64s : (lapjv (wholes_from (pos 1_000_000)) 3 three_rows).x ≡ pos 1 ∷ pos 0 ∷ pos 2 ∷ []
  pub costs_more : total 3 three_rows (λ i. index (mark_at (lapjv (wholes_from (pos 1_000_000)) 3 three_rows).x i)) ≡ negsuc 999_999
  pub from_ours : (lapjv wholes 3 three_rows).x ≡ pos 2 ∷ pos 1 ∷ pos 0 ∷ []
  pub costs_less : total 3 three_rows (λ i. index (mark_at (lapjv wholes 3 three_rows).x i)) ≡ negsuc 1_000_001
