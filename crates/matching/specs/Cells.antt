-- A matrix as the code keeps it: row after row. Definitions only.
use Rattle.std.specs.Prelude.{List, ℕ, ◌+◌, ◌*◌, ◌/◌, ◌%◌, Float, get_or}
use Rattle.std.specs.Float.{nan}
use Rattle.lists.specs.Lists.{tab}
use Rattle.matching.specs.Matching.{Matrix}

-- nd rows of nt numbers
unfoldable pub overlap_cells : ℕ → ℕ → Matrix → List Float
overlap_cells nd nt m = tab (λ q. m (q / nt) (q % nt)) (nd * nt)

-- row i, column j of rows of nt numbers
abbrev pub entry_at : ℕ → List Float → Matrix
entry_at nt cells i j = get_or cells (i * nt + j) nan
