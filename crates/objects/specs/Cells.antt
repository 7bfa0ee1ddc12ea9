-- Entries of several numbers as a flat array keeps them: one after another, and NaN past them. Definitions only.
use Rattle.std.specs.Prelude.{List, ◌++◌, ℕ, ◌-◌, Float, length, replicate}
use Rattle.std.specs.Float.{nan}

-- in n cells
abbrev pub padded : ℕ → List Float → List Float
padded n l = l ++ replicate (n - length l) nan
