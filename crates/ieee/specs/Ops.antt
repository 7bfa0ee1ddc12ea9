-- The functions on f32 that stand in for Rust's own: document 01, "Stand-ins for functions outside the files". Definitions only.
use Rattle.std.specs.Prelude.{false, cond, ℕ, Float}
use Rattle.std.specs.Float.{nan, inf, fin, binary32}
use Rattle.std.specs.Float.Ieee.{lt, is_nan, of_bits}

-- `max(a,b)`: the other if one is NaN; else b if a < b; else a
unfoldable pub max_of : Float → Float → Float
max_of a b = cond (is_nan a) b (cond (is_nan b) a (cond (lt a b) b a))

-- `min` mirrors it
unfoldable pub min_of : Float → Float → Float
min_of a b = cond (is_nan a) b (cond (is_nan b) a (cond (lt b a) b a))

-- `clamp` passes NaN on, since no comparison with one holds
unfoldable pub clamp_of : Float → Float → Float → Float
clamp_of x lo hi = cond (lt x lo) lo (cond (lt hi x) hi x)

-- `abs` clears the sign bit
unfoldable pub abs_of : Float → Float
abs_of nan = nan
abs_of (inf s) = inf false
abs_of (fin s m e) = fin false m e

-- an f32 by its pattern
abbrev pub f32 : ℕ → Float
f32 = of_bits binary32

-- "pi and half pi have bits 40490FDB and 3FC90FDB"
abbrev pub π : Float
π = f32 0x40490fdb

abbrev pub half_π : Float
half_π = f32 0x3fc90fdb
