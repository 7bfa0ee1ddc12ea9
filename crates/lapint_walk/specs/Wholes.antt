-- Document 02, 2.3: whole numbers as the assignment's costs. The walk is lapjv_walk's, at these operations; no sum or difference of its steps leaves 64 bits
-- (Holds.antt), so they are those of i64. Definitions only.
use Rattle.std.specs.Prelude.{Bool, false, eqb, ℤ, pos, negsuc, ◌+ℤ◌, ◌-ℤ◌}
use Rattle.std.specs.Int.Signed.{lt_z, le_z}
use Rattle.lapjv_walk.specs.Ops.{Ops}

abbrev pub eq_z : ℤ → ℤ → Bool
eq_z (pos a) (pos b) = eqb a b
eq_z (pos a) (negsuc b) = false
eq_z (negsuc a) (pos b) = false
eq_z (negsuc a) (negsuc b) = eqb a b

-- with a start value
abbrev pub wholes_from : ℤ → Ops
wholes_from large = record { C = ℤ; add = ◌+ℤ◌; sub = ◌-ℤ◌; lt = lt_z; le = le_z; eq = eq_z; large = large; none = pos 0 }

abbrev pub wholes : Ops
wholes = wholes_from (pos 1_000_000_000_000)
