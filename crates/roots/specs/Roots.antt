-- The square root of a whole number: its whole part, and the whole number nearest to it. Definitions only.
use Rattle.std.specs.Prelude.{cond, leb}
use Prim.Native.Nat.{ℕ, zero, suc, ◌+◌, ◌*◌, ◌/◌, ◌≤◌, ◌<◌, compare}
use Rattle.std.specs.Float.Ieee.{size, nearest}

-- r is the whole part of the square root of n
pub record IsRoot (n r : ℕ) : Type 0 where
  pub low : r * r ≤ n
  pub high : n < (r + 1) * (r + 1)

-- With r the whole part of the root of n / 4: one more binary digit, 1 where that keeps the square within n.
abbrev pub with_digit : ℕ → ℕ → ℕ
with_digit n r = cond (leb ((2 * r + 1) * (2 * r + 1)) n) (2 * r + 1) (2 * r)

-- for an n below 4 ^ k
unfoldable pub root_in : ℕ → ℕ → ℕ
root_in zero n = 0
root_in (suc k) n = with_digit n (root_in k (n / 4))

-- the whole part, worked out digit by digit
unfoldable pub root : ℕ → ℕ
unfolding root_in size
root n = root_in (size n) n

-- The whole number nearest to the square root of n, a tie to the even one: the halfway point above the whole part q is q + 1 / 2, and the square of twice that is compared with 4 * n.
unfoldable pub nearest_root : ℕ → ℕ
unfolding root
nearest_root n = let q = root n in nearest q (compare (4 * n) ((2 * q + 1) * (2 * q + 1)))
