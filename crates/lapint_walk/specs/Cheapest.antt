-- Document 02, 2.3: what a cheapest pairing is. Definitions only.
use Rattle.std.specs.Prelude.{List, ℕ, zero, suc, ℤ, pos, ◌+ℤ◌, ◌≤ℤ◌}
use Rattle.lapjv_walk.specs.Marks.{index, mark_at, num_at}
use Rattle.lapjv_walk.specs.Ops.{cost_at}
use Rattle.lapjv_walk.specs.Holds.{Apart}
use Rattle.lapint_walk.specs.Wholes.{wholes}

-- f 0 + f 1 + .., n of them
abbrev pub whole_sum : (ℕ → ℤ) → ℕ → ℤ
whole_sum f zero = pos 0
whole_sum f (suc n) = whole_sum f n +ℤ f n

-- what it costs to pair each row i with column p i
abbrev pub total : ℕ → List ℤ → (ℕ → ℕ) → ℤ
total n cost p = whole_sum (λ i. cost_at wholes n cost i (p i)) n

-- 'no one-to-one pairing has a smaller total' than x's: a one-to-one pairing gives the rows in order n columns, no two the same (`Apart`)
pub record Cheapest (n : ℕ) (cost x : List ℤ) : Type 0 where
  pub least : (p : List ℕ) → Apart n p → total n cost (λ i. index (mark_at x i)) ≤ℤ total n cost (λ i. num_at p i)
