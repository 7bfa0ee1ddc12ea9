-- The two kinds of loop that the walk is made of, over any state. Definitions only.
use Rattle.std.specs.Prelude.{Bool}
use Prim.Native.Nat.{ℕ, zero, suc, ◌+◌, ◌-◌}
use Rattle.lists.specs.Lists.{pick}

module _ {S : Type 0} (f : ℕ → S → S) where
  -- m turns, of the numbers from a on
  unfoldable pub turns : ℕ → ℕ → S → S
  turns a zero s = s
  turns a (suc m) s = f (a + m) (turns a m s)

  -- for k in a..b
  unfoldable pub walk : ℕ → ℕ → S → S
  unfolding turns
  walk a b s = turns a (b - a) s

-- while more s, within a budget of turns; Ends.antt states that no budget is ever spent
module _ {S : Type 0} (more : S → Bool) (f : S → S) where
  unfoldable pub runs : ℕ → S → S
  runs zero s = s
  runs (suc m) s = pick (more s) (runs m (f s)) s

-- ---- what the turns of a loop add up to: each turn's number, on the state that it meets

module _ {S : Type 0} (f : ℕ → S → S) (g : ℕ → S → ℕ) where
  unfoldable pub turns_sum : ℕ → ℕ → S → ℕ
  unfolding turns
  turns_sum a zero s = 0
  turns_sum a (suc m) s = turns_sum a m s + g (a + m) (turns f a m s)

  unfoldable pub walk_sum : ℕ → ℕ → S → ℕ
  unfolding turns_sum
  walk_sum a b s = turns_sum a (b - a) s

module _ {S : Type 0} (more : S → Bool) (f : S → S) (g : S → ℕ) where
  unfoldable pub runs_sum : ℕ → S → ℕ
  runs_sum zero s = 0
  runs_sum (suc m) s = pick (more s) (g s + runs_sum m (f s)) 0
