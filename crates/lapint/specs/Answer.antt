-- Document 02, 2.3, and row 8 of document 01's table: what a call of the assignment over whole numbers answers. Definitions only.
use Rattle.std.specs.Prelude.{◌≡◌, Bool, true, ◌&&◌, not, List, ℕ, zero, suc, ℤ, pos, negsuc, get_or, length, Result}
use Rattle.std.specs.Int.Signed.{lt_z, le_z}
use Rattle.lists.specs.Lists.{pick}
use Rattle.object.specs.declared.Refusal.{Refusal}
use Rattle.object.specs.declared.Refusal.TheVariants.{BadMatrix, CostOutOfRange}
use Rattle.object.specs.Refusal.{number_of, told_of}
use Rattle.lapjv_walk.specs.Lapjv.{OneToOne, lapjv}
use Rattle.lapjv_walk.specs.Ends.{AllEnd}
use Rattle.lapjv.specs.Answer.{fits}
use Rattle.lapint_walk.specs.Wholes.{wholes}
use Rattle.lapint_walk.specs.Cheapest.{Cheapest}

-- from -1,000,000 to 1,000,000
abbrev pub cost_in_range : ℤ → Bool
cost_in_range c = not (lt_z c (negsuc 999_999)) && le_z c (pos 1_000_000)

-- the first k costs are
abbrev pub all_in_range : List ℤ → ℕ → Bool
all_in_range cost zero = true
all_in_range cost (suc k) = all_in_range cost k && cost_in_range (get_or cost k (pos 0))

-- neither row 8 nor row 12
abbrev pub acceptable : ℕ → List ℤ → List ℤ → List ℤ → Bool
acceptable n cost x y = fits n (length cost) (length x) (length y) && all_in_range cost (length cost)

-- row 8, row 12 after it, or none
abbrev pub number_told : ℕ → List ℤ → List ℤ → List ℤ → ℕ
number_told n cost x y = pick (fits n (length cost) (length x) (length y)) (pick (all_in_range cost (length cost)) 0 (number_of CostOutOfRange)) (number_of BadMatrix)

-- the answer r to a call, with both lists before (x₀, y₀) and after (x, y)
pub record WholeAnswer (n : ℕ) (cost : List ℤ) (x₀ y₀ : List ℤ) (r : Result Unit Refusal) (x y : List ℤ) : Type 0 where
  pub number : told_of r ≡ number_told n cost x₀ y₀
  pub rows : x ≡ pick (acceptable n cost x₀ y₀) (lapjv wholes n cost).x x₀
  pub columns : y ≡ pick (acceptable n cost x₀ y₀) (lapjv wholes n cost).y y₀
  pub one_to_one : acceptable n cost x₀ y₀ ≡ true → OneToOne n x y
  pub cheapest : acceptable n cost x₀ y₀ ≡ true → Cheapest n cost x
  pub ends : acceptable n cost x₀ y₀ ≡ true → AllEnd wholes n cost
