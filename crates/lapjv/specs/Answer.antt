-- Document 01, item 2 and row 8 of its table, and document 02, 2.12: what a call of the assignment answers. Definitions only.
use Rattle.std.specs.Prelude.{◌≡◌, Bool, true, ◌&&◌, List, ℕ, ◌+◌, ◌*◌, ◌^◌, ◌≤◌, eqb, ltb, Float, ℤ, length, Result, Ok, Err}
use Rattle.lists.specs.Lists.{pick}
use Rattle.object.specs.declared.Refusal.{Refusal}
use Rattle.object.specs.declared.Refusal.TheVariants.{BadMatrix}
use Rattle.object.specs.Refusal.{number_of, told_of}
use Rattle.lapjv_walk.specs.Ops.{floats}
use Rattle.lapjv_walk.specs.Lapjv.{OneToOne, lapjv}
use Rattle.lapjv_walk.specs.Reads.{lapjv_reads}
use Rattle.lapjv_walk.specs.Ends.{AllEnd}

-- the cost entries read, none where a call was turned away
abbrev pub reads_of : Result ℕ Refusal → ℕ
reads_of (Ok reads) = reads
reads_of (Err r) = 0

-- not row 8: n is from 1 to 64, the costs are n*n, each list is n long
abbrev pub fits : ℕ → ℕ → ℕ → ℕ → Bool
fits n costs rows columns = ltb 0 n && ltb n 65 && eqb costs (n * n) && eqb rows n && eqb columns n

-- the answer r to a call, with both lists before (x₀, y₀) and after (x, y)
pub record Answer (n : ℕ) (cost : List Float) (x₀ y₀ : List ℤ) (r : Result ℕ Refusal) (x y : List ℤ) : Type 0 where
  pub number : told_of r ≡ pick (fits n (length cost) (length x₀) (length y₀)) 0 (number_of BadMatrix)
  pub rows : x ≡ pick (fits n (length cost) (length x₀) (length y₀)) (lapjv floats n cost).x x₀
  pub columns : y ≡ pick (fits n (length cost) (length x₀) (length y₀)) (lapjv floats n cost).y y₀
  pub one_to_one : fits n (length cost) (length x₀) (length y₀) ≡ true → OneToOne n x y
  pub ends : fits n (length cost) (length x₀) (length y₀) ≡ true → AllEnd floats n cost
  -- 2.12
  pub counted : reads_of r ≡ pick (fits n (length cost) (length x₀) (length y₀)) (lapjv_reads floats n cost) 0
  pub at_most : reads_of r ≤ 3 * n ^ 3 + 6 * n ^ 2
