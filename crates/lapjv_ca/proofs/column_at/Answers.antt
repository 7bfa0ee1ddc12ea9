-- `lapjv_ca::column_at` meets its contract.
use mathlib.Core.Path.{refl, sym, ◌∙◌, ◌≡◌}
use mathlib.Core.Bool.{true}
use lib.IntN.{negsuc, pos, ℤ}
use Rattle.lapjv_walk.specs.Marks.{index, is_free, mark_at}
use Rattle.lapjv_walk.proofs.Cases.{never}
use Rattle.lapjv_ca.proofs.column_at.Goals as goal

free-index : (z : ℤ) → is_free z ≡ true → 0 ≡ index z
free-index (pos k) e = never e
free-index (negsuc k) e = refl

pub returns-then-free_at : goal.returns-then-free_at
returns-then-free_at c = free-index (mark_at c.args.x.now c.args.i) (sym c.free_at.ensures ∙ c.if-free_at.true)

pub index_at-requires : goal.index_at-requires
index_at-requires c = (c.requires.0, c.requires.1, sym c.free_at.ensures ∙ c.if-free_at.false)
