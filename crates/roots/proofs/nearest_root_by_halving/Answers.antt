-- `roots::nearest_root_by_halving` meets its contract.
use mathlib.Core.Path.{◌≡◌, sym, ap, ◌∙◌}
use Prim.Native.Nat.{ℕ, ◌+◌, ◌*◌, compare, Ordering}
use native.Mathlib.Numerals.{add-one}
use native.Mathlib.Omega.{arith}
use lib.Ieee.{nearest}
use Rattle.roots.specs.Roots.{IsRoot, nearest_root}
use Rattle.roots.proofs.Roots.{square-fits, root-small, nearest_root-is, cmp-lt, cmp-gt}
use Rattle.roots.proofs.nearest_root_by_halving.Goals as goal

pub overflow_mul-h : goal.overflow_mul-h
overflow_mul-h c = omega (arith, root-small c.whole_root-q.ensures c.requires)

pub overflow_add-h : goal.overflow_add-h
overflow_add-h c = omega (arith, root-small c.whole_root-q.ensures c.requires)

pub overflow_mul-h-2 : goal.overflow_mul-h-2
overflow_mul-h-2 c = record { fits = square-fits _ (omega (arith, root-small c.whole_root-q.ensures c.requires)) }

picked : (a q : ℕ) (o : Ordering) → IsRoot a q → compare (4 * a) ((2 * q + 1) * (2 * q + 1)) ≡ o → nearest q o ≡ nearest_root a
picked a q o h e = sym (nearest_root-is a q h ∙ ap (nearest q) e)

pub returns-then-a-h : goal.returns-then-a-h
returns-then-a-h c = picked _ c.whole_root-q.result _ c.whole_root-q.ensures (cmp-lt _ _ c.if-a-h.true)

pub returns-else-a-h : goal.returns-else-a-h
returns-else-a-h c =
    add-one _ ∙ picked _ c.whole_root-q.result _ c.whole_root-q.ensures (cmp-gt _ _ (omega arith))
