-- Column after column, and that none stays none. Assumes nothing.
use Prim.Native.Nat.{ℕ, zero, suc, ◌+◌, ◌<◌}
use native.Mathlib.Numerals.{add-one}
use native.Mathlib.Omega.{arith}
use mathlib.Core.Path.{◌≡◌, refl, ap, ◌∙◌}
use mathlib.Core.Bool.{Bool, true, false}
use lib.Ieee.{nan}
use lib.ListN.{get_or}
use Rattle.std.specs.Prelude.{None, Some}
use Rattle.inverse.specs.Inverse.{Rows, row, unusable, cleared, unless, column, columns}

column-at : (k : ℕ) (m s : Rows) (t : Bool) → columns k s ≡ Some m → unusable (get_or (row k m) k nan) ≡ t → columns (suc k) s ≡ unless t (cleared k m)
unfolding column
column-at k m s t p q = ap (column k) p ∙ ap (λ (u : Bool). unless u (cleared k m)) q

-- a usable pivot: one more column
pub column-turns : (k : ℕ) (m s : Rows) → columns k s ≡ Some m → unusable (get_or (row k m) k nan) ≡ false → columns (k + 1) s ≡ Some (cleared k m)
column-turns k m s p q = rw add-one (column-at k m s false p q)

none_stays : (k : ℕ) (s : Rows) → k < 4 → columns (suc k) s ≡ None → columns 4 s ≡ None
unfolding column
none_stays zero s h p = rw p refl
none_stays (suc zero) s h p = rw p refl
none_stays (suc (suc zero)) s h p = rw p refl
none_stays (suc (suc (suc zero))) s h p = p
none_stays (suc (suc (suc (suc k)))) s h p = absurd (omega arith)

-- an unusable one: none, to the end
pub column-ends : (k : ℕ) (m s : Rows) → k < 4 → columns k s ≡ Some m → unusable (get_or (row k m) k nan) ≡ true → columns 4 s ≡ None
column-ends k m s h p q = none_stays k s h (column-at k m s true p q)
