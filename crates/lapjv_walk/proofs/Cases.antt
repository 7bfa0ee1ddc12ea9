-- Laws of choices and of marks, by their cases. Assumes nothing.
use mathlib.Core.Path.{ap, refl, sym, ◌∙◌, ◌≡◌}
use mathlib.Core.Bool.{◌&&◌, Bool, false, true}
use mathlib.Core.Logic.{inl, inr, ◌⊎◌}
use Prim.Native.Nat.{◌<◌, ℕ, ◌≤◌}
use lib.IntN.{negsuc, pos, ℤ}
use native.Mathlib.Omega.{arith}
use Rattle.lists.specs.Lists.{pick}
use Rattle.lapjv_walk.specs.Holds.{Seat}
use Rattle.lapjv_walk.specs.Marks.{free, index, is_free}

pub pick_ind {ℓ κ} : {X : Type ℓ} (P : X → Type κ) (b : Bool) (s t : X) → P s → P t → P (pick b s t)
pick_ind P true s t p q = p
pick_ind P false s t p q = q

-- the same, with the test's outcome
pub pick-by {ℓ κ} : {X : Type ℓ} (P : X → Type κ) (b : Bool) (s t : X) → (b ≡ true → P s) → (b ≡ false → P t) → P (pick b s t)
pick-by P true s t p q = p refl
pick-by P false s t p q = q refl

one-zero : ◌≡◌ {A = ℕ} 0 1 → ⊥
one-zero p = omega arith

pub not-both : {X : Type 0} → (b : Bool) → b ≡ true → b ≡ false → X
not-both b e f = let q : ◌≡◌ {A = Bool} true false = sym e ∙ f in let w : ◌≡◌ {A = ℕ} 0 1 = cc in absurd (one-zero w)

pub never : {X : Type 0} → false ≡ true → X
never e = not-both false e refl

pub and_left : (a b : Bool) → (a && b) ≡ true → a ≡ true
and_left true b e = refl
and_left false b e = never e

pub and_right : (a b : Bool) → (a && b) ≡ true → b ≡ true
and_right true b e = e
and_right false b e = never e

pub and-false : (b : Bool) → (b && false) ≡ false
and-false true = refl
and-false false = refl

pub lt_of : {a b : ℕ} → a ≤ b → (a ≡ b → ⊥) → a < b
lt_of h u = omega arith

-- ---- marks

pub pos_inj : (a b : ℕ) → pos a ≡ pos b → a ≡ b
pos_inj a b e = cc

pub pos-free : (a : ℕ) → pos a ≡ free → ⊥
pos-free a e = let z : ◌≡◌ {A = ℕ} 0 1 = cc in omega arith

pub free-pos : (z : ℤ) (k : ℕ) → is_free z ≡ true → z ≡ pos k → ⊥
free-pos z k e f = not-both (is_free z) e (ap is_free f)

pub taken-pos : (z : ℤ) → is_free z ≡ false → z ≡ pos (index z)
taken-pos (pos k) e = refl
taken-pos (negsuc k) e = never (sym e)

pub seat-below : (n : ℕ) (z : ℤ) (i : ℕ) → z ≡ pos i → (z ≡ free) ⊎ Seat n z → i < n
seat-below n z i e (inl f) = absurd (pos-free i (sym e ∙ f))
seat-below n z i e (inr s) = let q : s.at ≡ i = pos_inj s.at i (sym s.is ∙ e) in omega (arith, s.below)

pub open_free : (n : ℕ) (z : ℤ) → is_free z ≡ true → (z ≡ free) ⊎ Seat n z → z ≡ free
open_free n z e (inl f) = f
open_free n z e (inr s) = not-both (is_free z) e (ap is_free s.is)
