-- The place of row i, column j in n rows of n; and a mark as its 64 bits. Assumes nothing.
use mathlib.Core.Path.{refl, ◌≡◌}
use mathlib.Core.Bool.{Bool, false, true}
use Prim.Native.Nat.{◌*◌, ◌+◌, ◌<◌, suc, ℕ, ◌≤◌}
use borrow.Author.Tests.{le-ltb}
use lib.Dec.{T}
use lib.IntN.{nat_abs, negsuc, pos, ℤ}
use lib.Signed.{lt_z, non_neg}
use mir.Syntax.{w64}
use mir.Val.{Fits, SFits}
use native.Mathlib.Nat.{mul-le-mul, mul-le-mul_right, suc-mul}
use native.Mathlib.Omega.{arith}
use Rattle.lapjv_walk.specs.Marks.{index, is_free}

pub cell : (n i j : ℕ) → i < n → j < n → i * n + j < n * n
cell n i j hi hj =
    let a : suc i * n ≤ n * n = mul-le-mul_right n hi in
    omega (arith, suc-mul i n)

pub cells : (n : ℕ) → n ≤ 64 → n * n ≤ 4096
cells n h = mul-le-mul h h

pub free-test : (m : ℤ) → lt_z m (pos 0) ≡ is_free m
free-test (pos n) = le-ltb n 0 (omega arith)
free-test (negsuc n) = refl

pub index-asks : (m : ℤ) → SFits w64 m → is_free m ≡ false → T (non_neg m) × Fits w64 (nat_abs m)
index-asks (pos n) h e = (tt, record { fits = omega (arith, h.sfits) })
index-asks (negsuc n) h e = let z : ◌≡◌ {A = Bool} true false = e in absurd (bad z)
  where
    bad : ◌≡◌ {A = Bool} true false → ⊥
    bad p = let q : ◌≡◌ {A = ℕ} 0 1 = cc in omega arith

pub index_is : (m : ℤ) → is_free m ≡ false → nat_abs m ≡ index m
index_is (pos n) e = refl
index_is (negsuc n) e = let z : ◌≡◌ {A = Bool} true false = e in let q : ◌≡◌ {A = ℕ} 0 1 = cc in absurd (absurd-one q)
  where
    absurd-one : ◌≡◌ {A = ℕ} 0 1 → ⊥
    absurd-one p = omega arith
