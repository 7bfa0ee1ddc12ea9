-- Of two numbers, what is not below is at or above: so a pair that isn't dropped overlaps by the threshold or more. Assumes nothing.
use mathlib.Core.Path.{◌≡◌, refl}
use mathlib.Core.Bool.{Bool, true, false, ◌&&◌, ◌||◌, true≢false}
use Prim.Native.Nat.{ℕ, zero, suc, ◌+◌, ◌*◌, ◌≤◌, ◌<◌}
use native.Mathlib.Omega.{arith}
use lib.Dec.{T, eqb, ltb, lt→ltb, nltb→le, eqb_refl}
use lib.Ieee.{Float, nan, inf, fin, lt, le, eq, is_nan, up, down, below, level}
use Rattle.object.specs.declared.Corners.{Corners}
use Rattle.pair.specs.Overlap.{overlap_of}
use Rattle.overlap_laws.proofs.Whole.{laws}

T-same : (m : ℕ) (r : Bool) → T r → T (eqb m m && r)
T-same m r h = go (eqb m m) (eqb_refl m)
  where
    go : (q : Bool) → T q → T (q && r)
    go true t = h
    go false t = absurd t

-- m ≤ n, and the two ways round of the equation
at_most : (m n : ℕ) (r : Bool) → T r → m ≤ n → T (ltb m n || eqb m n && r) × T (ltb m n || eqb n m && r)
at_most m n r h l = go (ltb m n) refl
  where
    go : (q : Bool) → ltb m n ≡ q → T (q || eqb m n && r) × T (q || eqb n m && r)
    go true e = (tt, tt)
    go false e =
        let k : n ≤ m = nltb→le m n (rw e tt) in
        let z : m ≡ n = omega arith in
        (rw z (T-same n r h), rw z (T-same n r h))

pass : (k : ℕ) (r : Bool) → 0 < k → T (ltb 0 k || r)
pass k r l = go (ltb 0 k) (lt→ltb 0 k l)
  where
    go : (q : Bool) → T q → T (q || r)
    go true t = tt
    go false t = absurd t

total : (s t : Bool) (a b : ℕ) → below s a t b ≡ false → T (below t b s a || level t b s a)
total false false a b h = (at_most b a true tt (nltb→le a b (rw h tt))).0
total false true a b h = go a b
  where
    go : (a b : ℕ) → T (ltb 0 (b + a) || eqb b a && (false || eqb b 0))
    go zero zero = tt
    go zero (suc b) = pass (suc b + 0) (eqb (suc b) 0 && (false || eqb (suc b) 0)) (omega arith)
    go (suc a) b = pass (b + suc a) (eqb b (suc a) && (false || eqb b 0)) (omega arith)
total true false a b h =
    let l : a + b ≤ 0 = nltb→le 0 (a + b) (rw h tt) in
    let za : a ≡ 0 = omega arith in
    let zb : b ≡ 0 = omega arith in
    rw (za, zb) tt
total true true a b h = (at_most a b true tt (nltb→le b a (rw h tt))).1

pub at-or-above : (x y : Float) → is_nan x ≡ false → is_nan y ≡ false → lt x y ≡ false → T (le y x)
unfolding lt le eq is_nan
at-or-above nan y p q h = absurd (true≢false p)
at-or-above (inf s) nan p q h = absurd (true≢false q)
at-or-above (inf true) (inf true) p q h = tt
at-or-above (inf true) (inf false) p q h = absurd (true≢false h)
at-or-above (inf false) (inf true) p q h = tt
at-or-above (inf false) (inf false) p q h = tt
at-or-above (inf true) (fin t n d) p q h = absurd (true≢false h)
at-or-above (inf false) (fin t n d) p q h = tt
at-or-above (fin s m e) nan p q h = absurd (true≢false q)
at-or-above (fin s m e) (inf true) p q h = tt
at-or-above (fin s m e) (inf false) p q h = absurd (true≢false h)
at-or-above (fin s m e) (fin t n d) p q h = total s t (m * up e * down d) (n * up d * down e) h

pub kept_pair : (d t : Corners) (θ : Float) → is_nan θ ≡ false → lt (overlap_of d t) θ ≡ false → T (le θ (overlap_of d t))
kept_pair d t θ n h = at-or-above (overlap_of d t) θ (laws.never_nan d t) n h
