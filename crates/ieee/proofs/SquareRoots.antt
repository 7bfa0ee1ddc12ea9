-- What `sqrt_of` gives is the square root that `SquareRoot` describes: the magnitudes' order, carried over to values of either sign. Assumes nothing.
use mathlib.Core.Path.{◌≡◌, refl, sym, ap, ◌∙◌, subst}
use mathlib.Core.Logic.{inl, inr}
use mathlib.Core.Bool.{Bool, true, false, not, cond, true≢false}
use Prim.Native.Nat.{ℕ, zero, suc, ◌+◌, ◌-◌, ◌*◌, ◌^◌, ◌≤◌, ◌<◌}
use native.Mathlib.Nat.{lt_irrefl, lt_of_le_of_lt, eq-or-lt_of_le, zero-mul, zero-lt-suc}
use native.Mathlib.Omega.{arith}
use lib.IntN.{ℤ, pos, negsuc, neg_ℤ}
use lib.Dec.{T, leb, ltb, eqb, eqb-suc-zero, lt→ltb, ltb→lt, leb→le, nleb→lt}
use lib.Ieee.{Float, nan, inf, fin, binary32, up, down, fits, lt}
use lib.Ieee.Positive.{positive}
use lib.Ieee.Scale.{finite}
use Rattle.ieee.specs.Sqrt.{magnitude, radicand, in_units, Below, Nearer, root_rounded, sqrt_of, SquareRoot}
use Rattle.roots.proofs.Roots.{sq-le}
use Rattle.ieee.proofs.Values.{same-magnitude}
use Rattle.ieee.proofs.RootsOfPatterns.{not-a-number}
use Rattle.ieee.proofs.Grid.{magnitude-zero}
use Rattle.ieee.proofs.NearestRoots.{Beside, NearestRoot, sqrt-nearest}

-- ---- from magnitudes to signed units
nearer-plus : (N R Y : ℕ) → Beside N R Y → (Y ≡ R → ⊥) → Nearer N (pos R) (pos Y)
nearer-plus N R Y b n = go (leb R Y) (leb→le R Y) (nleb→lt R Y)
  where
    go : (t : Bool) → (T t → R ≤ Y) → (T (not t) → Y < R) → Nearer N (pos R) (pos Y)
    go true x y = elim (eq-or-lt_of_le (x tt)) [
      | inl e ↦ absurd (n (sym e))
      | inr l ↦ inl (lt→ltb R Y l, b.0 l)
    ]
    go false x y = inr (lt→ltb Y R (y tt), b.1 (y tt))

-- a number below zero is farther than zero is
nearer-minus : (N R Y : ℕ) → R * R < 4 * N → Nearer N (pos R) (negsuc Y)
nearer-minus N R Y h = inr (tt, go (ltb R (suc Y)))
  where
    less : (a b : ℕ) → a - b ≤ a
    less a b = omega arith

    go : (t : Bool) → Below (cond t (negsuc (suc Y - suc R)) (pos (R - suc Y))) (4 * N)
    go true = tt
    go false = lt_of_le_of_lt (sq-le (less R (suc Y))) h

signed : (N R : ℕ) (s : Bool) (Y : ℕ) → 0 < R → Beside N R 0 → Beside N R Y → (s ≡ false → Y ≡ R → ⊥) → Nearer N (pos R) (cond s (neg_ℤ (pos Y)) (pos Y))
signed N R false Y p z b n = nearer-plus N R Y b (n refl)
signed N R true zero p z b n = nearer-plus N R 0 z (λ (e : 0 ≡ R). lt_irrefl 0 (subst (λ (k : ℕ). 0 < k) (sym e) p))
signed N R true (suc Y) p z b n = nearer-minus N R Y (subst (λ (k : ℕ). k * k < 4 * N) (plain R) (z.1 p))
  where
    plain : (R : ℕ) → R + 0 ≡ R
    plain R = omega arith

-- ---- of a finite value above zero: every other value is farther
same : (s : Bool) (m n : ℕ) (d e : ℤ) → s ≡ false → T (fits binary32 (fin s m d)) → T (fits binary32 (fin false n e)) → magnitude (fin s m d) ≡ magnitude (fin false n e) → fin s m d ≡ fin false n e
same false m n d e h p q g = same-magnitude false m n d e p q g
same true m n d e h p q g = absurd (true≢false h)

zero_held : T (fits binary32 (fin false 0 (pos 0)))
unfolding fits
zero_held = tt

farther : (x r y : Float) → NearestRoot x r → T (fits binary32 y) → T (finite y) → (y ≡ r → ⊥) → Nearer (radicand x) (in_units r) (in_units y)
farther x nan y h p q n = absurd h.above
farther x (inf s) y h p q n = absurd h.above
farther x (fin true m e) y h p q n = absurd h.above
farther x (fin false m e) nan h p q n = absurd q
farther x (fin false m e) (inf s) h p q n = absurd q
farther x (fin false m e) (fin s k d) h p q n =
    signed (radicand x) (magnitude (fin false m e)) s (magnitude (fin s k d)) h.live (h.beside (fin false 0 (pos 0)) zero_held tt) (h.beside (fin s k d) p q)
    (λ (t : s ≡ false) (g : magnitude (fin s k d) ≡ magnitude (fin false m e)). n (same s k m d e t p h.held g))

-- ---- of every other value
root-of-zero : (s : Bool) → sqrt_of (fin s 0 (pos 0)) ≡ fin s 0 (pos 0)
unfolding sqrt_of
root-of-zero true = refl
root-of-zero false = refl

root-of-infinity : sqrt_of (inf false) ≡ inf false
unfolding sqrt_of
root-of-infinity = refl

root-below-zero : (x : Float) → T (lt x (fin false 0 (pos 0))) → sqrt_of x ≡ nan
unfolding lt sqrt_of
root-below-zero nan h = absurd h
root-below-zero (inf true) h = refl
root-below-zero (inf false) h = absurd h
root-below-zero (fin false m e) h = absurd (none (m * up e * 1) (0 * down e) (zero-mul (down e)) (ltb→lt (m * up e * 1) (0 * down e) h))
  where
    none : (a b : ℕ) → b ≡ 0 → a < b → ⊥
    none a b e l = omega arith
root-below-zero (fin true zero e) h = absurd (none (0 * up e) (0 * down e) (zero-mul (up e)) (zero-mul (down e)) (ltb→lt 0 (0 * up e * 1 + 0 * down e) h))
  where
    none : (a b : ℕ) → a ≡ 0 → b ≡ 0 → 0 < a * 1 + b → ⊥
    none a b d e l = omega arith
root-below-zero (fin true (suc m) e) h = ap (λ (b : Bool). cond b (fin true (suc m) e) nan) (eqb-suc-zero m)

-- ---- a root of a value of binary32 is one
nan-held : T (fits binary32 nan)
unfolding fits
nan-held = tt

zero-root-held : T (fits binary32 (root_rounded 0))
unfolding fits root_rounded
zero-root-held = tt

root-held : (x : Float) → T (fits binary32 x) → T (fits binary32 (sqrt_of x))
unfolding sqrt_of
root-held nan p = nan-held
root-held (inf true) p = nan-held
root-held (inf false) p = p
root-held (fin true m e) p = go (eqb m 0)
  where
    go : (b : Bool) → T (fits binary32 (cond b (fin true m e) nan))
    go true = p
    go false = nan-held
root-held (fin false zero e) p = subst (λ (n : ℕ). T (fits binary32 (root_rounded (n * 2 ^ 149)))) (sym (magnitude-zero e)) zero-root-held
root-held (fin false (suc m) e) p = (sqrt-nearest (fin false (suc m) e) p (lt→ltb 0 (suc m) (zero-lt-suc m))).held

-- ---- all of it
pub square-root : (x r : Float) → T (fits binary32 x) → r ≡ sqrt_of x → SquareRoot x r
square-root x r f e =
    record {
      is = e;
      held = subst (λ (v : Float). T (fits binary32 v)) (sym e) (root-held x f);
      of_nan = λ h. e ∙ ap sqrt_of h ∙ not-a-number;
      of_zero = λ s h. e ∙ ap sqrt_of h ∙ root-of-zero s ∙ sym h;
      of_infinity = λ h. e ∙ ap sqrt_of h ∙ root-of-infinity ∙ sym h;
      below_zero = λ h. e ∙ root-below-zero x h;
      above_zero = λ p. subst (λ (v : Float). T (positive v)) (sym e) (sqrt-nearest x f p).above;
      closest = λ p y g h n. subst (λ (v : Float). Nearer (radicand x) (in_units v) (in_units y)) (sym e) (farther x (sqrt_of x) y (sqrt-nearest x f p) g h (λ (q : y ≡ sqrt_of x). n (q ∙ sym e)));
    }
