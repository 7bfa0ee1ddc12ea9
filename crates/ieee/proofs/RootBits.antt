-- The square root of a number of units: what the code computes from its 24 leading digits is what `root_rounded` says. Assumes nothing.
use mathlib.Core.Path.{◌≡◌, refl, sym, ap, ◌∙◌, subst}
use mathlib.Core.Logic.{◌⊎◌, inl, inr}
use Prim.Native.Nat.{ℕ, suc, ◌+◌, ◌-◌, ◌*◌, ◌/◌, ◌^◌, ◌≤◌, ◌<◌, compare, Ordering}
use native.Mathlib.Nat.{le_refl, le_trans, le_of_eq, le_of_lt, lt_of_lt_of_le, lt_of_le_of_lt, mul-pos, mul-le-mul_right, mul-mul-mul_comm, mul_assoc, div-mul-le_self, lt-div-mul-add, eq-or-lt_of_le, zero-add}
use native.Mathlib.Omega.{arith}
use mathlib.Core.Bool.{Bool, false}
use lib.Dec.{T, ltb, lit<}
use lib.Pow.{pow_pos, pow-add, pow_mono, pow-lt, shl_lt}
use lib.Ieee.{Float, inf, Format, binary32, prec, emax, low, size, nearest, odd, units, fits, of_bits}
use lib.Ieee.Fits.{cond-fits, inf-fits, odd-fits, nearest-le}
use lib.Ieee.Exact.{units_val}
use lib.Ieee.Bits.{of_bits-to_bits}
use lib.Ieee.Nearest.{nearest-ge}
use Rattle.roots.specs.Roots.{IsRoot, root, nearest_root}
use Rattle.ieee.specs.Sqrt.{root_rounded}
use Rattle.roots.proofs.Roots.{sq-lt-back, root_is, root-scaled, root-small, nearest_root-is, cmp-scale, cmp-lt}
use Rattle.ieee.proofs.Values.{to_bits-pattern, size_exact, pattern-is}

-- ---- the leading digits
root-big : {n q : ℕ} → IsRoot n q → 2 ^ 46 ≤ n → 2 ^ 23 ≤ q
root-big {n} {q} h l = under (sq-lt-back (lt_of_le_of_lt l h.high))
  where
    under : 2 ^ 23 < q + 1 → 2 ^ 23 ≤ q
    under g = omega arith

dropped : (n q w k : ℕ) → IsRoot n q → 2 ^ 46 ≤ n → n < 2 ^ 48 → w / 2 ^ k ≡ q → size w - 24 ≡ k
dropped n q w k h lo hi e =
    let a : 2 ^ (23 + k) ≤ w = le_trans (le_of_eq (pow-add 2 23 k)) (le_trans (mul-le-mul_right (2 ^ k) (root-big h lo)) (subst (λ (z : ℕ). z * 2 ^ k ≤ w) e (div-mul-le_self w (2 ^ k)))) in
    let b : w < (q + 1) * 2 ^ k = lt_of_lt_of_le (subst (λ (z : ℕ). w < z * 2 ^ k + 2 ^ k) e (lt-div-mul-add (pow_pos k))) (more q (2 ^ k)) in
    let c : w < 2 ^ (24 + k) = lt_of_lt_of_le b (le_trans (mul-le-mul_right (2 ^ k) (next q (root-small h hi))) (le_of_eq (sym (pow-add 2 24 k)))) in
    ap (λ (z : ℕ). z - 24) (size_exact (23 + k) w a (subst (λ (z : ℕ). w < 2 ^ z) (one_more k) c)) ∙ off k
  where
    more : (q u : ℕ) → q * u + u ≤ (q + 1) * u
    more q u = omega arith

    next : (q : ℕ) → q < 2 ^ 24 → q + 1 ≤ 2 ^ 24
    next q l = omega arith

    one_more : (k : ℕ) → 24 + k ≡ suc (23 + k)
    one_more k = omega arith

    off : (k : ℕ) → suc (23 + k) - 24 ≡ k
    off k = omega arith

pub root_rounded-scaled : (n k : ℕ) → 2 ^ 46 ≤ n → n < 2 ^ 48 → root_rounded (n * (2 ^ k * 2 ^ k)) ≡ units binary32 false (nearest_root n) k
unfolding root_rounded
root_rounded-scaled n k lo hi =
    let u = 2 ^ k in
    let N = n * (u * u) in
    let w = root N in
    let q = root n in
    let e : w / u ≡ q = root-scaled n q w k (root_is n) (root_is N) in
    let d : size w - 24 ≡ k = dropped n q w k (root_is n) lo hi e in
    let at : ℕ → ℕ → Float = λ q k. units binary32 false (nearest q (compare (4 * N) ((2 * q + 1) * 2 ^ k * ((2 * q + 1) * 2 ^ k)))) k in
    let h = 2 * q + 1 in
    let o : compare (4 * N) (h * u * (h * u)) ≡ compare (4 * n) (h * h) =
    ap (λ (z : ℕ). compare z (h * u * (h * u))) (sym (mul_assoc 4 n (u * u))) ∙ ap (compare (4 * n * (u * u))) (mul-mul-mul_comm h u h u) ∙ cmp-scale (4 * n) (h * h) (u * u) (mul-pos (pow_pos k) (pow_pos k)) in
    ap (λ (j : ℕ). at (w / 2 ^ j) j) d ∙ ap (λ (z : ℕ). at z k) e ∙ ap (λ (z : Ordering). units binary32 false (nearest q z) k) o ∙ ap (λ (z : ℕ). units binary32 false z k) (sym (nearest_root-is n q (root_is n)))

-- ---- the rounded root has 24 digits too
pub rounded-big : (n : ℕ) → 2 ^ 46 ≤ n → 2 ^ 23 ≤ nearest_root n
rounded-big n lo = le_trans (root-big (root_is n) lo) (le_trans (nearest-ge (root n) (compare (4 * n) ((2 * root n + 1) * (2 * root n + 1)))) (le_of_eq (sym (nearest_root-is n (root n) (root_is n)))))

pub rounded-small : (n : ℕ) → n + 2 ^ 24 ≤ 2 ^ 48 → nearest_root n < 2 ^ 24
rounded-small n hi =
    lt_of_le_of_lt (le_of_eq (nearest_root-is n (root n) (root_is n))) (go (root n) refl (eq-or-lt_of_le (last (root n) (root-small (root_is n) (under hi)))))
  where
    under : n + 2 ^ 24 ≤ 2 ^ 48 → n < 2 ^ 48
    under h = omega arith

    last : (q : ℕ) → q < 2 ^ 24 → q ≤ 0xff_ffff
    last q h = omega arith

    small : (q z : ℕ) → q < 0xff_ffff → z ≤ suc q → z < 2 ^ 24
    small q z a b = omega arith

    below : 4 * n < (2 * 0xff_ffff + 1) * (2 * 0xff_ffff + 1)
    below = omega arith

    go : (q : ℕ) → root n ≡ q → (q ≡ 0xff_ffff) ⊎ (q < 0xff_ffff) → nearest q (compare (4 * n) ((2 * q + 1) * (2 * q + 1))) < 2 ^ 24
    go q r (inl e) = subst (λ (z : ℕ). nearest z (compare (4 * n) ((2 * z + 1) * (2 * z + 1))) < 2 ^ 24) (sym e) (subst (λ (o : Ordering). nearest 0xff_ffff o < 2 ^ 24) (sym (cmp-lt (4 * n) ((2 * 0xff_ffff + 1) * (2 * 0xff_ffff + 1)) below)) (lit< tt))
    go q r (inr l) = small q (nearest q (compare (4 * n) ((2 * q + 1) * (2 * q + 1)))) l (nearest-le q (compare (4 * n) ((2 * q + 1) * (2 * q + 1))))

pub units-fits : (f : Format) (s : Bool) (q k : ℕ) → q ≤ 2 ^ prec f → q * 2 ^ k < 2 ^ (low f + suc (emax f)) → T (fits f (units f s q k))
unfolding units
units-fits f s q k a b =
    cond-fits f (ltb (q * 2 ^ k) (2 ^ (low f + suc (emax f)))) (odd (suc (prec f)) s q k (low f)) (inf s) (odd-fits f (suc (prec f)) s q k (lt_of_le_of_lt a (pow-lt (le_refl (suc (prec f))))) a b) (inf-fits f s)

pub units-bits : (q k : ℕ) → 2 ^ 23 ≤ q → q < 2 ^ 24 → k ≤ 190 → of_bits binary32 (k * 2 ^ 23 + q) ≡ units binary32 false q k
units-bits q k lo hi h =
    let room : q * 2 ^ k < 2 ^ (149 + 128) = lt_of_lt_of_le (shl_lt 24 k hi) (pow_mono (far h)) in
    let v = units binary32 false q k in
    ap (of_bits binary32) (sym (to_bits-pattern binary32 v false (q * 2 ^ k) (units_val binary32 false q k room) ∙ pattern-is binary32 false q k lo hi ∙ ap (λ (z : ℕ). z + q) (zero-add (k * 2 ^ 23)))) ∙ of_bits-to_bits binary32 v (units-fits binary32 false q k (le_of_lt hi) room)
  where
    far : k ≤ 190 → 24 + k ≤ 149 + 128
    far h = omega arith

-- ---- n * 4 ^ k units, with the leading digits of the root known
pub rounded-bits : (n k N : ℕ) → 2 ^ 46 ≤ n → n + 2 ^ 24 ≤ 2 ^ 48 → k ≤ 190 → N ≡ n * (2 ^ k * 2 ^ k)
    → (of_bits binary32 (k * 2 ^ 23 + nearest_root n) ≡ root_rounded N) × (k * 2 ^ 23 + nearest_root n < 0x7f80_0000)
rounded-bits n k N lo hi h e =
    let a = rounded-big n lo in
    let b = rounded-small n hi in
    (units-bits (nearest_root n) k a b h ∙ sym (root_rounded-scaled n k lo (under n hi)) ∙ ap root_rounded (sym e), below (nearest_root n) b)
  where
    under : (n : ℕ) → n + 2 ^ 24 ≤ 2 ^ 48 → n < 2 ^ 48
    under n g = omega arith

    below : (q : ℕ) → q < 2 ^ 24 → k * 2 ^ 23 + q < 0x7f80_0000
    below q g = omega arith

pub halved : (m p j k : ℕ) → p ≡ j + (k + k) → m * 2 ^ p ≡ m * 2 ^ j * (2 ^ k * 2 ^ k)
halved m p j k e =
    ap (λ (z : ℕ). m * 2 ^ z) e ∙ ap (λ (z : ℕ). m * z) (pow-add 2 j (k + k)) ∙ sym (mul_assoc m (2 ^ j) (2 ^ (k + k))) ∙ ap (λ (z : ℕ). m * 2 ^ j * z) (pow-add 2 k k)
