-- The costs that the assignment is given, and what its answer on them is. Assumes nothing.
use mathlib.Core.Path.{◌≡◌, refl, sym, ap, ◌∙◌}
use mathlib.Core.Bool.{Bool, true, false, ◌&&◌}
use mathlib.Core.List.{List, ◌++◌}
use Prim.Native.Nat.{ℕ, ◌*◌, ◌/◌, ◌%◌, ◌≤◌, ◌<◌}
use native.Mathlib.Omega.{arith}
use borrow.Author.Tests.{ltb-true, lt-ltb, eq-eqb}
use lib.Dec.{ltb}
use lib.IntN.{ℤ}
use lib.Ieee.{Float, binary64, neg, of_bits}
use lib.ListN.{length, take}
use lib.Seq.{take_at}
use Rattle.lists.specs.Lists.{pick, tab}
use Rattle.lists.proofs.Tab.{length-tab, tab-ext}
use Rattle.lapjv_walk.proofs.Cases.{pick_ind}
use Rattle.lapjv_walk.specs.Marks.{mark_at}
use Rattle.lapjv_walk.specs.Ops.{floats}
use Rattle.lapjv_walk.specs.Lapjv.{lapjv}
use Rattle.lapjv.specs.Answer.{fits}
use Rattle.matching.specs.Matching.{Matrix, larger, costs_of, within, assigned}

-- row i, column j
abbrev pub cost_entry : ℕ → ℕ → Matrix → Matrix
cost_entry nd nt m i j = pick (ltb i nd && ltb j nt) (neg (m i j)) (of_bits binary64 0x40f8_6a00_0000_0000)

-- place q of a square of n rows
abbrev cost_in : ℕ → ℕ → ℕ → Matrix → ℕ → Float
cost_in nd nt n m q = cost_entry nd nt m (q / n) (q % n)

pub larger-left : (a b : ℕ) → a ≤ larger a b
larger-left a b = go (ltb a b) refl
  where
    go : (t : Bool) → ltb a b ≡ t → a ≤ pick t b a
    go true e = let l : a < b = ltb-true a b e in omega arith
    go false e = omega arith

pub larger-most : (nd nt n : ℕ) → n ≡ larger nd nt → nd ≤ 64 → nt ≤ 64 → n ≤ 64
larger-most nd nt n e h l = rw e (pick_ind (λ (k : ℕ). k ≤ 64) (ltb nd nt) nt nd l h)

pub costs-are : (nd nt n : ℕ) (m : Matrix) → n ≡ larger nd nt → tab (λ q. cost_entry nd nt m (q / n) (q % n)) (n * n) ≡ costs_of nd nt m
unfolding costs_of neg of_bits
costs-are nd nt n m e = ap (λ (k : ℕ). tab (cost_in nd nt k m) (k * k)) e

length-costs : (nd nt n : ℕ) (m : Matrix) → n ≡ larger nd nt → length (costs_of nd nt m) ≡ n * n
length-costs nd nt n m e = ap length (sym (costs-are nd nt n m e)) ∙ length-tab (cost_in nd nt n m) (n * n)

fits-square : (n k x y : ℕ) → 0 < n → n ≤ 64 → k ≡ n * n → x ≡ n → y ≡ n → fits n k x y ≡ true
fits-square n k x y a b c d e = rw (lt-ltb 0 n a, lt-ltb n 65 (omega arith), eq-eqb k (n * n) c, eq-eqb x n d, eq-eqb y n e)

-- from what the assignment answers on the costs at a list's front; without rows there is no object
pub assigned-is : (nd nt n : ℕ) (m : Matrix) (l rest : List Float) (x₀ y₀ x : List ℤ) → n ≡ larger nd nt → n ≤ 64 → l ≡ costs_of nd nt m ++ rest → length x₀ ≡ n → length y₀ ≡ n
    → x ≡ pick (fits n (length (take (n * n) l)) (length x₀) (length y₀)) (lapjv floats n (take (n * n) l)).x x₀ → tab (λ i. within nt (mark_at x i)) nd ≡ assigned nd nt m
unfolding assigned
assigned-is nd nt n m l rest x₀ y₀ x e b c₀ p q a =
    let c : take (n * n) l ≡ costs_of nd nt m = ap (take (n * n)) c₀ ∙ take_at (costs_of nd nt m) rest (n * n) (length-costs nd nt n m e) in
    let k : length (take (n * n) l) ≡ n * n = ap length c ∙ length-costs nd nt n m e in
    tab-ext (λ i. within nt (mark_at x i)) (λ i. within nt (mark_at (lapjv floats (larger nd nt) (costs_of nd nt m)).x i)) nd
    (λ i h.
    let f : fits n (length (take (n * n) l)) (length x₀) (length y₀) ≡ true = fits-square n (length (take (n * n) l)) (length x₀) (length y₀) (omega (arith, e, larger-left nd nt, h)) b k p q in
    let z : x ≡ (lapjv floats (larger nd nt) (costs_of nd nt m)).x = a ∙ ap (λ (t : Bool). pick t (lapjv floats n (take (n * n) l)).x x₀) f ∙ ap (λ (r : ℕ). (lapjv floats r (take (n * n) l)).x) e ∙ ap (λ (l : List Float). (lapjv floats (larger nd nt) l).x) c in
    ap (λ (l : List ℤ). within nt (mark_at l i)) z)
