-- `find_dense`: its columns stay apart, lo < hi ≤ k, and only the columns from lo on move. Assumes nothing.
use mathlib.Core.Path.{ap, refl, ◌∙◌, ◌≡◌}
use mathlib.Core.List.{List}
use Prim.Native.Nat.{◌+◌, ◌<◌, suc, ℕ, ◌≤◌}
use lib.ListN.{get_or, length, length-set, set}
use lib.Seq.{get_or-set_other, get_or-set_same}
use native.Mathlib.Decide.{ℕ_discrete}
use native.Mathlib.Nat.{le_refl}
use native.Mathlib.Omega.{arith}
use Rattle.lists.specs.Lists.{pick}
use Rattle.lapjv_walk.specs.Holds.{Apart}
use Rattle.lapjv_walk.specs.Loops.{walk}
use Rattle.lapjv_walk.specs.Ops.{Ops}
use Rattle.lapjv_walk.specs.Path.{exchanged, Find, find_dense, find_step, find_take}
use Rattle.lapjv_walk.proofs.Cases.{pick_ind}
use Rattle.lapjv_walk.proofs.Loops.{walk-ind}
use Rattle.lapjv_walk.proofs.Swap.{swap-apart}

pub record FindOk (n lo k : ℕ) {C : Type 0} (s : Find C) : Type 0 where
  pub lo_hi : lo < s.hi
  pub hi-k : s.hi ≤ k
  pub apart : Apart n s.cols

pub find≡ : {C : Type 0} {c c' : List ℕ} {h h' : ℕ} {m m' : C} → c ≡ c' → h ≡ h' → m ≡ m' → ◌≡◌ {A = Find C} (record { cols = c; hi = h; mind = m }) (record { cols = c'; hi = h'; mind = m' })
find≡ p q r = λ i. record { cols = p i; hi = q i; mind = r i }

module _ (O : Ops) (n lo : ℕ) (d : List O.C) where
  take-ok : (k : ℕ) (s : Find O.C) → k < n → lo ≤ s.hi → s.hi ≤ k → Apart n s.cols → FindOk n lo (suc k) (find_take O k (get_or s.cols k 0) s)
  take-ok k s hk l h a = record { lo_hi = omega arith; hi-k = omega arith; apart = swap-apart n s.cols a k s.hi hk (omega arith) }

  pub step_ok : (k : ℕ) (s : Find O.C) → k < n → FindOk n lo k s → FindOk n lo (suc k) (find_step O lo d k s)
  unfolding find_step
  step_ok k s hk o =
      let j : ℕ = get_or s.cols k 0 in
      let fresh : Find O.C = record { cols = s.cols; hi = lo; mind = get_or d j O.none } in
      let stay : FindOk n lo (suc k) s = record { lo_hi = o.lo_hi; hi-k = omega (arith, o.hi-k); apart = o.apart } in
      let P : Find O.C → Type 0 = λ t. FindOk n lo (suc k) t in
      pick_ind P (O.le (get_or d j O.none) s.mind) (pick (O.lt (get_or d j O.none) s.mind) (find_take O k j fresh) (find_take O k j s)) s
      (pick_ind P (O.lt (get_or d j O.none) s.mind) (find_take O k j fresh) (find_take O k j s)
      (take-ok k fresh hk (omega arith) (omega (arith, o.lo_hi, o.hi-k)) o.apart)
      (take-ok k s hk (omega (arith, o.lo_hi)) o.hi-k o.apart))
      stay

  pub find-ok : (k : ℕ) (cols : List ℕ) (mind : O.C) → lo < n → lo + 1 ≤ k → k ≤ n → Apart n cols → FindOk n lo k (walk (find_step O lo d) (lo + 1) k (record { cols = cols; hi = lo + 1; mind = mind }))
  find-ok k cols mind hl h hk a =
      walk-ind (find_step O lo d) (λ i s. FindOk n lo i s) (lo + 1) k (record { cols = cols; hi = lo + 1; mind = mind }) h
      (record { lo_hi = omega arith; hi-k = omega arith; apart = a })
      (λ i t l u o. step_ok i t (omega arith) o)

pub record From (n lo : ℕ) (cols cols' : List ℕ) : Type 0 where
  pub kept : (q : ℕ) → q < lo → get_or cols' q 0 ≡ get_or cols q 0
  pub from : (q : ℕ) → q < n → lo ≤ q → (r : ℕ) × (lo ≤ r) × (r < n) × (get_or cols' q 0 ≡ get_or cols r 0)

from-refl : (n lo : ℕ) (cols : List ℕ) → From n lo cols cols
from-refl n lo cols = record { kept = λ q h. refl; from = λ q h l. (q, l, h, refl) }

from-swap : (n lo : ℕ) (cols cols' : List ℕ) (k i : ℕ) → length cols' ≡ n → k < n → i < n → lo ≤ k → lo ≤ i → From n lo cols cols' → From n lo cols (exchanged cols' k i (get_or cols' k 0))
from-swap n lo cols cols' k i len hk hi lk li f =
    let other : (q : ℕ) → (q ≡ i → ⊥) → (q ≡ k → ⊥) → get_or (exchanged cols' k i (get_or cols' k 0)) q 0 ≡ get_or cols' q 0 = λ q u w.
    get_or-set_other (set cols' k (get_or cols' i 0)) i q (get_or cols' k 0) 0 u ∙ get_or-set_other cols' k q (get_or cols' i 0) 0 w in
    let go : (q r : ℕ) → lo ≤ r → r < n → get_or (exchanged cols' k i (get_or cols' k 0)) q 0 ≡ get_or cols' r 0 → (r : ℕ) × (lo ≤ r) × (r < n) × (get_or (exchanged cols' k i (get_or cols' k 0)) q 0 ≡ get_or cols r 0) = λ q r l h e.
    ((f.from r h l).0, (f.from r h l).1, (f.from r h l).2, e ∙ (f.from r h l).3) in
    record {
      kept = λ q h. other q (omega arith) (omega arith) ∙ f.kept q h;
      from = λ q h l. elim (ℕ_discrete q i) [
        | yes e ↦ go q k lk hk (ap (λ (z : ℕ). get_or (exchanged cols' k i (get_or cols' k 0)) z 0) e ∙ get_or-set_same (set cols' k (get_or cols' i 0)) i (get_or cols' k 0) 0 (simp length-set (omega arith)))
        | no u ↦ elim (ℕ_discrete q k) [
          | yes e ↦ go q i li hi (get_or-set_other (set cols' k (get_or cols' i 0)) i q (get_or cols' k 0) 0 u ∙ ap (λ (z : ℕ). get_or (set cols' k (get_or cols' i 0)) z 0) e ∙ get_or-set_same cols' k (get_or cols' i 0) 0 (omega arith))
          | no w ↦ go q q l h (other q u w)
        ]
      ];
    }

module _ (O : Ops) (n lo : ℕ) (d : List O.C) (cols : List ℕ) where
  both-step : (k : ℕ) (s : Find O.C) → k < n → lo ≤ k → FindOk n lo k s × From n lo cols s.cols → From n lo cols (find_step O lo d k s).cols
  unfolding find_step
  both-step k s hk lk o =
      let j : ℕ = get_or s.cols k 0 in
      let h1 = o.0.lo_hi in
      let h2 = o.0.hi-k in
      let fresh : Find O.C = record { cols = s.cols; hi = lo; mind = get_or d j O.none } in
      let P : Find O.C → Type 0 = λ t. From n lo cols t.cols in
      pick_ind P (O.le (get_or d j O.none) s.mind) (pick (O.lt (get_or d j O.none) s.mind) (find_take O k j fresh) (find_take O k j s)) s
      (pick_ind P (O.lt (get_or d j O.none) s.mind) (find_take O k j fresh) (find_take O k j s)
      (from-swap n lo cols s.cols k lo o.0.apart.len hk (omega arith) lk (le_refl lo) o.1)
      (from-swap n lo cols s.cols k s.hi o.0.apart.len hk (omega arith) lk (omega arith) o.1))
      o.1

  pub find-from : lo < n → Apart n cols → FindOk n lo n (find_dense O n lo d cols) × From n lo cols (find_dense O n lo d cols).cols
  unfolding find_dense
  find-from hl a =
      let s0 : Find O.C = record { cols = cols; hi = lo + 1; mind = get_or d (get_or cols lo 0) O.none } in
      walk-ind (find_step O lo d) (λ k s. FindOk n lo k s × From n lo cols s.cols) (lo + 1) n s0 (omega arith)
      (record { lo_hi = omega arith; hi-k = omega arith; apart = a }, from-refl n lo cols)
      (λ k t l u p. (step_ok O n lo d k t u p.0, both-step k t u (omega arith) p))
