-- What every step keeps: at the prices v each column's row has no cheaper column, and the prices stay in bounds. Assumes nothing.
use mathlib.Core.Path.{◌≡◌, refl, sym, ◌∙◌, ap}
use mathlib.Core.Bool.{true, false}
use mathlib.Core.List.{List}
use mathlib.Core.Logic.{⊎_elim}
use Prim.Native.Nat.{ℕ, ◌<◌}
use lib.IntN.{ℤ, pos}
use lib.ListN.{get_or, length, set}
use lib.Seq.{get_or-set_other, get_or-set_same}
use native.Mathlib.Decide.{ℕ_discrete}
use native.Mathlib.Omega.{arith}
use Rattle.lists.specs.Lists.{tab}
use Rattle.lists.proofs.Tab.{get_or-tab, length-tab}
use Rattle.lapjv_walk.specs.Holds.{Apart, Marked, Queue, Room, Waits}
use Rattle.lapjv_walk.specs.Marks.{is_free}
use Rattle.lapjv_walk.specs.Ops.{cost_at}
use Rattle.lapjv_walk.proofs.Cases.{not-both, pos_inj}
use Rattle.lapjv_walk.proofs.Pairing.{marked, some-free}
use Rattle.lapjv_walk.proofs.Pigeon.{some_or_none}
use Rattle.lapint_walk.specs.Wholes.{wholes}
pub use Rattle.lapint_walk.specs.Holds.{Costs, Good, rc, val}
use Rattle.lapint_walk.proofs.Numbers.{Le, Low, Equal, LeMinus}

pub same : {a b : ℤ} → a ≡ b → Equal a b
same {a} {b} e = rw e refl

-- row i has column j from now on, whose price may fall
module _ (n : ℕ) (cost y z v w : List ℤ) (g : Good n cost y v) (i j : ℕ) (here : get_or z j (pos 0) ≡ pos i) (there : (k : ℕ) → (k ≡ j → ⊥) → get_or z k (pos 0) ≡ get_or y k (pos 0)) (lw : length w ≡ n)
    (others : (k : ℕ) → (k ≡ j → ⊥) → val w k ≡ val v k) (falls : Le (val w j) (val v j))
    (best : (k : ℕ) → k < n → LeMinus (cost_at wholes n cost i j) (val w j) (cost_at wholes n cost i k) (val w k))
    (far : Low 1_000_001_000_000 (val w j)) (near : (f : ℕ) → f < n → (f ≡ j → ⊥) → is_free (get_or y f (pos 0)) ≡ true → Low 3_000_000 (val w j)) where
  lower : (k : ℕ) → Le (val w k) (val v k)
  lower k = elim (ℕ_discrete k j) [
    | yes e ↦ rw e falls
    | no u ↦ omega (arith, same (others k u))
  ]

  was_free : (f : ℕ) → is_free (get_or z f (pos 0)) ≡ true → (f ≡ j → ⊥) × (is_free (get_or y f (pos 0)) ≡ true)
  was_free f e = elim (ℕ_discrete f j) [
    | yes r ↦ not-both (is_free (get_or z f (pos 0))) e (ap is_free (ap (λ (k : ℕ). get_or z k (pos 0)) r ∙ here))
    | no u ↦ (u, rw (there f u) at e)
  ]

  pub has-good : Good n cost z w
  has-good = record {
    len_v = lw;
    tight = λ q r k hq hk e. elim (ℕ_discrete q j) [
      | yes a ↦ let ir : i ≡ r = pos_inj i r (sym here ∙ ap (λ (k : ℕ). get_or z k (pos 0)) (sym a) ∙ e) in rw (a, ← ir) (best k hk)
      | no u ↦ omega (arith, g.tight q r k hq hk (sym (there q u) ∙ e), same (others q u), lower k)
    ];
    top = λ q hq. omega (arith, g.top q hq, lower q);
    deep = λ q hq. elim (ℕ_discrete q j) [ yes a ↦ rw a far | no u ↦ omega (arith, g.deep q hq, same (others q u)) ];
    open_low = λ f hf e. omega (arith, g.open_low f hf (was_free f e).1, same (others f (was_free f e).0));
    rest_low = λ f q hf hq e. elim (ℕ_discrete q j) [
      | yes a ↦ rw a (near f hf (was_free f e).0 (was_free f e).1)
      | no u ↦ omega (arith, g.rest_low f q hf hq (was_free f e).1, same (others q u))
    ];
  }

-- row i takes column j
module _ (n : ℕ) (cost y v w : List ℤ) (g : Good n cost y v) (i j : ℕ) (hj : j < n) (ly : length y ≡ n) (lw : length w ≡ n)
    (others : (k : ℕ) → (k ≡ j → ⊥) → val w k ≡ val v k) (falls : Le (val w j) (val v j))
    (best : (k : ℕ) → k < n → LeMinus (cost_at wholes n cost i j) (val w j) (cost_at wholes n cost i k) (val w k))
    (far : Low 1_000_001_000_000 (val w j)) (near : (f : ℕ) → f < n → (f ≡ j → ⊥) → is_free (get_or y f (pos 0)) ≡ true → Low 3_000_000 (val w j)) where
  pub seat-good : Good n cost (set y j (pos i)) w
  seat-good =
      has-good n cost y (set y j (pos i)) v w g i j (get_or-set_same y j (pos i) (pos 0) (omega arith)) (λ k u. get_or-set_other y j k (pos i) (pos 0) u) lw others falls best far near

-- ---- a free column

pub in_order : (n : ℕ) → Apart n (tab (λ j. j) n)
in_order n = record { len = length-tab _ n; below = λ i h. rw (get_or-tab (λ (j : ℕ). j) n 0 i h) h; inj = λ p q hp hq e. sym (get_or-tab (λ (j : ℕ). j) n 0 p hp) ∙ e ∙ get_or-tab (λ (j : ℕ). j) n 0 q hq }

pub open-column : (n : ℕ) (y : List ℤ) → Marked n y → Room n y → (f : ℕ) × (f < n) × (is_free (get_or y f (pos 0)) ≡ true)
open-column n y m room = ⊎_elim (λ w. w)
    (λ (w : (f : ℕ) → f < n → is_free (get_or y f (pos 0)) ≡ false). absurd (room (tab (λ j. j) n) (in_order n) (λ q h. rw (get_or-tab (λ (j : ℕ). j) n 0 q h) (m.seat q h (w q h)))))
    (some_or_none (λ f. is_free (get_or y f (pos 0))) n)

-- where a row waits not all columns are taken
module _ (n : ℕ) (A : ℕ → Type 0) (rows : List ℕ) (x y : List ℤ) (q : Queue n A rows x y) (p : ℕ) (ap' : A p) where
  pub waits-marked : Marked n y
  waits-marked = marked n (λ k. Waits A rows k) x y q.pairs

  pub waits-room : Room n y
  waits-room cols a held = some-free n (λ k. Waits A rows k) x y q.pairs (get_or rows p 0) (q.below p ap') (record { p = p; act = ap'; is = refl }) (λ r. get_or cols r 0) a.below a.inj held

  pub waits-open : (f : ℕ) × (f < n) × (is_free (get_or y f (pos 0)) ≡ true)
  waits-open = open-column n y waits-marked waits-room
