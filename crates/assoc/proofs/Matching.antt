-- No object and no track is paired twice, and every pair overlaps by the threshold or more: in the shortcut, in the assignment, and where pairs are dropped.
-- For any numbers and any threshold but NaN. Assumes nothing.
use mathlib.Core.Path.{◌≡◌, refl, sym, ap, subst, ◌∙◌}
use mathlib.Core.Bool.{Bool, true, false, not, ◌&&◌}
use mathlib.Core.List.{List}
use Prim.Native.Nat.{ℕ, zero, suc, ◌<◌}
use native.Mathlib.Omega.{arith}
use lib.Dec.{T, ltb, eqb}
use lib.IntN.{ℤ, pos}
use lib.Ieee.{Float, lt, le, is_nan}
use borrow.Author.Tests.{ltb-true, eqb-true, not-true}
use Rattle.object.specs.declared.Corners.{Corners}
use Rattle.object.specs.declared.Detection.{Detection}
use Rattle.object.specs.Object.{corners_of}
use Rattle.lapjv_walk.specs.Marks.{free, is_free, index, mark_at}
use Rattle.lapjv_walk.specs.Ops.{floats}
use Rattle.lapjv_walk.specs.Lapjv.{lapjv, OneToOne, Sits}
use Rattle.lapjv_walk.proofs.Cases.{pos_inj, pos-free, and_right}
use Rattle.lapjv_walk.proofs.Whole.{one_to_one}
use Rattle.lists.specs.Lists.{pick, tab}
use Rattle.lists.proofs.Tab.{length-tab, get_or-tab}
use Rattle.pair.specs.Angle.{Step}
use Rattle.matching.specs.Matching.{Matrix, Pattern, above_of, count_of, fullest, shortcut, passing, larger, costs_of, within, assigned, kept_where, match_or_lapjv, matched, rematched, some_above, later_round}
use Rattle.matching.specs.Associate.{overlaps, combined, associate, reassociate}
use Rattle.matching.specs.Paired.{Paired, Fair}
use Rattle.matching.proofs.Counting.{fullest-most}
use Rattle.assign.proofs.Marking.{larger-left}
use Rattle.assoc.proofs.Counts.{only_one, passing-is}
use Rattle.assoc.proofs.AtOrAbove.{kept_pair}

-- a mark taken where a test passed
picked : (t : Bool) (m : ℤ) (j : ℕ) → pick t m free ≡ pos j → (t ≡ true) × (m ≡ pos j)
picked true m j e = (refl, e)
picked false m j e = absurd (pos-free j (sym e))

-- the marks that a rule gives each object
module _ (nd nt : ℕ) (f : ℕ → ℤ) where
  mark-is : (i j : ℕ) → i < nd → mark_at (tab f nd) i ≡ pos j → f i ≡ pos j
  mark-is i j h e = sym (get_or-tab f nd (pos 0) i h) ∙ e

  pub by-rule : ((i j : ℕ) → i < nd → f i ≡ pos j → j < nt) → ((i k j : ℕ) → i < nd → k < nd → f i ≡ pos j → f k ≡ pos j → i ≡ k) → Paired nd nt (tab f nd)
  by-rule b a = record {
    len = length-tab f nd;
    below = λ i j h e. b i j h (mark-is i j h e);
    apart = λ i k j h g e d. a i k j h g (mark-is i j h e) (mark-is k j g d);
  }

pub none-paired : (nd nt : ℕ) → Paired nd nt (tab (λ _. free) nd)
none-paired nd nt = by-rule nd nt (λ _. free) (λ i j h e. absurd (pos-free j (sym e))) (λ i k j h g e d. absurd (pos-free j (sym e)))

-- ---- dropping pairs

module _ (nd nt : ℕ) (passes : Float → Bool) (m : Matrix) (marks : List ℤ) where
  abbrev kept : ℕ → ℤ
  kept i = pick (not (is_free (mark_at marks i)) && passes (m i (index (mark_at marks i)))) (mark_at marks i) free

  kept-mark : (i j : ℕ) → kept i ≡ pos j → mark_at marks i ≡ pos j
  kept-mark i j e = (picked (not (is_free (mark_at marks i)) && passes (m i (index (mark_at marks i)))) (mark_at marks i) j e).1

  pub kept-paired : Paired nd nt marks → Paired nd nt (kept_where nd passes m marks)
  unfolding kept_where
  kept-paired p = by-rule nd nt kept (λ i j h e. p.below i j h (kept-mark i j e)) (λ i k j h g e d. p.apart i k j h g (kept-mark i j e) (kept-mark k j d))

  pub kept-passes : (i j : ℕ) → i < nd → mark_at (kept_where nd passes m marks) i ≡ pos j → passes (m i j) ≡ true
  unfolding kept_where
  kept-passes i j h e =
      let q : kept i ≡ pos j = mark-is nd nt kept i j h e in
      let t : passes (m i (index (mark_at marks i))) ≡ true = and_right (not (is_free (mark_at marks i))) (passes (m i (index (mark_at marks i)))) (picked (not (is_free (mark_at marks i)) && passes (m i (index (mark_at marks i)))) (mark_at marks i) j q).0 in
      rw (ap index (kept-mark i j q)) at t

-- ---- the assignment

module _ (nd nt : ℕ) (m : Matrix) where
  abbrev x' : List ℤ
  x' = (lapjv floats (larger nd nt) (costs_of nd nt m)).x

  within-is : (z : ℤ) (j : ℕ) → within nt z ≡ pos j → (j < nt) × (z ≡ pos j)
  within-is z j e =
      let p : (not (is_free z) && ltb (index z) nt) ≡ true = (picked (not (is_free z) && ltb (index z) nt) z j e).0 in
      let q : z ≡ pos j = (picked (not (is_free z) && ltb (index z) nt) z j e).1 in
      let l : ltb (index z) nt ≡ true = and_right (not (is_free z)) (ltb (index z) nt) p in
      (ltb-true j nt (rw (ap index q) at l), q)

  column-row : OneToOne (larger nd nt) x' (lapjv floats (larger nd nt) (costs_of nd nt m)).y → (i j : ℕ) → i < nd → mark_at x' i ≡ pos j → mark_at (lapjv floats (larger nd nt) (costs_of nd nt m)).y j ≡ pos i
  column-row o i j h e =
      let s : Sits (larger nd nt) x' (lapjv floats (larger nd nt) (costs_of nd nt m)).y i = o.rows i (omega (arith, larger-left nd nt)) in
      let q : s.j ≡ j = pos_inj s.j j (sym s.x_is ∙ e) in
      rw q at s.y_is

  pub assigned-paired : Paired nd nt (assigned nd nt m)
  unfolding assigned
  assigned-paired = by-rule nd nt (λ i. within nt (mark_at x' i)) (λ i j h e. (within-is (mark_at x' i) j e).0)
      (λ i k j h g e d.
      let o : OneToOne (larger nd nt) x' (lapjv floats (larger nd nt) (costs_of nd nt m)).y = one_to_one floats (larger nd nt) (costs_of nd nt m) (omega (arith, larger-left nd nt, h)) in
      pos_inj i k (sym (column-row o i j h (within-is (mark_at x' i) j e).1) ∙ column-row o k j g (within-is (mark_at x' k) j d).1))

-- ---- the shortcut

module _ (nd nt : ℕ) (p : Pattern) where
  pub shortcut-paired : shortcut nd nt p ≡ true → Paired nd nt (tab (λ i. passing (p i) nt) nd)
  unfolding shortcut
  shortcut-paired s =
      let c : fullest (λ j. count_of (λ i. p i j) nd) nt ≡ 1 = eqb-true _ _ (and_right (eqb (fullest (λ i. count_of (λ j. p i j) nt) nd) 1) (eqb (fullest (λ j. count_of (λ i. p i j) nd) nt) 1) s) in
      by-rule nd nt (λ i. passing (p i) nt) (λ i j h e. (passing-is (p i) nt j e).0)
      (λ i k j h g e d. only_one (λ r. p r j) nd i k (omega (arith, c, fullest-most (λ q. count_of (λ r. p r q) nd) nt j (passing-is (p i) nt j e).0)) h g (passing-is (p i) nt j e).1 (passing-is (p k) nt j d).1)

-- ---- the rounds

chosen-paired : (nd nt : ℕ) (p : Pattern) (cost : Matrix) (t : Bool) → shortcut nd nt p ≡ t → Paired nd nt (pick t (tab (λ i. passing (p i) nt) nd) (assigned nd nt cost))
chosen-paired nd nt p cost true e = shortcut-paired nd nt p e
chosen-paired nd nt p cost false e = assigned-paired nd nt cost

pub match-paired : (nd nt : ℕ) (thr : Float) (iou cost : Matrix) → Paired nd nt (match_or_lapjv nd nt thr iou cost)
unfolding match_or_lapjv
match-paired nd zero thr iou cost = none-paired nd 0
match-paired nd (suc n) thr iou cost = chosen-paired nd (suc n) (above_of thr iou) cost (shortcut nd (suc n) (above_of thr iou)) refl

-- `associate`
pub associate-fair : (thr inertia : Float) (nd nt : ℕ) (det : ℕ → Detection) (box : ℕ → Corners) (direction : ℕ → Step) (previous : ℕ → Detection) → is_nan thr ≡ false
    → Fair nd nt thr (overlaps det box) (associate thr inertia nd nt det box direction previous)
unfolding associate matched
associate-fair thr inertia nd nt det box direction previous n =
    let iou : Matrix = overlaps det box in
    let marks : List ℤ = match_or_lapjv nd nt thr iou (combined inertia det box direction previous) in
    record {
      paired = kept-paired nd nt (λ o. not (lt o thr)) iou marks (match-paired nd nt thr iou (combined inertia det box direction previous));
      meets = λ i j h e. kept_pair (corners_of (det i)) (box j) thr n (not-true _ (kept-passes nd nt (λ o. not (lt o thr)) iou marks i j h e));
    }

at_least : (b : Bool) → b ≡ true → T b
at_least b e = subst T (sym e) tt

rematched-fair : (nd nt : ℕ) (thr : Float) (iou : Matrix) → Fair nd nt thr iou (rematched nd nt thr iou)
unfolding rematched
rematched-fair nd nt thr iou = record {
  paired = kept-paired nd nt (λ o. le thr o) iou (assigned nd nt iou) (assigned-paired nd nt iou);
  meets = λ i j h e. at_least (le thr (iou i j)) (kept-passes nd nt (λ o. le thr o) iou (assigned nd nt iou) i j h e);
}

none-fair : (nd nt : ℕ) (thr : Float) (iou : Matrix) → Fair nd nt thr iou (tab (λ _. free) nd)
none-fair nd nt thr iou = record {
  paired = none-paired nd nt;
  meets = λ i j h e. absurd (pos-free j (sym (mark-is nd nt (λ _. free) i j h e)));
}

started-fair : (nd nt : ℕ) (thr : Float) (iou : Matrix) (t : Bool) → Fair nd nt thr iou (pick t (rematched nd nt thr iou) (tab (λ _. free) nd))
started-fair nd nt thr iou true = rematched-fair nd nt thr iou
started-fair nd nt thr iou false = none-fair nd nt thr iou

-- a later round
pub reassociate-fair : (thr : Float) (nd nt : ℕ) (det : ℕ → Detection) (box : ℕ → Corners) → Fair nd nt thr (overlaps det box) (reassociate thr nd nt det box)
unfolding reassociate later_round
reassociate-fair thr nd nt det box = started-fair nd nt thr (overlaps det box) (some_above nd nt thr (overlaps det box))
