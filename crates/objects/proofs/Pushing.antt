-- A list of objects kept as numbers: one more object, and one more turn of a loop over the frame. Assumes nothing.
use mathlib.Core.Path.{◌≡◌, refl, sym, ap, ◌∙◌}
use mathlib.Core.Bool.{Bool, true, false}
use mathlib.Core.List.{List, [], ◌∷◌, ◌++◌, append-nil}
use Prim.Native.Nat.{ℕ, ◌+◌, ◌≤◌, ◌<◌}
use native.Mathlib.Numerals.{add-one}
use native.Mathlib.Omega.{arith}
use lib.Ieee.{Float}
use lib.ListN.{length, length-append}
use Rattle.lists.specs.Lists.{pick, put, tab, keep}
use Rattle.lists.proofs.Tab.{length-tab}
use Rattle.lists.proofs.Keep.{keep_append, keep-short}
use Rattle.object.specs.declared.Detection.{Detection}
use Rattle.frame.specs.Objects.{Obj, detection_at, object_at}
use Rattle.objects.specs.declared.Dets.{Dets}
use Rattle.objects.specs.Dets.{five_of, dets_of, pushed}
use Rattle.objects.proofs.Cells.{flat-push}

pub push-one : (os : List Obj) (o : Obj) → length os < 64 → pushed (dets_of os) o.det ≡ dets_of (os ++ (o ∷ []))
unfolding pushed dets_of
push-one os o h = λ i. record { n = count i; cells = flat-push (λ (o : Obj). five_of o.det) 5 (λ o. refl) 320 os o (omega arith) i }
  where
    count : length os + 1 ≡ length (os ++ (o ∷ []))
    count = sym (length-append os (o ∷ []))

pub dets-count : (os : List Obj) → (dets_of os).n ≡ length os
unfolding dets_of
dets-count os = refl

-- a turn of a loop adds one at most
pub few-pushed : (q : Bool) (d r : Dets) (o : Detection) (p : ℕ) → r ≡ pick q (pushed d o) d → d.n ≤ p → r.n ≤ p + 1
unfolding pushed
few-pushed true d r o p e h = rw e (omega (arith, h))
few-pushed false d r o p e h = rw e (omega (arith, h))

module _ (t : Obj → Bool) (input : List Float) where
  abbrev passed : ℕ → List Obj
  passed p = keep t (tab (object_at input) p)

  pub few : (p : ℕ) → length (passed p) ≤ p
  few p = omega (arith, keep-short t (tab (object_at input) p), length-tab (object_at input) p)

  pub room : (p : ℕ) (d : Dets) → d ≡ dets_of (passed p) → p < 64 → d.n < 64
  room p d e l = rw e (omega (arith, dets-count (passed p), few p))

  one_more : (p : ℕ) (q : Bool) → t (object_at input p) ≡ q → passed (p + 1) ≡ passed p ++ put q (object_at input p) []
  one_more p q e = rw (add-one p, keep_append t (tab (object_at input) p) (object_at input p ∷ [])) (ap (λ (b : Bool). passed p ++ put b (object_at input p) []) e)

  turned : (p : ℕ) (q : Bool) → t (object_at input p) ≡ q → p < 64 → pick q (pushed (dets_of (passed p)) (detection_at input p)) (dets_of (passed p)) ≡ dets_of (passed (p + 1))
  turned p true h l = push-one (passed p) (object_at input p) (omega (arith, few p)) ∙ ap dets_of (sym (one_more p true h))
  turned p false h l = ap dets_of (sym (one_more p false h ∙ append-nil (passed p)))

  -- one more turn of the loop
  pub turn : (p : ℕ) (d r : Dets) (o : Detection) (q : Bool) → d ≡ dets_of (passed p) → o ≡ detection_at input p → q ≡ t (object_at input p) → r ≡ pick q (pushed d o) d → p < 64 → r ≡ dets_of (passed (p + 1))
  turn p d r o q e f g h l = h ∙ rw (e, f, g) (turned p (t (object_at input p)) refl l)
