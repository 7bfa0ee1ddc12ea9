-- From marks that pair no object and no track twice: each object is matched or unmatched, and so is each track. Assumes nothing.
use mathlib.Core.Path.{◌≡◌, refl, sym, ap, ap₂, ◌∙◌}
use mathlib.Core.Bool.{Bool, true, false, not, ◌&&◌}
use mathlib.Core.List.{List, [], ◌∷◌, ◌++◌, map}
use Prim.Native.Nat.{ℕ, zero, suc, ◌+◌, ◌≤◌, ◌<◌}
use native.Mathlib.Nat.{zero-add, lt-suc_self}
use native.Mathlib.Numerals.{add-one}
use native.Mathlib.Omega.{arith}
use lib.Dec.{ltb, eqb}
use lib.IntN.{ℤ, pos, negsuc}
use borrow.Author.Tests.{ltb-true, ltb-false, lt-ltb, le-ltb, eqb-true, eqb-false}
use Rattle.lists.specs.Lists.{pick, put, keep, up_from, sum_of}
use Rattle.lists.proofs.Keep.{keep_append}
use Rattle.lists.proofs.All.{map-map, sum-append, sum-map, up_from-append}
use Rattle.lapjv_walk.specs.Marks.{is_free, index, mark_at}
use Rattle.lapjv_walk.proofs.Cases.{never, not-both}
use Rattle.matching.specs.Matching.{count_of}
use Rattle.matching.specs.Paired.{Paired}
use Rattle.matching.proofs.Counting.{count_none}
use Rattle.matching.specs.Split.{Match, names, named, matches_of, unmatched_dets, unmatched_trks, times, Parts, Split}

-- ---- the numbers below n

up-last : (n : ℕ) → up_from 0 (suc n) ≡ up_from 0 n ++ (n ∷ [])
up-last n = ap (up_from 0) (sym (add-one n)) ∙ (sym (up_from-append 0 n 1) ∙ ap (λ (k : ℕ). up_from 0 n ++ (k ∷ [])) (zero-add n))

-- the sum over those that pass, one more
kept-last : (f : ℕ → ℕ) (p : ℕ → Bool) (n : ℕ) → sum_of f (keep p (up_from 0 (suc n))) ≡ sum_of f (keep p (up_from 0 n)) + pick (p n) (f n) 0
kept-last f p n =
    ap (λ (l : List ℕ). sum_of f (keep p l)) (up-last n)
    ∙ (ap (sum_of f) (keep_append p (up_from 0 n) (n ∷ []))
    ∙ (sum-append f (keep p (up_from 0 n)) (put (p n) n []) ∙ ap (λ (k : ℕ). sum_of f (keep p (up_from 0 n)) + k) (go (p n))))
  where
    go : (b : Bool) → sum_of f (put b n []) ≡ pick b (f n) 0
    go true = omega arith
    go false = refl

-- how often k is among the numbers below n that pass
below_last : (k n : ℕ) (p : ℕ → Bool) → pick (ltb k n && p k) 1 0 + pick (p n) (pick (eqb n k) 1 0) 0 ≡ pick (ltb k (suc n) && p k) 1 0
below_last k n p = go (ltb k n) refl (eqb n k) refl
  where
    none : (b : Bool) (x : ℕ) → x + pick b 0 0 ≡ x
    none true x = omega arith
    none false x = omega arith

    go : (t : Bool) → ltb k n ≡ t → (u : Bool) → eqb n k ≡ u → pick (t && p k) 1 0 + pick (p n) (pick u 1 0) 0 ≡ pick (ltb k (suc n) && p k) 1 0
    go true e true f = let l : k < n = ltb-true k n e in let z : n ≡ k = eqb-true n k f in absurd (omega arith)
    go true e false f = let l : k < n = ltb-true k n e in rw (lt-ltb k (suc n) (omega arith)) (none (p n) (pick (p k) 1 0))
    go false e true f = let z : n ≡ k = eqb-true n k f in rw (lt-ltb k (suc n) (omega arith), z) (omega arith)
    go false e false f = let l : n ≤ k = ltb-false k n e in let z : n ≡ k → ⊥ = eqb-false n k f in rw (le-ltb k (suc n) (omega arith)) (none (p n) 0)

pub times-kept : (k : ℕ) (p : ℕ → Bool) (n : ℕ) → times k (keep p (up_from 0 n)) ≡ pick (ltb k n && p k) 1 0
times-kept k p zero = rw (le-ltb k 0 (omega arith))
times-kept k p (suc n) = kept-last (λ (i : ℕ). pick (eqb i k) 1 0) p n ∙ (ap (λ (t : ℕ). t + pick (p n) (pick (eqb n k) 1 0) 0) (times-kept k p n) ∙ below_last k n p)

map_same : (l : List ℕ) → map (λ (i : ℕ). i) l ≡ l
map_same [] = refl
map_same (k ∷ l) = ap (λ (r : List ℕ). k ∷ r) (map_same l)

-- ---- objects

module _ (nd nt : ℕ) (marks : List ℤ) where
  dets-of : map (λ (m : Match). m.det) (matches_of nd marks) ≡ keep (λ (i : ℕ). not (is_free (mark_at marks i))) (up_from 0 nd)
  dets-of = map-map (λ (m : Match). m.det) (λ (i : ℕ). record { det = i; trk = index (mark_at marks i) }) (keep (λ (i : ℕ). not (is_free (mark_at marks i))) (up_from 0 nd)) ∙ map_same (keep (λ (i : ℕ). not (is_free (mark_at marks i))) (up_from 0 nd))

  each-det : (k : ℕ) (b f : Bool) → pick (b && not f) 1 0 + pick (b && f) 1 0 ≡ pick b 1 0
  each-det k true true = refl
  each-det k true false = refl
  each-det k false f = refl

  dets-split : Parts nd (map (λ (m : Match). m.det) (matches_of nd marks)) (unmatched_dets nd marks)
  dets-split k =
      ap₂ ◌+◌ (ap (times k) dets-of ∙ times-kept k (λ (i : ℕ). not (is_free (mark_at marks i))) nd) (times-kept k (λ (i : ℕ). is_free (mark_at marks i)) nd)
      ∙ each-det k (ltb k nd) (is_free (mark_at marks k))

-- ---- tracks

names-is : (z : ℤ) (j : ℕ) → names z j ≡ true → z ≡ pos j
names-is (pos k) j e = ap pos (eqb-true k j e)
names-is (negsuc n) j e = never e

module _ (p : ℕ → Bool) where
  count-few : (n : ℕ) → ((i k : ℕ) → i < n → k < n → p i ≡ true → p k ≡ true → i ≡ k) → count_of p n ≤ 1
  count-few zero h = omega arith
  count-few (suc n) h = go (p n) refl (count-few n (λ i k a b. h i k (omega arith) (omega arith)))
    where
      other : p n ≡ true → (i : ℕ) → i < n → (b : Bool) → p i ≡ b → b ≡ false
      other e i l true f = let z : i ≡ n = h i n (omega arith) (lt-suc_self n) f e in absurd (omega arith)
      other e i l false f = refl

      go : (b : Bool) → p n ≡ b → count_of p n ≤ 1 → count_of p n + pick b 1 0 ≤ 1
      go true e ih = omega (arith, count_none p n (λ i l. other e i l (p i) refl))
      go false e ih = omega arith

  count-some : {X : Type 0} (n : ℕ) → 0 < count_of p n → ((i : ℕ) → i < n → p i ≡ true → X) → X
  count-some zero l f = absurd (omega arith)
  count-some {X} (suc n) l f = go (p n) refl l (λ m. count-some n m (λ i h e. f i (omega arith) e))
    where
      go : (b : Bool) → p n ≡ b → 0 < count_of p n + pick b 1 0 → (0 < count_of p n → X) → X
      go true e m ih = f n (lt-suc_self n) e
      go false e m ih = ih (omega arith)

module _ (nd nt : ℕ) (marks : List ℤ) (j : ℕ) where
  weighs : (z : ℤ) → ◌≡◌ {A = ℕ} (pick (not (is_free z)) (pick (eqb (index z) j) 1 0) 0) (pick (names z j) 1 0)
  weighs (pos k) = refl
  weighs (negsuc n) = refl

  weighed : (n : ℕ) → sum_of (λ (i : ℕ). pick (eqb (index (mark_at marks i)) j) 1 0) (keep (λ (i : ℕ). not (is_free (mark_at marks i))) (up_from 0 n)) ≡ count_of (λ i. names (mark_at marks i) j) n
  weighed zero = refl
  weighed (suc n) = kept-last (λ (i : ℕ). pick (eqb (index (mark_at marks i)) j) 1 0) (λ (i : ℕ). not (is_free (mark_at marks i))) n ∙ ap₂ ◌+◌ (weighed n) (weighs (mark_at marks n))

  matched-times : (n : ℕ) → times j (map (λ (m : Match). m.trk) (matches_of n marks)) ≡ count_of (λ i. names (mark_at marks i) j) n
  matched-times n =
      ap (times j) (map-map (λ (m : Match). m.trk) (λ (i : ℕ). record { det = i; trk = index (mark_at marks i) }) (keep (λ (i : ℕ). not (is_free (mark_at marks i))) (up_from 0 n)))
      ∙ (sum-map (λ (k : ℕ). pick (eqb k j) 1 0) (λ (i : ℕ). index (mark_at marks i)) (keep (λ (i : ℕ). not (is_free (mark_at marks i))) (up_from 0 n)) ∙ weighed n)

  trk-once : (b : Bool) (n : ℕ) → ltb j nt ≡ b → n ≤ 1 → (0 < n → j < nt) → n + pick (b && not (ltb 0 n)) 1 0 ≡ pick b 1 0
  trk-once true zero e h f = refl
  trk-once false zero e h f = refl
  trk-once true (suc zero) e h f = refl
  trk-once false (suc zero) e h f = not-both (ltb j nt) (lt-ltb j nt (f (omega arith))) e
  trk-once b (suc (suc n)) e h f = absurd (omega arith)

  trks-split : Paired nd nt marks → times j (map (λ (m : Match). m.trk) (matches_of nd marks)) + times j (unmatched_trks nd nt marks) ≡ pick (ltb j nt) 1 0
  trks-split s =
      let p : ℕ → Bool = λ i. names (mark_at marks i) j in
      ap₂ ◌+◌ (matched-times nd) (times-kept j (λ (k : ℕ). not (named nd marks k)) nt)
      ∙ trk-once (ltb j nt) (count_of p nd) refl
      (count-few p nd (λ i k a b e d. s.apart i k j a b (names-is (mark_at marks i) j e) (names-is (mark_at marks k) j d)))
      (λ l. count-some p nd l (λ i h e. s.below i j h (names-is (mark_at marks i) j e)))

pub split-of : (nd nt : ℕ) (marks : List ℤ) → Paired nd nt marks → Split nd nt marks
split-of nd nt marks p = record { dets = dets-split nd nt marks; trks = λ j. trks-split nd nt marks j p }
