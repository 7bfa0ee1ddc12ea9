-- What a round's marks mean as lists, as `AssocResult` has them: the matches, the unmatched objects, the unmatched tracks. Definitions only.
use Rattle.std.specs.Prelude.{◌≡◌, Bool, false, not, List, ◌++◌, map, ℕ, ◌+◌, ◌-◌, ltb, eqb, ℤ, pos, negsuc, Float, replicate}
use Rattle.std.specs.Float.Ieee.{is_nan}
use Rattle.lists.specs.Lists.{pick, keep, up_from, sum_of}
use Rattle.lapjv_walk.specs.Marks.{free, is_free, index, mark_at}
use Rattle.matching.specs.Matching.{Matrix, count_of}
use Rattle.matching.specs.Paired.{Fair}

-- an object and its track
pub record Match : Type 0 where
  pub det : ℕ
  pub trk : ℕ

abbrev pub names : ℤ → ℕ → Bool
names (pos k) j = eqb k j
names (negsuc n) j = false

-- one of nd marks names track j
abbrev pub named : ℕ → List ℤ → ℕ → Bool
named nd marks j = ltb 0 (count_of (λ i. names (mark_at marks i) j) nd)

-- in the order of the objects
abbrev pub matches_of : ℕ → List ℤ → List Match
matches_of nd marks = map (λ (i : ℕ). record { det = i; trk = index (mark_at marks i) }) (keep (λ (i : ℕ). not (is_free (mark_at marks i))) (up_from 0 nd))

abbrev pub unmatched_dets : ℕ → List ℤ → List ℕ
unmatched_dets nd marks = keep (λ (i : ℕ). is_free (mark_at marks i)) (up_from 0 nd)

abbrev pub unmatched_trks : ℕ → ℕ → List ℤ → List ℕ
unmatched_trks nd nt marks = keep (λ (j : ℕ). not (named nd marks j)) (up_from 0 nt)

-- how often a number is in a list
abbrev pub times : ℕ → List ℕ → ℕ
times k l = sum_of (λ (i : ℕ). pick (eqb i k) 1 0) l

-- each number below n is once in one of two lists, and no other number is in them
abbrev pub Parts : ℕ → List ℕ → List ℕ → Type 0
Parts n xs ys = (k : ℕ) → times k xs + times k ys ≡ pick (ltb k n) 1 0

-- each object is matched or unmatched, and so is each track
pub record Split (nd nt : ℕ) (marks : List ℤ) : Type 0 where
  pub dets : Parts nd (map (λ (m : Match). m.det) (matches_of nd marks)) (unmatched_dets nd marks)
  pub trks : Parts nt (map (λ (m : Match). m.trk) (matches_of nd marks)) (unmatched_trks nd nt marks)

-- the answer of a round: its marks, free behind them; no object and no track paired twice, none lost, and every pair by the threshold or more
pub record Round (nd nt : ℕ) (thr : Float) (iou : Matrix) (marks at : List ℤ) : Type 0 where
  pub is : at ≡ marks ++ replicate (64 - nd) free
  pub fair : is_nan thr ≡ false → Fair nd nt thr iou marks
  pub split : Split nd nt marks
