-- A later round in which no overlap is above the threshold changes nothing; and rounds before it only take tracks away from it. Assumes nothing.
use Rattle.std.specs.Prelude.{Option, Some, None}
use Rattle.std.proofs.lemmas.Option.{none-some}
use mathlib.Core.Path.{◌≡◌, refl, sym, ap, subst, ◌∙◌}
use mathlib.Core.Bool.{Bool, true, false}
use mathlib.Core.List.{List, [], ◌∷◌, map, Memᴰ}
use mathlib.Core.Logic.{◌⊎◌, inl, inr}
use Prim.Native.Nat.{ℕ, zero, suc, ◌<◌}
use native.Mathlib.Nat.{zero-add}
use lib.Dec.{T, ltb}
use lib.IntN.{ℤ, pos, negsuc}
use lib.Ieee.{Float, lt}
use lib.ListN.{length, get_or, set}
use Rattle.lists.specs.Lists.{pick, tab, All}
use Rattle.lists.proofs.All.{all-at, all_set, all_map, all_append}
use Rattle.object.specs.declared.Corners.{Corners}
use Rattle.object.specs.Object.{corners_of}
use Rattle.pair.specs.Overlap.{overlap_of}
use Rattle.lapjv_walk.specs.Marks.{free, is_free}
use Rattle.lapjv_walk.proofs.Cases.{never}
use Rattle.matching.specs.Matching as Matching
use Rattle.matching.specs.Matching.{Matrix, above_of, count_of, fullest, rematched, some_above}
use Rattle.matching.specs.Associate.{overlaps, reassociate}
use Rattle.matching.proofs.Counting.{count_none, fullest-same}
use Rattle.frame.specs.declared.Settings.{Settings}
use Rattle.frame.specs.Objects.{Obj}
use Rattle.frame.specs.Rounds.{View, Grant, Slot, no_slot, no_obj, no_corners, det_of, slot_at, seat, left_by, open_from, place_of, later_marks, later_round}
use Rattle.frame.proofs.OpenSlots.{OpenAt, open_at, box-at}
use Rattle.round_order.specs.Order.{OverlapAbove}

-- ---- no number above, no mark

fullest-none : (n : ℕ) → fullest (λ _. 0) n ≡ 0
fullest-none zero = refl
fullest-none (suc n) = rw (fullest-none n) refl

nothing_above : (nd nt : ℕ) (thr : Float) (iou : Matrix) → ((i j : ℕ) → i < nd → j < nt → lt thr (iou i j) ≡ false) → some_above nd nt thr iou ≡ false
unfolding some_above above_of
nothing_above nd nt thr iou h =
    ap (ltb 0) (fullest-same (λ i. count_of (λ j. above_of thr iou i j) nt) (λ _. 0) nd (λ i l. count_none (λ j. above_of thr iou i j) nt (λ j m. h i j l m)) ∙ fullest-none nd)

abbrev Free : ℤ → Type 0
Free m = is_free m ≡ true

tab-free : (n : ℕ) → All Free (tab (λ _. free) n)
tab-free zero = tt
tab-free (suc n) = all_append Free (tab (λ _. free) n) (free ∷ []) (tab-free n) (refl, tt)

placed-free : (js : List ℕ) (m : ℤ) → Free m → Free (place_of js m)
placed-free js (negsuc n) e = refl
placed-free js (pos t) e = never e

seat-free : (k : ℕ) (ms : List ℤ) (os : List Obj) (ss : List Slot) → All Free ms → seat k ms os ss ≡ ss
seat-free k [] os ss a = refl
seat-free k (m ∷ ms) [] ss a = refl
seat-free k (negsuc n ∷ ms) (o ∷ os) ss a = seat-free k ms os ss a.1
seat-free k (pos t ∷ ms) (o ∷ os) ss a = never a.0

left-free : (ms : List ℤ) (os : List Obj) → All Free ms → left_by ms os ≡ os
left-free [] os a = refl
left-free (m ∷ ms) [] a = refl
left-free (negsuc n ∷ ms) (o ∷ os) a = ap (λ (r : List Obj). o ∷ r) (left-free ms os a.1)
left-free (pos t ∷ ms) (o ∷ os) a = never a.0

-- ---- tracks that no object overlaps by more than the threshold

module _ (s : Settings) (target : View → Corners) where
  abbrev exceeds : Obj → View → Bool
  exceeds o v = lt s.iou_threshold (overlap_of (corners_of o.det) (target v))

  -- none of the objects, if the track has no grant
  abbrev pub NoneAbove : List Obj → Slot → Type 0
  NoneAbove os a = a.got ≡ None → All (λ (o : Obj). exceeds o a.view ≡ false) os

  -- ---- they stay so, whatever another round grants

  pub seat-none-above : (os : List Obj) (k : ℕ) (ms : List ℤ) (qs : List Obj) (ss : List Slot) → All (NoneAbove os) ss → All (NoneAbove os) (seat k ms qs ss)
  seat-none-above os k [] qs ss c = c
  seat-none-above os k (m ∷ ms) [] ss c = c
  seat-none-above os k (negsuc n ∷ ms) (q ∷ qs) ss c = seat-none-above os k ms qs ss c
  seat-none-above os k (pos t ∷ ms) (q ∷ qs) ss c =
      let a : Slot = record { view = (slot_at ss t).view; got = Some (record { round = k; obj = q }) } in
      seat-none-above os k ms qs (set ss t a) (all_set (NoneAbove os) ss t a c (λ e. absurd (none-some _ (sym e))))

  -- ---- their round changes nothing

  module _ (ss : List Slot) (os : List Obj) (c : All (NoneAbove os) ss) where
    abbrev js : List ℕ
    js = open_from 0 ss

    abbrev open_box : ℕ → Corners
    open_box j = get_or (map (λ i. target (slot_at ss i).view) js) j no_corners

    not-above : (i j : ℕ) → i < length os → j < length js → lt s.iou_threshold (overlaps (det_of os) open_box i j) ≡ false
    not-above i j h l =
        let o : OpenAt 0 ss j = open_at 0 ss j l in
        let b : open_box j ≡ target (slot_at ss o.d).view = box-at target ss j l ∙ ap (λ (x : ℕ). target (slot_at ss x).view) (o.place ∙ zero-add o.d) in
        ap (λ (x : Corners). lt s.iou_threshold (overlap_of (corners_of (det_of os i)) x)) b
        ∙ all-at (λ (x : Obj). exceeds x (slot_at ss o.d).view ≡ false) os no_obj (all-at (NoneAbove os) ss no_slot c o.d o.there o.empty) i h

    marks-free : All Free (later_marks target s ss os)
    unfolding reassociate Matching.later_round
    marks-free =
        let n : some_above (length os) (length js) s.iou_threshold (overlaps (det_of os) open_box) ≡ false = nothing_above (length os) (length js) s.iou_threshold (overlaps (det_of os) open_box) not-above in
        all_map Free Free (place_of js) (placed-free js) (reassociate s.iou_threshold (length os) (length js) (det_of os) open_box)
        (subst (λ (b : Bool). All Free (pick b (rematched (length os) (length js) s.iou_threshold (overlaps (det_of os) open_box)) (tab (λ _. free) (length os)))) (sym n) (tab-free (length os)))

    pub quiet : (k : ℕ) → later_round k target s ss os ≡ record { slots = ss; left = os }
    unfolding later_round
    quiet k = λ i. record { slots = seat-free k (later_marks target s ss os) os ss marks-free i; left = left-free (later_marks target s ss os) os marks-free i }

  -- ---- either they are all so, or one isn't

  find : (v : View) (os : List Obj) → All (λ (o : Obj). exceeds o v ≡ false) os ⊎ ((o : Obj) × Memᴰ o os × T (exceeds o v))
  find v [] = inl tt
  find v (o ∷ os) = go (exceeds o v) refl (find v os)
    where
      go : (b : Bool) → exceeds o v ≡ b → All (λ (x : Obj). exceeds x v ≡ false) os ⊎ ((x : Obj) × Memᴰ x os × T (exceeds x v))
          → All (λ (x : Obj). exceeds x v ≡ false) (o ∷ os) ⊎ ((x : Obj) × Memᴰ x (o ∷ os) × T (exceeds x v))
      go true e r = inr (o, Memᴰ.head refl, subst T (sym e) tt)
      go false e (inl a) = inl (e, a)
      go false e (inr w) = inr (w.0, Memᴰ.tail w.1, w.2)

  further : (a : Slot) (ss : List Slot) (os : List Obj) → OverlapAbove s target ss os → OverlapAbove s target (a ∷ ss) os
  further a ss os w = record { obj = w.obj; slot = w.slot; among_objects = w.among_objects; among_tracks = Memᴰ.tail w.among_tracks; ungranted = w.ungranted; above = w.above }

  pub look : (ss : List Slot) (os : List Obj) → All (NoneAbove os) ss ⊎ OverlapAbove s target ss os
  look [] os = inl tt
  look (a ∷ ss) os = go a.got refl (find a.view os) (look ss os)
    where
      go : (g : Option Grant) → a.got ≡ g → All (λ (o : Obj). exceeds o a.view ≡ false) os ⊎ ((o : Obj) × Memᴰ o os × T (exceeds o a.view)) → All (NoneAbove os) ss ⊎ OverlapAbove s target ss os
          → All (NoneAbove os) (a ∷ ss) ⊎ OverlapAbove s target (a ∷ ss) os
      go (Some g) e f (inl c) = inl (λ n. absurd (none-some g (sym n ∙ e)), c)
      go (Some g) e f (inr w) = inr (further a ss os w)
      go None e (inl o) (inl c) = inl (λ n. o, c)
      go None e (inr u) (inl c) = inr (record { obj = u.0; slot = a; among_objects = u.1; among_tracks = Memᴰ.head refl; ungranted = e; above = u.2 })
      go None e f (inr w) = inr (further a ss os w)
