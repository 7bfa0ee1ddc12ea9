-- Document 01, item 6, in the order of document 02, 2.8: the rounds that pair objects with tracks. A slot is a track's view and what it was granted. Definitions only.
use Rattle.std.specs.Prelude.{List, [], ◌∷◌, map, ℕ, suc, ℤ, pos, negsuc, length, get_or, set, Option, Some, None}
use Rattle.std.specs.Float.{nan}
use Rattle.std.specs.Option.{option_map}
use Rattle.lists.specs.Lists.{pick}
use Rattle.object.specs.declared.Corners.{Corners}
use Rattle.object.specs.declared.Detection.{Detection}
use Rattle.pair.specs.Angle.{Step}
use Rattle.matching.specs.Associate.{associate, reassociate}
use Rattle.frame.specs.declared.Settings.{Settings}
use Rattle.frame.specs.Objects.{Obj, first_class, spares}

-- What the rounds see of a track: its predicted box, its direction (0, 0 if unknown), its last box and its previous box (-1 five times if there is none).
pub record View : Type 0 where
  pub box : Corners
  pub direction : Step
  pub last : Corners
  pub previous : Detection

-- an object granted to a track, with the round that paired them: 0 predicted boxes, 1 spares, 2 last boxes, which says what it was compared with and not when
pub record Grant : Type 0 where
  pub round : ℕ
  pub obj : Obj

pub record Slot : Type 0 where
  pub view : View
  pub got : Option Grant

-- the slots after a round, and the objects it left
pub record Work : Type 0 where
  pub slots : List Slot
  pub left : List Obj

abbrev pub empty_slot : View → Slot
empty_slot v = record { view = v; got = None }

-- past the ends of lists; never read
abbrev pub no_corners : Corners
no_corners = record { x1 = nan; y1 = nan; x2 = nan; y2 = nan }

abbrev pub no_detection : Detection
no_detection = record { x1 = nan; y1 = nan; x2 = nan; y2 = nan; score = nan }

abbrev pub no_obj : Obj
no_obj = record { place = 0; det = no_detection }

abbrev pub no_view : View
no_view = record { box = no_corners; direction = record { dy = nan; dx = nan }; last = no_corners; previous = no_detection }

abbrev pub no_slot : Slot
no_slot = empty_slot no_view

abbrev pub det_of : List Obj → ℕ → Detection
det_of os i = (get_or os i no_obj).det

abbrev pub view_at : List View → ℕ → View
view_at vs j = get_or vs j no_view

abbrev pub slot_at : List Slot → ℕ → Slot
slot_at ss t = get_or ss t no_slot

-- ---- grants by marks

-- the slot at a mark is granted the object
abbrev pub grant_to : ℕ → ℤ → Obj → List Slot → List Slot
grant_to k (negsuc n) o ss = ss
grant_to k (pos t) o ss = set ss t (record { view = (slot_at ss t).view; got = Some (record { round = k; obj = o }) })

-- each object in turn goes to the slot that its mark names
abbrev pub seat : ℕ → List ℤ → List Obj → List Slot → List Slot
seat k [] os ss = ss
seat k (m ∷ ms) [] ss = ss
seat k (m ∷ ms) (o ∷ os) ss = seat k ms os (grant_to k m o ss)

-- the objects whose mark is free
abbrev pub unless_taken : ℤ → Obj → List Obj → List Obj
unless_taken (negsuc n) o os = o ∷ os
unless_taken (pos t) o os = os

abbrev pub left_by : List ℤ → List Obj → List Obj
left_by [] os = os
left_by (m ∷ ms) [] = []
left_by (m ∷ ms) (o ∷ os) = unless_taken m o (left_by ms os)

-- ---- the rounds

-- the slots that have no grant yet, by their places
abbrev pub unless_granted : Option Grant → ℕ → List ℕ → List ℕ
unless_granted None j js = j ∷ js
unless_granted (Some g) j js = js

abbrev pub open_from : ℕ → List Slot → List ℕ
open_from j [] = []
open_from j (s ∷ ss) = unless_granted s.got j (open_from (suc j) ss)

-- a mark among the open slots, as a place among all
abbrev pub place_of : List ℕ → ℤ → ℤ
place_of js (negsuc n) = negsuc n
place_of js (pos t) = pos (get_or js t 0)

-- the marks of the round on predicted boxes, with directions
abbrev pub first_marks : Settings → List View → List Obj → List ℤ
first_marks s vs os = associate s.iou_threshold s.inertia (length os) (length vs) (det_of os) (λ j. (view_at vs j).box) (λ j. (view_at vs j).direction) (λ j. (view_at vs j).previous)

unfoldable pub first_round : Settings → List View → List Obj → Work
first_round s vs os = record { slots = seat 0 (first_marks s vs os) os (map empty_slot vs); left = left_by (first_marks s vs os) os }

-- the marks of a later round: the objects and the slots without a grant, by overlap with one of the slot's boxes
abbrev pub later_marks : (View → Corners) → Settings → List Slot → List Obj → List ℤ
later_marks target s ss os =
    let js = open_from 0 ss in
    let boxes = map (λ j. target (slot_at ss j).view) js in
    map (place_of js) (reassociate s.iou_threshold (length os) (length js) (det_of os) (λ j. get_or boxes j no_corners))

unfoldable pub later_round : ℕ → (View → Corners) → Settings → List Slot → List Obj → Work
later_round k target s ss os = record { slots = seat k (later_marks target s ss os) os ss; left = left_by (later_marks target s ss os) os }

-- the spares, where `use_byte` lets them in
abbrev pub byte_objects : Settings → List Obj → List Obj
byte_objects s os = pick s.use_byte (spares s os) []

-- spares by predicted boxes
abbrev pub spare_round : Settings → List Slot → List Obj → Work
spare_round s ss os = later_round 1 (λ (v : View). v.box) s ss os

-- first-class objects by last boxes
abbrev pub last_round : Settings → List Slot → List Obj → Work
last_round s ss os = later_round 2 (λ (v : View). v.last) s ss os

-- Document 02, 2.8: predicted boxes; last boxes; spares if `use_byte`. No spare is born: what is left is what the first two leave.
unfoldable pub rounds : Settings → List View → List Obj → Work
rounds s vs os =
    let first = first_round s vs (first_class s os) in
    let last = last_round s first.slots first.left in
    record { slots = (spare_round s last.slots (byte_objects s os)).slots; left = last.left }

-- ---- what a slot was granted, without its place and round: a box, or none
abbrev pub box_granted : Option Grant → Option Detection
box_granted got = option_map (λ (g : Grant). g.obj.det) got

abbrev pub grant_of : Slot → Option Detection
grant_of s = box_granted s.got
