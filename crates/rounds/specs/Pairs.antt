-- What the code's rounds promise, in the frame's rounds. Definitions only.
use Rattle.std.specs.Prelude.{◌≡◌, List, ℕ, Float, length, Option}
use Rattle.object.specs.declared.Corners.{Corners}
use Rattle.matching.specs.Associate.{corners_at}
use Rattle.frame.specs.declared.Settings.{Settings}
use Rattle.frame.specs.Objects.{Obj, objects_of}
use Rattle.frame.specs.Rounds.{View, Slot, Work, slot_at, first_round, later_round, byte_objects, spare_round}
use Rattle.objects.specs.declared.Dets.{Dets}
use Rattle.objects.specs.Dets.{dets_of}
use Rattle.rounds.specs.declared.Pairing.{Pairing}
use Rattle.views.specs.declared.Views.{Views}
use Rattle.views.specs.Views.{views_of}
use Rattle.object.specs.declared.Detection.{Detection}
use Rattle.grants.specs.Grants.{grants_of}

-- the slots' grants and the objects left, as the code keeps them
abbrev pub Pairs : Work → Pairing → Type 0
Pairs w r = (r.grants ≡ grants_of w.slots) × (r.left ≡ dets_of w.left)

-- the round on predicted boxes
abbrev pub FirstOf : Settings → Views → Dets → Pairing → Type 0
FirstOf s v d r = (vs : List View) (os : List Obj) → v ≡ views_of vs → d ≡ dets_of os → Pairs (first_round s vs os) r

-- a later round, on the boxes that a target gives
abbrev pub LaterOf : Float → List Float → ℕ → Dets → List (Option Detection) → Pairing → Type 0
LaterOf thr boxes count d grants r =
    (k : ℕ) (target : View → Corners) (s : Settings) (ss : List Slot) (os : List Obj)
    → thr ≡ s.iou_threshold → corners_at boxes ≡ (λ j. target (slot_at ss j).view) → count ≡ length ss → d ≡ dets_of os → grants ≡ grants_of ss
    → Pairs (later_round k target s ss os) r

-- the spare round on a frame's raw numbers: what the tracks hold after it
abbrev pub SparesOf : Settings → List Float → List Float → ℕ → List (Option Detection) → List (Option Detection) → Type 0
SparesOf s input boxes count grants r =
    (ss : List Slot) → corners_at boxes ≡ (λ j. (slot_at ss j).view.box) → count ≡ length ss → grants ≡ grants_of ss → r ≡ grants_of (spare_round s ss (byte_objects s (objects_of input))).slots
