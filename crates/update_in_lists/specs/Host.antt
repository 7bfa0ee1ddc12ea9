-- What the exported calls do: the tracker's calls on the state that an image stands for. Definitions only.
use Rattle.std.specs.Prelude.{◌≡◌, Bool, true, false, List, ℕ, Float, length, Result}
use Rattle.std.specs.Result.{result_unwrap_or}
use Rattle.object.specs.declared.Refusal.{Refusal}
use Rattle.object.specs.declared.Refusal.TheVariants.{UnsoundState}
use Rattle.object.specs.Refusal.{told_of}
use Rattle.frame.specs.declared.Tracker.{Tracker}
use Rattle.frame.specs.Frame as frame
use Rattle.frame.specs.Frame.{Call, Out, refused, reports, frame_of, boxes_after, ids_after}
use Rattle.frame.specs.Contract.{number_in, reports_in, call_of}
use Rattle.image.specs.declared.TrackerImage.{TrackerImage}
use Rattle.image.specs.Image.{freeze_tracker, thaw_tracker, meant}
use Rattle.update_in_lists.specs.declared.Reply.{Reply}

-- ---- a frame

-- the next state's image; a refusal leaves the image as it was
abbrev pub image_after : TrackerImage → frame.Reply → Tracker → TrackerImage
image_after i (refused r) next = i
image_after i (reports rs) next = freeze_tracker next

abbrev pub frame_by : TrackerImage → Call → Bool → Out TrackerImage
frame_by i c true = let o = frame_of (thaw_tracker i) c in record { reply = o.reply; next = image_after i o.reply o.next }
frame_by i c false = record { reply = refused UnsoundState; next = i }

-- a frame on the state that the image stands for; an image that means nothing is an unsound state
unfoldable pub frame_on : TrackerImage → Call → Out TrackerImage
frame_on i c = frame_by i c (meant i)

abbrev pub reply_of : frame.Reply → Reply
reply_of r = record { number = number_in r; count = length (reports_in r) }

-- what the host is told of an outcome: the refusal's number, or 0, and how many reports stand in the buffers
abbrev pub telling : Result ℕ Refusal → Reply
telling o = record { number = told_of o; count = result_unwrap_or o 0 }

-- a call on image i with this input and these buffers answered r, and left image', boxes' and ids'
pub record Hosted (i : TrackerImage) (input boxes : List Float) (ids : List ℕ) (image' : TrackerImage) (r : Reply) (boxes' : List Float) (ids' : List ℕ) : Type 0 where
  pub next : image' ≡ (frame_on i (call_of input boxes ids)).next
  pub reply : r ≡ reply_of (frame_on i (call_of input boxes ids)).reply
  pub boxes-after : boxes' ≡ boxes_after (frame_on i (call_of input boxes ids)).reply boxes
  pub ids-after : ids' ≡ ids_after (frame_on i (call_of input boxes ids)).reply ids
