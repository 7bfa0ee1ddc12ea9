-- The frame on an image, by how it came out: it means nothing, the frame is refused, or it is accepted. Assumes nothing.
use mathlib.Core.Path.{◌≡◌, refl, sym, ap, subst, ◌∙◌}
use mathlib.Core.Bool.{Bool, true, false}
use mathlib.Core.List.{List}
use Prim.Native.Nat.{ℕ}
use native.Mathlib.Omega.{arith}
use lib.Ieee.{Float}
use Rattle.std.specs.Prelude.{Err, is_err}
use Rattle.object.specs.declared.Refusal.TheVariants.{UnsoundState}
use Rattle.frame.specs.declared.Tracker.{Tracker}
use Rattle.frame.specs.declared.Answer.{Answer}
use Rattle.frame.specs.Frame as frame
use Rattle.frame.specs.Frame.{Call, Out, refused, reports, frame_of, boxes_after, ids_after}
use Rattle.frame.specs.Contract.{outcome_of, call_of, Framed}
use Rattle.image.specs.declared.TrackerImage.{TrackerImage}
use Rattle.image.specs.Image.{freeze_tracker, thaw_tracker, meant}
use Rattle.update_in_lists.specs.declared.Reply.{Reply}
use Rattle.update_in_lists.specs.Host.{image_after, frame_by, frame_on, reply_of, telling, Hosted}

-- the number and the count of a reply
pub told-as : (r : frame.Reply) → telling (outcome_of r) ≡ reply_of r
told-as (refused r) = refl
told-as (reports rs) = refl

kept-image : (i : TrackerImage) (r : frame.Reply) (next : Tracker) → is_err (outcome_of r) ≡ true → i ≡ image_after i r next
kept-image i (refused r) next h = refl
kept-image i (reports rs) next h = absurd (let z : ◌≡◌ {A = ℕ} 0 1 = cc in omega arith)

new-image : (i : TrackerImage) (r : frame.Reply) (next : Tracker) → is_err (outcome_of r) ≡ false → freeze_tracker next ≡ image_after i r next
new-image i (refused r) next h = absurd (let z : ◌≡◌ {A = ℕ} 0 1 = cc in omega arith)
new-image i (reports rs) next h = refl

pub replied-as : {i i' : TrackerImage} {input boxes boxes' : List Float} {ids ids' : List ℕ} {r q : Reply} → r ≡ q → Hosted i input boxes ids i' q boxes' ids' → Hosted i input boxes ids i' r boxes' ids'
replied-as {i} {i'} {input} {boxes} {boxes'} {ids} {ids'} {r} {q} e h = subst (λ (x : Reply). Hosted i input boxes ids i' x boxes' ids') (sym e) h

module _ (i : TrackerImage) (input boxes : List Float) (ids : List ℕ) where
  abbrev call : Call
  call = call_of input boxes ids

  by-test : (b : Bool) → meant i ≡ b → frame_on i call ≡ frame_by i call b
  unfolding frame_on
  by-test b e = ap (frame_by i call) e

  hosted : (o : Out TrackerImage) → frame_on i call ≡ o → (image' : TrackerImage) (r : Reply) (boxes' : List Float) (ids' : List ℕ)
      → image' ≡ o.next → r ≡ reply_of o.reply → boxes' ≡ boxes_after o.reply boxes → ids' ≡ ids_after o.reply ids → Hosted i input boxes ids image' r boxes' ids'
  hosted o e image' r boxes' ids' p q b d = record {
    next = p ∙ sym (ap (λ (x : Out TrackerImage). x.next) e);
    reply = q ∙ sym (ap (λ (x : Out TrackerImage). reply_of x.reply) e);
    boxes-after = b ∙ sym (ap (λ (x : Out TrackerImage). boxes_after x.reply boxes) e);
    ids-after = d ∙ sym (ap (λ (x : Out TrackerImage). ids_after x.reply ids) e);
  }

  pub unmeant : meant i ≡ false → Hosted i input boxes ids i (telling (Err UnsoundState)) boxes ids
  unmeant e = hosted (frame_by i call false) (by-test false e) i (telling (Err UnsoundState)) boxes ids refl refl refl refl

  module _ (e : meant i ≡ true) (t : Tracker) (z : t ≡ thaw_tracker i) (a : Answer) (boxes' : List Float) (ids' : List ℕ) (g : Framed t input boxes ids a boxes' ids') where
    f : Framed (thaw_tracker i) input boxes ids a boxes' ids'
    f = subst (λ (x : Tracker). Framed x input boxes ids a boxes' ids') z g

    abbrev out : Out Tracker
    out = frame_of (thaw_tracker i) call

    reply-told : telling a.outcome ≡ reply_of out.reply
    reply-told = ap telling f.outcome ∙ told-as out.reply

    pub stopped : is_err a.outcome ≡ true → Hosted i input boxes ids i (telling a.outcome) boxes' ids'
    stopped h =
        hosted (frame_by i call true) (by-test true e) i (telling a.outcome) boxes' ids'
        (kept-image i out.reply out.next (ap is_err (sym f.outcome) ∙ h))
        reply-told
        f.boxes-after
        f.ids-after

    pub stepped : is_err a.outcome ≡ false → (image : TrackerImage) → image ≡ freeze_tracker a.tracker → Hosted i input boxes ids image (telling a.outcome) boxes' ids'
    stepped h image p =
        hosted (frame_by i call true) (by-test true e) image (telling a.outcome) boxes' ids'
        (p ∙ ap freeze_tracker f.next ∙ new-image i out.reply out.next (ap is_err (sym f.outcome) ∙ h))
        reply-told
        f.boxes-after
        f.ids-after
