-- What each exported call does to lists that are the image of a state: making, a frame, a refusal. Assumes nothing.
use mathlib.Core.Path.{◌≡◌, refl, sym, ap, subst, ◌∙◌}
use mathlib.Core.Bool.{Bool, true, false}
use mathlib.Core.List.{List}
use Prim.Native.Nat.{ℕ}
use native.Mathlib.Omega.{arith}
use lib.Dec.{eqb}
use lib.Ieee.{Float}
use borrow.Author.Tests.{ne_eqb}
use Rattle.lists.specs.Lists.{pick}
use Rattle.std.specs.Prelude.{Ok, Err, ⊤}
use Rattle.object.specs.Refusal.{number_of, told_of}
use Rattle.object.specs.declared.Refusal.TheVariants.{BadSetting}
use Rattle.frame.specs.declared.Settings.{Settings}
use Rattle.frame.specs.declared.Tracker.{Tracker}
use Rattle.frame.specs.declared.Answer.{Answer}
use Rattle.frame.specs.State.{in_range, empty_tracker}
use Rattle.frame.specs.Frame as one-frame
use Rattle.frame.specs.Frame.{Call, Out, refused, reports, frame_of, boxes_after, ids_after}
use Rattle.frame.specs.Contract.{made_of, outcome_of, call_of, Framed}
use Rattle.frame.proofs.Promises.{promised}
use Rattle.frame.proofs.Contract.{framed-by}
use Rattle.image.specs.declared.TrackerImage.{TrackerImage}
use Rattle.image.specs.Image.{tagged, freeze_tracker, thaw_tracker, meant, Faithful}
use Rattle.making.specs.declared.SettingsImage.{SettingsImage}
use Rattle.making.specs.Making.{thaw_settings, Fresh, fresh_of, fresh_with, begun}
use Rattle.update_in_lists.specs.declared.Reply.{Reply}
use Rattle.update_in_lists.specs.Host.{image_after, frame_by, frame_on, telling, reply_of, Hosted}
use Rattle.update_in_lists.proofs.Hosting.{told-as}
use Rattle.exported_run.proofs.Shape.{live-shaped, next-faithful}

-- the lists mean something, and are the image of what they stand for
pub record Stands (i : TrackerImage) : Type 0 where
  pub means : meant i ≡ true
  pub image : i ≡ freeze_tracker (thaw_tracker i)

pub stands-for : (i : TrackerImage) (t : Tracker) → Faithful t → i ≡ freeze_tracker t → (thaw_tracker i ≡ t) × Stands i
stands-for i t f e =
    let back : thaw_tracker i ≡ t = ap thaw_tracker e ∙ f.back in
    (back, record { means = ap meant e ∙ f.means; image = e ∙ ap freeze_tracker (sym back) })

-- ---- making

told-fine : (b : Bool) → 0 ≡ told_of {T = ⊤} (pick b (Ok tt) (Err BadSetting)) → b ≡ true
told-fine true e = refl
told-fine false e = absurd (omega (arith, e))

tag-fine : (b : Bool) (k : ℕ) → 0 ≡ pick b k (number_of BadSetting) → 0 ≡ k
tag-fine true k e = e
tag-fine false k e = absurd (omega (arith, e))

-- told 0, the settings were in range, and the lists hold the empty tracker
abbrev pub Begun : Settings → TrackerImage → Type 0
Begun q i = (in_range q ≡ true) × (i ≡ freeze_tracker (empty_tracker q))

pub new-begins : (q : Settings) (i i' : TrackerImage) → 0 ≡ (fresh_of (made_of q)).number → i' ≡ begun i (fresh_of (made_of q)) → Begun q i'
unfolding fresh_of made_of
new-begins q i i' z e = (told-fine (in_range q) z, e ∙ ap (λ (k : ℕ). pick (eqb k 0) (freeze_tracker (empty_tracker q)) i) (sym z))

pub with-begins : (q : SettingsImage) (i i' : TrackerImage) → 0 ≡ (fresh_with q).number → i' ≡ begun i (fresh_with q) → Begun (thaw_settings q) i'
unfolding fresh_with fresh_of made_of
with-begins q i i' z e = (
  told-fine (in_range (thaw_settings q)) (tag-fine (tagged q.use_byte) (told_of {T = ⊤} (pick (in_range (thaw_settings q)) (Ok tt) (Err BadSetting))) z),
  e ∙ ap (λ (k : ℕ). pick (eqb k 0) (freeze_tracker (empty_tracker (thaw_settings q))) i) (sym z),
)

-- told another number, the lists are as they were
pub refusal-keeps : (f : Fresh) (n : ℕ) (i i' : TrackerImage) → n ≡ f.number → (n ≡ 0 → ⊥) → i' ≡ begun i f → i' ≡ i
refusal-keeps f n i i' e z h = h ∙ ap (λ (b : Bool). pick b f.image i) (sym (ap (λ (k : ℕ). eqb k 0) e) ∙ ne_eqb n 0 z)

-- ---- a frame

module _ (i : TrackerImage) (st : Stands i) (input boxes : List Float) (ids : List ℕ) where
  abbrev call : Call
  call = call_of input boxes ids

  abbrev pub out : Out Tracker
  out = frame_of (thaw_tracker i) call

  by-frame : frame_on i call ≡ frame_by i call true
  unfolding frame_on
  by-frame = ap (frame_by i call) st.means

  next-is : (frame_on i call).next ≡ image_after i out.reply out.next
  next-is = ap (λ (o : Out TrackerImage). o.next) by-frame

  reply-is : (frame_on i call).reply ≡ out.reply
  reply-is = ap (λ (o : Out TrackerImage). o.reply) by-frame

  after : (i' : TrackerImage) (r : one-frame.Reply) → out.reply ≡ r → i' ≡ image_after i r out.next → (thaw_tracker i' ≡ out.next) × Stands i'
  after i' (refused q) e h = (ap thaw_tracker h ∙ sym ((promised (thaw_tracker i) call).kept q e), subst Stands (sym h) st)
  after i' (reports rs) e h = stands-for i' out.next (next-faithful (thaw_tracker i) call (live-shaped i) rs e) h

  module _ (i' : TrackerImage) (r : Reply) (boxes' : List Float) (ids' : List ℕ) (h : Hosted i input boxes ids i' r boxes' ids') where
    -- the lists left are the image of the state that the frame leaves
    lists-after : (thaw_tracker i' ≡ out.next) × Stands i'
    lists-after = after i' out.reply refl (h.next ∙ next-is)

    pub stands_after : Stands i'
    stands_after = lists-after.1

    -- what a caller of the lent call would have been told
    abbrev pub answer : Answer
    answer = record { outcome = outcome_of out.reply; tracker = thaw_tracker i' }

    pub framed : Framed (thaw_tracker i) input boxes ids answer boxes' ids'
    framed =
        framed-by (thaw_tracker i) input boxes ids answer boxes' ids' refl
        lists-after.0
        (h.boxes-after ∙ ap (λ (x : one-frame.Reply). boxes_after x boxes) reply-is)
        (h.ids-after ∙ ap (λ (x : one-frame.Reply). ids_after x ids) reply-is)

    pub reply-told : telling answer.outcome ≡ r
    reply-told = told-as out.reply ∙ sym (ap reply_of reply-is) ∙ sym h.reply
