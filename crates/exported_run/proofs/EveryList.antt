-- Every list of exported calls is a run, call by call, so demand 3 holds of it; and there are such lists. Assumes nothing.
use mathlib.Core.Path.{◌≡◌, refl, sym, ap, ap₂, subst, ◌∙◌}
use mathlib.Core.Bool.{Bool, true}
use mathlib.Core.List.{List, [], ◌∷◌, map}
use Prim.Native.Nat.{ℕ}
use contract.Lifetimes.{Lfts}
use Rattle.lists.specs.Lists.{pick}
use Rattle.std.specs.Prelude.{Result, Ok, Err, ⊤}
use Rattle.object.specs.declared.Refusal.{Refusal}
use Rattle.object.specs.Refusal.{number_of, told_of}
use Rattle.object.specs.declared.Refusal.TheVariants.{BadSetting}
use Rattle.frame.specs.declared.Settings.{Settings}
use Rattle.frame.specs.State.{in_range, empty_tracker}
use Rattle.frame.specs.Frame.{Out, boxes_after, ids_after}
use Rattle.frame.specs.Contract.{made_of, call_of}
use Rattle.oc_sort_tracker.specs.New.{defaults}
use Rattle.image.specs.declared.TrackerImage.{TrackerImage}
use Rattle.std.specs.Int.{from_bool}
use Rattle.image.specs.Image.{freeze_tracker, thaw_tracker}
use Rattle.to_image.proofs.Back.{flag-back, flag-tagged}
use Rattle.making.specs.declared.SettingsImage.{SettingsImage}
use Rattle.making.specs.Making.{thaw_settings, fresh_of, fresh_with, begun}
use Rattle.update_in_lists.specs.Host.{frame_on, reply_of, Hosted}
use Rattle.run.specs.Lent as lent-call
use Rattle.run.specs.Run.{Event, frame, Run, lent}
use Rattle.run.proofs.EveryRun.{no_lifetimes, no_lifetimes₄, ref, mut_ref, started, every-run}
use Rattle.exported_run.specs.Calls.{lists_of, Shown, shown_of, Calls, made_new, made_with, called, refused_new, refused-with, seen_as, Alike, none, one_more, IsRun, Brought, brought_to, EveryList}
use Rattle.exported_run.proofs.Shape.{empty-faithful}
use Rattle.exported_run.proofs.Steps.{Stands, stands-for, Begun, new-begins, with-begins, refusal-keeps, stands_after, answer, framed, reply-told}
use Rattle.exported_run.specs.WithSettings as with_settings
use Rattle.exported_run.specs.Update as update

-- ---- calls as a run

pub record Runs (s : Settings) (ys : List Shown) (i : TrackerImage) : Type 0 where
  pub events : List Event
  pub alike : Alike ys events
  pub run : Run s events (thaw_tracker i)
  pub stands : Stands i

first_run : (q s : Settings) (i : TrackerImage) → Begun q i → q ≡ s → Runs s [] i
first_run q s i b k =
    let e : i ≡ freeze_tracker (empty_tracker s) = b.1 ∙ ap (λ (x : Settings). freeze_tracker (empty_tracker x)) k in
    let st = stands-for i (empty_tracker s) (empty-faithful s) e in
    record { events = []; alike = none; run = subst (Run s []) (sym st.0) (started s (subst (λ (x : Settings). in_range x ≡ true) k b.0)); stands = st.1 }

module _ (s : Settings) (ys : List Shown) (i : TrackerImage) (d : Runs s ys i) (y : Shown) (h : Hosted i y.input y.boxes y.ids y.lists_left y.reply y.boxes_left y.ids_left) where
  -- what the call in place tells
  abbrev o : Result ℕ Refusal
  o = (answer i d.stands y.input y.boxes y.ids y.lists_left y.reply y.boxes_left y.ids_left h).outcome

  abbrev asked_in : lent-call.Dens no_lifetimes₄
  asked_in = (mut_ref (thaw_tracker i), (ref y.input, (mut_ref y.boxes, (mut_ref y.ids, tt))))

  abbrev gone-in : lent-call.Exit no_lifetimes₄
  gone-in = (mut_ref (thaw_tracker y.lists_left), (ref y.input, (mut_ref y.boxes_left, (mut_ref y.ids_left, tt))))

  next-run : Runs s (y ∷ ys) y.lists_left
  next-run = record {
    events = frame (seen_as o y) ∷ d.events;
    alike = one_more d.alike y o (reply-told i d.stands y.input y.boxes y.ids y.lists_left y.reply y.boxes_left y.ids_left h);
    run = lent d.run no_lifetimes₄ asked_in o gone-in (framed i d.stands y.input y.boxes y.ids y.lists_left y.reply y.boxes_left y.ids_left h) refl;
    stands = stands_after i d.stands y.input y.boxes y.ids y.lists_left y.reply y.boxes_left y.ids_left h;
  }

abbrev HostedFrom : TrackerImage → Shown → Type 0
HostedFrom i y = Hosted i y.input y.boxes y.ids y.lists_left y.reply y.boxes_left y.ids_left

runs : {s : Settings} {ys : List Shown} {i : TrackerImage} → Calls s ys i → Runs s ys i
runs {s} (made_new κs a n e h z k) =
    first_run (defaults a.1.1.1.0) s (lists_of e) (new-begins (defaults a.1.1.1.0) (lists_of a) (lists_of e) (sym z ∙ h.0) h.1) k
runs {s} (made_with κs a n e h z k) =
    first_run (thaw_settings a.1.1.1.0) s (lists_of e) (with-begins a.1.1.1.0 (lists_of a) (lists_of e) (sym z ∙ h.0) h.1) k
runs {s} (called {ys} {i} c κs a r e h same) = next-run s ys i (runs c) (shown_of κs a r e) (subst (λ (x : TrackerImage). HostedFrom x (shown_of κs a r e)) same h)
runs {s} (refused_new {ys} {i} c κs a n e h same z) =
    subst (Runs s ys) (sym (refusal-keeps (fresh_of (made_of (defaults a.1.1.1.0))) n (lists_of a) (lists_of e) h.0 z h.1 ∙ same)) (runs c)
runs {s} (refused-with {ys} {i} c κs a n e h same z) =
    subst (Runs s ys) (sym (refusal-keeps (fresh_with a.1.1.1.0) n (lists_of a) (lists_of e) h.0 z h.1 ∙ same)) (runs c)

is_run : (s : Settings) (ys : List Shown) (i : TrackerImage) → Calls s ys i → IsRun s ys i
is_run s ys i c =
    let d : Runs s ys i = runs c in
    record { events = d.events; alike = d.alike; run = d.run; holds = every-run.holds s d.events (thaw_tracker i) d.run; means = d.stands.means; image = d.stands.image }

-- ---- such lists exist

module _ (s : Settings) where
  abbrev passed : SettingsImage
  passed = record {
    det_thresh = s.det_thresh;
    iou_threshold = s.iou_threshold;
    inertia = s.inertia;
    max_age = s.max_age;
    min_hits = s.min_hits;
    delta_t = s.delta_t;
    use_byte = from_bool s.use_byte;
  }

  passed-back : thaw_settings passed ≡ s
  passed-back = λ j. record {
    det_thresh = s.det_thresh;
    iou_threshold = s.iou_threshold;
    inertia = s.inertia;
    max_age = s.max_age;
    min_hits = s.min_hits;
    delta_t = s.delta_t;
    use_byte = flag-back s.use_byte j;
  }

  told_none : in_range s ≡ true → (fresh_with passed).number ≡ 0
  unfolding fresh_with fresh_of made_of
  told_none fine = ap₂ (λ (x y : Bool). pick x (told_of {T = ⊤} (pick y (Ok tt) (Err BadSetting))) (number_of BadSetting)) (flag-tagged s.use_byte) (ap in_range passed-back ∙ fine)

  -- lists of the right lengths, and what the making call leaves of them
  abbrev at-hand : TrackerImage
  at-hand = freeze_tracker (empty_tracker s)

  abbrev made : TrackerImage
  made = begun at-hand (fresh_with passed)

  abbrev asked-with : with_settings.Dens no_lifetimes
  asked-with = (mut_ref at-hand.wide, (mut_ref at-hand.floats, (mut_ref at-hand.words, (passed, tt))))

  abbrev gone_with : with_settings.Exit no_lifetimes
  gone_with = (mut_ref made.wide, (mut_ref made.floats, (mut_ref made.words, (passed, tt))))

  made-first : in_range s ≡ true → Calls s [] made
  made-first fine = made_with no_lifetimes asked-with (fresh_with passed).number gone_with (refl, refl) (told_none fine) passed-back

abbrev no_lifetimes₆ : Lfts 6
no_lifetimes₆ = ([], ([], no_lifetimes₄))

module _ (i : TrackerImage) (b : Brought) where
  abbrev done : Out TrackerImage
  done = frame_on i (call_of b.input b.boxes b.ids)

  abbrev asked : update.Dens no_lifetimes₆
  asked = (mut_ref i.wide, (mut_ref i.floats, (mut_ref i.words, (ref b.input, (mut_ref b.boxes, (mut_ref b.ids, tt))))))

  abbrev gone : update.Exit no_lifetimes₆
  gone = (mut_ref done.next.wide, (mut_ref done.next.floats, (mut_ref done.next.words, (ref b.input, (mut_ref (boxes_after done.reply b.boxes), (mut_ref (ids_after done.reply b.ids), tt))))))

  abbrev shown : Shown
  shown = shown_of no_lifetimes₆ asked (reply_of done.reply) gone

  once : {s : Settings} {ys : List Shown} → Calls s ys i → Calls s (shown ∷ ys) done.next
  once c = called c no_lifetimes₆ asked (reply_of done.reply) gone (record { next = refl; reply = refl; boxes-after = refl; ids-after = refl }) refl

exists : (s : Settings) → in_range s ≡ true → (bs : List Brought) → (ys : List Shown) × (i : TrackerImage) × Calls s ys i × (map brought_to ys ≡ bs)
exists s fine [] = ([], made s, made-first s fine, refl)
exists s fine (b ∷ bs) =
    let r = exists s fine bs in
    (shown r.1 b ∷ r.0, (done r.1 b).next, once r.1 b r.2, ap (λ (l : List Brought). b ∷ l) r.3)

pub every-list : EveryList
every-list = record { is_run = is_run; exists = exists }
