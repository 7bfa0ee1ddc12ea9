-- The tables and pairs of the code stand for the frame's lists: row 7 and the settled frame are the definition's. Assumes nothing.
use Rattle.std.specs.Prelude.{Option, None}
use mathlib.Core.Path.{◌≡◌, refl, sym, ap, ap₂, subst, ◌∙◌}
use mathlib.Core.Bool.{Bool, true, false}
use mathlib.Core.List.{List, ◌++◌, map}
use Prim.Native.Nat.{ℕ, ◌+◌, ◌-◌, ◌/◌, ◌≤◌, ◌<◌}
use native.Mathlib.Omega.{arith}
use lib.Ieee.{Float}
use lib.ListN.{length, replicate, length-map}
use borrow.Author.Tests.{lt-ltb, le-ltb}
use Rattle.lists.specs.Lists.{every}
use Rattle.lists.proofs.Tab.{length-tab}
use Rattle.objects.specs.declared.Dets.{Dets}
use Rattle.objects.specs.Dets.{dets_of, dets_in}
use Rattle.objects.proofs.Pushing.{dets-count}
use Rattle.objects.proofs.Reading.{dets-in}
use Rattle.frame.specs.declared.Tracked.{Tracked}
use Rattle.frame.specs.declared.Tracker.{Tracker}
use Rattle.frame.specs.declared.Answer.{Answer}
use Rattle.frame.specs.State.{live, state_rules}
use Rattle.frame.specs.Objects.{object_at, objects_of}
use Rattle.frame.specs.Rounds.{Work, rounds, grant_of}
use Rattle.frame.specs.Frame.{Call, early, Out, tracked_view, predicted_tracks, rounds_over, give_all, births, is_full, settled, accepted_frame}
use Rattle.frame.proofs.Seats.{rounds-length}
use Rattle.frame.proofs.Rules.{ranges, Sound, sound, Clear, clear}
use Rattle.object.specs.declared.Refusal.TheVariants.{FullTable}
use Rattle.rounds.specs.declared.Pairing.{Pairing}
use Rattle.grants.specs.Grants.{grants_of}
use Rattle.rounds.specs.Pairs.{Pairs}
use Rattle.tracks.specs.declared.Tracks.{Tracks}
use Rattle.one_track.specs.OneTrack.{givable}
use Rattle.tracks.specs.Tracks.{tracks_of, tracks_in, given_all, born_of}
use Rattle.tracks.proofs.Agree.{births-born, give-all-given}
use Rattle.tracks.proofs.Rules.{predicted-givable, predicted-short}
use Rattle.settling.specs.Settled.{Answered, joined, settled_on, Ready}
use Rattle.settling.proofs.Ids.{below}
use Rattle.settling.proofs.Tables.{holds, counts}
use Rattle.oc_sort_tracker.specs.Refused.{refused_with}
use Rattle.oc_sort_tracker.proofs.Left.{rounds-few}
use Rattle.object.specs.declared.Detection.{Detection}
use Rattle.oc_sort_tracker.proofs.Ready.{low-ids}

module _ (t : Tracker) (input : List Float) where
  abbrev pub es : List Tracked
  es = predicted_tracks (live t)

  abbrev pub w : Work
  w = rounds_over t.settings es input

  slots-long : length w.slots ≡ length es
  slots-long = rounds-length t.settings (map (tracked_view t.settings) es) (objects_of input) ∙ length-map es (tracked_view t.settings)

  objects-count : length (objects_of input) ≡ length input / 5
  unfolding objects_of
  objects-count = length-tab (object_at input) (length input / 5)

  module _ (ts : Tracks) (h : ts ≡ tracks_of es) where
    -- the rounds over the table are those over its tracks
    pub over-table : rounds t.settings (map (tracked_view t.settings) (tracks_in ts)) (objects_of input) ≡ w
    over-table = ap (λ (l : List Tracked). rounds_over t.settings l input) (holds ts es h)

    module _ (p : Pairing) (q : Pairs (rounds t.settings (map (tracked_view t.settings) (tracks_in ts)) (objects_of input)) p) where
      left-agree : p.left ≡ dets_of w.left
      left-agree = q.1 ∙ ap (λ (x : Work). dets_of x.left) over-table

      left-count : p.left.n ≡ length w.left
      left-count = ap (λ (d : Dets). d.n) left-agree ∙ dets-count w.left

      pub left-short : length input ≤ 320 → p.left.n ≤ 64
      left-short l =
          omega
          (arith, left-count, rounds-few t.settings (map (tracked_view t.settings) es) (objects_of input), objects-count, l)

      is-full : 64 < ts.count + p.left.n → is_full es w ≡ true
      is-full f = lt-ltb 64 (length es + length w.left) (omega (arith, f, counts ts es h, left-count))

      is-not-full : ts.count + p.left.n ≤ 64 → is_full es w ≡ false
      is-not-full f = le-ltb 64 (length es + length w.left) (omega (arith, f, counts ts es h, left-count))

      -- row 7
      pub refused_full : (r : Answer) (boxes : List Float) (ids : List ℕ) → 64 < ts.count + p.left.n → r ≡ refused_with t FullTable → Answered (accepted_frame t input) boxes ids r boxes ids
      refused_full r boxes ids f e = subst (λ (b : Bool). Answered (settled t es w b) boxes ids r boxes ids) (sym (is-full f)) (record {
        outcome = ap (λ (a : Answer). a.outcome) e;
        next = ap (λ (a : Answer). a.tracker) e;
        boxes-after = refl;
        ids-after = refl;
      })

      abbrev rest : List (Option Detection)
      rest = replicate (64 - length w.slots) None

      grants-agree : p.grants ≡ map grant_of w.slots ++ rest
      unfolding grants_of
      grants-agree = q.0 ∙ ap (λ (x : Work). grants_of x.slots) over-table

      all-agree : joined t ts p.grants p.left ≡ give_all t.settings.delta_t es w.slots ++ births t.issued w.left
      all-agree =
          ap₂ (λ (a : List Tracked) (b : List Tracked). a ++ b)
          (ap₂ (λ (a : List Tracked) (b : List (Option Detection)). given_all t.settings.delta_t a b) (holds ts es h) grants-agree ∙ sym (give-all-given t.settings.delta_t es w.slots rest slots-long))
          (ap (born_of t.issued) (ap dets_in left-agree ∙ dets-in w.left) ∙ sym (births-born t.issued w.left))

      settled-agree : settled_on t (joined t ts p.grants p.left) p.left.n ≡ settled t es w false
      unfolding settled_on
      settled-agree = ap₂ (λ (a : List Tracked) (n : ℕ). settled_on t a n) all-agree left-count

      pub accepted-agree : (r : Answer) (boxes boxes' : List Float) (ids ids' : List ℕ) → ts.count + p.left.n ≤ 64 → Answered (settled_on t (joined t ts p.grants p.left) p.left.n) boxes ids r boxes' ids'
          → Answered (accepted_frame t input) boxes ids r boxes' ids'
      accepted-agree r boxes boxes' ids ids' f a =
          subst (λ (b : Bool). Answered (settled t es w b) boxes ids r boxes' ids') (sym (is-not-full f)) (subst (λ (o : Out Tracker). Answered o boxes ids r boxes' ids') settled-agree a)

      -- what the last part of the frame needs
      pub ready : (c : Call) → state_rules t ≡ true → early t.frames c ≡ None → ts.count + p.left.n ≤ 64 → Ready t ts p.left c.boxes c.ids
      ready c fine k room =
          let s : Sound t = sound t fine in
          let d : Clear t.frames c = clear t.frames c k in
          record {
            delta_t = (ranges t.settings s.in-range).delta_t;
            frames = d.not-over;
            issued = omega (arith, s.issued, d.not-over);
            room = room;
            tracks = ap (every givable) (holds ts es h) ∙ predicted-givable t fine;
            low = ap (every (below t.issued)) (holds ts es h) ∙ low-ids t fine;
            box_room = d.boxes;
            id_room = d.ids;
          }

-- the table after prediction has room for the sum
pub table-short : (t : Tracker) (ts : Tracks) → state_rules t ≡ true → ts ≡ tracks_of (predicted_tracks (live t)) → ts.count ≤ 64
table-short t ts fine h = omega (arith, counts ts (predicted_tracks (live t)) h, predicted-short t fine)
