-- A frame's answer, and what its last part needs and does. Definitions only.
use Rattle.std.specs.Prelude.{◌≡◌, true, List, ◌++◌, ℕ, ◌+◌, ◌≤◌, ◌<◌, ltb, Float, Option}
use Rattle.lists.specs.Lists.{keep, every}
use Rattle.objects.specs.declared.Dets.{Dets}
use Rattle.frame.specs.declared.Tracked.{Tracked}
use Rattle.frame.specs.declared.Tracker.{Tracker}
use Rattle.frame.specs.declared.Answer.{Answer}
use Rattle.frame.specs.State.{state_of}
use Rattle.frame.specs.Frame.{reports, Out, reports_of, is_young, boxes_after, ids_after}
use Rattle.frame.specs.Contract.{outcome_of}
use Rattle.tracks.specs.declared.Tracks.{Tracks}
use Rattle.objects.specs.Dets.{dets_in}
use Rattle.one_track.specs.OneTrack.{givable}
use Rattle.object.specs.declared.Detection.{Detection}
use Rattle.tracks.specs.Tracks.{tracks_in, given_all, born_of}

-- r and the buffers are the answer o, every cell
pub record Answered (o : Out Tracker) (boxes : List Float) (ids : List ℕ) (r : Answer) (boxes' : List Float) (ids' : List ℕ) : Type 0 where
  pub outcome : r.outcome ≡ outcome_of o.reply
  pub next : r.tracker ≡ o.next
  pub boxes-after : boxes' ≡ boxes_after o.reply boxes
  pub ids-after : ids' ≡ ids_after o.reply ids

-- the tracks after grants, misses and births
abbrev pub joined : Tracker → Tracks → List (Option Detection) → Dets → List Tracked
joined t ts grants left = given_all t.settings.delta_t (tracks_in ts) grants ++ born_of t.issued (dets_in left)

-- reports and ageing over all tracks, n of them newborn
unfoldable pub settled_on : Tracker → List Tracked → ℕ → Out Tracker
settled_on t all n = record {
  reply = reports (reports_of t.settings (t.frames + 1) all);
  next = state_of t.settings (t.frames + 1) (t.issued + n) (keep (is_young t.settings) all);
}

-- what the last part of a frame needs
pub record Ready (t : Tracker) (ts : Tracks) (left : Dets) (boxes ids : ℕ) : Type 0 where
  pub delta_t : t.settings.delta_t ≤ 8
  pub frames : t.frames < 1000000
  pub issued : t.issued + 64 ≤ 64000000
  pub room : ts.count + left.n ≤ 64
  pub tracks : every givable (tracks_in ts) ≡ true
  pub low : every (λ e. ltb e.id t.issued) (tracks_in ts) ≡ true
  pub box_room : 256 ≤ boxes
  pub id_room : 64 ≤ ids
