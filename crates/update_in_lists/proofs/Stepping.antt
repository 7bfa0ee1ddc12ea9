-- The answer of the frame call, from what its tests and loops leave. Assumes nothing.
use Rattle.std.specs.Prelude.{Some, None}
use mathlib.Core.Path.{◌≡◌, refl, sym, ap, ap₂, subst, ◌∙◌}
use mathlib.Core.Bool.{Bool, true, false, ◌&&◌}
use mathlib.Core.List.{List, [], ◌∷◌, ◌++◌, map}
use Prim.Native.Nat.{ℕ, zero, suc, ◌+◌, ◌≤◌, ◌<◌}
use native.Mathlib.Omega.{arith}
use borrow.Author.Tests.{leb-false, le-leb, ne_eqb}
use lib.Dec.{leb, eqb}
use lib.Ieee.{Float}
use lib.ListN.{length}
use Rattle.std.specs.Prelude.{Ok, Err}
use Rattle.lists.specs.Lists.{put, keep, every}
use Rattle.lists.proofs.Keep.{keep_append}
use Rattle.lapjv_walk.proofs.Cases.{and_left, and_right}
use Rattle.object.specs.declared.Detection.{Detection}
use Rattle.object.specs.declared.Refusal.{Refusal}
use Rattle.object.specs.declared.Refusal.TheVariants.{UnsoundState, FullTable}
use Rattle.strack.specs.Track.{birth_of}
use Rattle.frame.specs.declared.Settings.{Settings}
use Rattle.frame.specs.declared.Tracked.{Tracked}
use Rattle.frame.specs.declared.Tracker.{Tracker}
use Rattle.frame.specs.declared.Answer.{Answer}
use Rattle.frame.specs.State.{live, state_of, state_rules}
use Rattle.frame.specs.Objects.{objects_of}
use Rattle.frame.specs.Rounds.{rounds}
use Rattle.frame.specs.Frame.{Call, Report, early, tracked_view, predicted_tracks, report_of, is_reported, snoc_if, reports_of, is_young, accepted_frame}
use Rattle.frame.specs.Contract.{call_of, Framed}
use Rattle.rules.specs.Rules.{Told}
use Rattle.objects.specs.Dets.{dets_in}
use Rattle.rounds.specs.declared.Pairing.{Pairing}
use Rattle.rounds.specs.Pairs.{Pairs}
use Rattle.tracks.specs.declared.Tracks.{Tracks}
use Rattle.one_track.specs.OneTrack.{newborn}
use Rattle.tracks.specs.Tracks.{tracks_of, tracks_in, given_all, born_of}
use Rattle.tracks.proofs.Table.{tracks-count, tracks-in}
use Rattle.reports.specs.Written.{Written}
use Rattle.settling.specs.Settled.{Answered, joined, settled_on, Ready}
use Rattle.oc_sort_tracker.specs.Refused.{refused_with}
use Rattle.oc_sort_tracker.proofs.Agree.{refused_full, accepted-agree, ready, left-short}
use Rattle.oc_sort_tracker.proofs.Framing.{told-refused, told-accepted, unsound, early-refused, accepted}
use Rattle.image.specs.declared.TrackerImage.{TrackerImage}
use Rattle.image.specs.Image.{freeze_tracker, thaw_tracker, meant}
use Rattle.update_in_lists.specs.Host.{telling, Hosted}
use Rattle.update_in_lists.proofs.Hosting.{unmeant, stopped, stepped}

-- ---- ageing before the reports

older : (n m : ℕ) → leb n m ≡ false → eqb n 0 ≡ false
older zero m h = absurd (let z : m < 0 = leb-false 0 m h in omega (arith, z))
older (suc n) m h = ne_eqb (suc n) 0 (λ z. omega (arith, z))

module _ (s : Settings) (frames : ℕ) where
  -- a track that ages out isn't reported
  old-silent : (e : Tracked) → is_young s e ≡ false → is_reported s frames e.track ≡ false
  unfolding is_reported
  old-silent e h = rw (older e.track.since s.max_age h)

  silent-turn : (e : Tracked) (es : List Tracked) (b : Bool) → is_young s e ≡ b → reports_of s frames (keep (is_young s) es) ≡ reports_of s frames es
      → reports_of s frames (put b e (keep (is_young s) es)) ≡ snoc_if (is_reported s frames e.track) (reports_of s frames es) (report_of e)
  silent-turn e es true h p = ap (λ (rs : List Report). snoc_if (is_reported s frames e.track) rs (report_of e)) p
  silent-turn e es false h p = p ∙ sym (ap (λ (b : Bool). snoc_if b (reports_of s frames es) (report_of e)) (old-silent e h))

  reports-young : (es : List Tracked) → reports_of s frames (keep (is_young s) es) ≡ reports_of s frames es
  reports-young [] = refl
  reports-young (e ∷ es) = silent-turn e es (is_young s e) refl (reports-young es)

-- the newborn are young
newborn-young : (s : Settings) (id : ℕ) (d : Detection) → is_young s (newborn id d) ≡ true
unfolding birth_of
newborn-young s id d = le-leb 0 s.max_age (omega arith)

born-young : (s : Settings) (id : ℕ) (ds : List Detection) → keep (is_young s) (born_of id ds) ≡ born_of id ds
born-young s id [] = refl
born-young s id (d ∷ ds) = ap₂ (λ (b : Bool) (l : List Tracked). put b (newborn id d) l) (newborn-young s id d) (born-young s (suc id) ds)

pub every-keep : {A : Type 0} (p q : A → Bool) (l : List A) → every p l ≡ true → every p (keep q l) ≡ true
every-keep p q [] h = refl
every-keep p q (x ∷ l) h = go (q x) (and_left (p x) (every p l) h) (every-keep p q l (and_right (p x) (every p l) h))
  where
    go : (b : Bool) → p x ≡ true → every p (keep q l) ≡ true → every p (put b x (keep q l)) ≡ true
    go true u v = rw (u, v)
    go false u v = v

-- ---- refusals

module _ (i : TrackerImage) (input boxes : List Float) (ids : List ℕ) where
  abbrev pub t : Tracker
  t = thaw_tracker i

  abbrev call : Call
  call = call_of input boxes ids

  pub unusable : (meant i && state_rules t) ≡ false → Hosted i input boxes ids i (telling (Err UnsoundState)) boxes ids
  unusable h = go (meant i) refl h
    where
      go : (b : Bool) → meant i ≡ b → (b && state_rules t) ≡ false → Hosted i input boxes ids i (telling (Err UnsoundState)) boxes ids
      go false e f = unmeant i input boxes ids e
      go true e f = stopped i input boxes ids e t refl (refused_with t UnsoundState) boxes ids (unsound t input boxes ids (refused_with t UnsoundState) f refl) refl

  module _ (usable : (meant i && state_rules t) ≡ true) where
    pub means : meant i ≡ true
    means = and_left (meant i) (state_rules t) usable

    pub fine : state_rules t ≡ true
    fine = and_right (meant i) (state_rules t) usable

    pub stop-early : (q : Refusal) → Told t.frames (length input) (length boxes) (length ids) (Err q) → Hosted i input boxes ids i (telling (Err q)) boxes ids
    stop-early q p =
        let e : early t.frames call ≡ Some q = told-refused (early t.frames call) q (sym (p call refl refl refl)) in
        stopped i input boxes ids means t refl (refused_with t q) boxes ids (early-refused t input boxes ids (refused_with t q) fine q e refl) refl

    pub not_stopped : Told t.frames (length input) (length boxes) (length ids) (Ok tt) → early t.frames call ≡ None
    not_stopped p = told-accepted (early t.frames call) (sym (p call refl refl refl))

    module _ (k : early t.frames call ≡ None) where
      abbrev pub es : List Tracked
      es = predicted_tracks (live t)

      module _ (p : Pairing) (q : Pairs (rounds t.settings (map (tracked_view t.settings) es) (objects_of input)) p) where
        abbrev ts : Tracks
        ts = tracks_of es

        over : Pairs (rounds t.settings (map (tracked_view t.settings) (tracks_in ts)) (objects_of input)) p
        over = subst (λ (l : List Tracked). Pairs (rounds t.settings (map (tracked_view t.settings) l) (objects_of input)) p) (sym (tracks-in es)) q

        pub few-left : length input ≤ 320 → p.left.n ≤ 64
        few-left h = left-short t input ts refl p over h

        pub stop-full : 64 < length es + p.left.n → Hosted i input boxes ids i (telling (Err FullTable)) boxes ids
        stop-full h =
            let f : Framed t input boxes ids (refused_with t FullTable) boxes ids
            = accepted t input boxes ids (refused_with t FullTable) fine k boxes ids (refused_full t input ts refl p over (refused_with t FullTable) boxes ids (omega (arith, h, tracks-count es)) refl) in
            stopped i input boxes ids means t refl (refused_with t FullTable) boxes ids f refl

        module _ (room : length es + p.left.n ≤ 64) where
          fits : ts.count + p.left.n ≤ 64
          fits = omega (arith, room, tracks-count es)

          -- what the rest of the frame needs
          pub is-ready : Ready t ts p.left (length boxes) (length ids)
          is-ready = ready t input ts refl p over call fine k fits

          -- the tracks that the frame leaves
          abbrev pub fs : List Tracked
          fs = keep (is_young t.settings) (given_all t.settings.delta_t es p.grants) ++ born_of t.issued (dets_in p.left)

          abbrev all : List Tracked
          all = joined t ts p.grants p.left

          pub left-young : keep (is_young t.settings) all ≡ fs
          left-young =
              keep_append (is_young t.settings) (given_all t.settings.delta_t (tracks_in ts) p.grants) (born_of t.issued (dets_in p.left))
              ∙ ap₂ (λ (a : List Tracked) (b : List Tracked). keep (is_young t.settings) (given_all t.settings.delta_t a p.grants) ++ b) (tracks-in es) (born-young t.settings t.issued (dets_in p.left))

          same-reports : reports_of t.settings (t.frames + 1) fs ≡ reports_of t.settings (t.frames + 1) all
          same-reports = ap (reports_of t.settings (t.frames + 1)) (sym left-young) ∙ reports-young t.settings (t.frames + 1) all

          abbrev answer : ℕ → Answer
          answer n = record { outcome = Ok n; tracker = (settled_on t all p.left.n).next }

          answered : (n : ℕ) (boxes' : List Float) (ids' : List ℕ) → Written (reports_of t.settings (t.frames + 1) fs) n boxes ids boxes' ids' → Answered (settled_on t all p.left.n) boxes ids (answer n) boxes' ids'
          unfolding settled_on
          answered n boxes' ids' w =
              let v : Written (reports_of t.settings (t.frames + 1) all) n boxes ids boxes' ids' = subst (λ (rs : List Report). Written rs n boxes ids boxes' ids') same-reports w in
              record { outcome = ap Ok v.count; next = refl; boxes-after = v.boxes-after; ids-after = v.ids-after }

          -- the state that the frame leaves
          abbrev pub state_after : Tracker
          state_after = state_of t.settings (t.frames + 1) (t.issued + p.left.n) fs

          settled : state_after ≡ (settled_on t all p.left.n).next
          unfolding settled_on
          settled = ap (state_of t.settings (t.frames + 1) (t.issued + p.left.n)) (sym left-young)

          pub step-accepted : (image : TrackerImage) (n : ℕ) (boxes' : List Float) (ids' : List ℕ) → Written (reports_of t.settings (t.frames + 1) fs) n boxes ids boxes' ids' → image ≡ freeze_tracker state_after
              → Hosted i input boxes ids image (telling (Ok n)) boxes' ids'
          step-accepted image n boxes' ids' w e =
              let a : Answered (accepted_frame t input) boxes ids (answer n) boxes' ids' = accepted-agree t input ts refl p over (answer n) boxes boxes' ids ids' fits (answered n boxes' ids' w) in
              stepped i input boxes ids means t refl (answer n) boxes' ids' (accepted t input boxes ids (answer n) fine k boxes' ids' a) refl image (e ∙ ap freeze_tracker settled)
