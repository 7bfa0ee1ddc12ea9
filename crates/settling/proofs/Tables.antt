-- The last part of a frame: its tables, one after another, are the definition's lists. Assumes nothing.
use Rattle.std.specs.Prelude.{Option}
use mathlib.Core.Path.{◌≡◌, sym, ap, subst, ◌∙◌}
use mathlib.Core.Bool.{true}
use mathlib.Core.List.{List, ◌++◌}
use Prim.Native.Nat.{ℕ, ◌+◌, ◌≤◌}
use native.Mathlib.Omega.{arith}
use lib.Ieee.{Float}
use lib.ListN.{length, length-append, length-take}
use Rattle.lists.specs.Lists.{keep, every}
use Rattle.lists.proofs.Tab.{length-tab}
use Rattle.matching.specs.Associate.{det_at}
use Rattle.objects.specs.declared.Dets.{Dets}
use Rattle.frame.specs.declared.Tracked.{Tracked}
use Rattle.frame.specs.declared.Tracker.{Tracker}
use Rattle.frame.specs.declared.Answer.{Answer}
use Rattle.std.specs.Prelude.{Ok}
use Rattle.frame.specs.State.{state_of}
use Rattle.frame.specs.Frame.{reports_of, is_young}
use Rattle.reports.specs.Written.{low_id, Written}
use Rattle.tracks.specs.declared.Tracks.{Tracks}
use Rattle.objects.specs.Dets.{dets_in}
use Rattle.tracks.specs.Tracks.{tracks_of, tracks_in, given_all, born_of}
use Rattle.tracks.proofs.Table.{tracks-count, tracks-in, few-given, length-born}
use Rattle.settling.specs.Settled.{Answered, joined, settled_on, Ready}
use Rattle.object.specs.declared.Detection.{Detection}
use Rattle.settling.proofs.Ids.{low-joined}

-- a table with blank cells past its tracks
pub canonical : (w : Tracks) (es : List Tracked) → w ≡ tracks_of es → w ≡ tracks_of (tracks_in w)
canonical w es e = e ∙ ap tracks_of (sym (tracks-in es) ∙ ap tracks_in (sym e))

pub holds : (w : Tracks) (es : List Tracked) → w ≡ tracks_of es → tracks_in w ≡ es
holds w es e = ap tracks_in e ∙ tracks-in es

pub counts : (w : Tracks) (es : List Tracked) → w ≡ tracks_of es → w.count ≡ length es
counts w es e = ap (λ (x : Tracks). x.count) e ∙ tracks-count es

module _ (t : Tracker) (ts : Tracks) (ks : List (Option Detection)) (left : Dets) (b i : ℕ) (ok : Ready t ts left b i) where
  abbrev given : List Tracked
  given = given_all t.settings.delta_t (tracks_in ts) ks

  few : length given ≤ ts.count
  few = omega (arith, few-given t.settings.delta_t (tracks_in ts) ks, length-take ts.count ts.table)

  pub room : (g : Tracks) → g ≡ tracks_of given → g.count + left.n ≤ 64
  room g e = omega (arith, counts g given e, few, ok.room)

  module _ (g all : Tracks) (e : g ≡ tracks_of given) (f : all ≡ tracks_of (tracks_in g ++ born_of t.issued (dets_in left))) where
    pub all-joined : all ≡ tracks_of (joined t ts ks left)
    all-joined = f ∙ ap (λ (l : List Tracked). tracks_of (l ++ born_of t.issued (dets_in left))) (holds g given e)

    pub all_short : all.count ≤ 64
    all_short =
        omega
        (arith, counts all (joined t ts ks left) all-joined, length-append given (born_of t.issued (dets_in left)), length-born t.issued (dets_in left), length-tab (det_at left.cells) left.n, few, ok.room)

    pub all-low : every low_id (tracks_in all) ≡ true
    all-low =
        ap (every low_id) (holds all (joined t ts ks left) all-joined)
        ∙ low-joined t.issued t.settings.delta_t (tracks_in ts) ks (dets_in left) ok.low (omega (arith, length-tab (det_at left.cells) left.n, ok.room, ok.issued))

    pub answered : (r : Answer) (n : ℕ) (y : Tracks) (boxes boxes' : List Float) (ids ids' : List ℕ) → y ≡ tracks_of (keep (is_young t.settings) (tracks_in all))
        → Written (reports_of t.settings (t.frames + 1) (tracks_in all)) n boxes ids boxes' ids'
        → r ≡ record { outcome = Ok n; tracker = record { settings = t.settings; frames = t.frames + 1; issued = t.issued + left.n; count = y.count; table = y.table } }
        → Answered (settled_on t (joined t ts ks left) left.n) boxes ids r boxes' ids'
    unfolding settled_on state_of tracks_of
    answered r n y boxes boxes' ids ids' h w q =
        let j : tracks_in all ≡ joined t ts ks left = holds all (joined t ts ks left) all-joined in
        let v : Written (reports_of t.settings (t.frames + 1) (joined t ts ks left)) n boxes ids boxes' ids'
        = subst (λ (l : List Tracked). Written (reports_of t.settings (t.frames + 1) l) n boxes ids boxes' ids') j w in
        let k : y ≡ tracks_of (keep (is_young t.settings) (joined t ts ks left)) = h ∙ ap (λ (l : List Tracked). tracks_of (keep (is_young t.settings) l)) j in
        record {
          outcome = ap (λ (a : Answer). a.outcome) q ∙ ap Ok v.count;
          next = ap (λ (a : Answer). a.tracker) q ∙ ap (λ (x : Tracks). record { settings = t.settings; frames = t.frames + 1; issued = t.issued + left.n; count = x.count; table = x.table }) k;
          boxes-after = v.boxes-after;
          ids-after = v.ids-after;
        }
