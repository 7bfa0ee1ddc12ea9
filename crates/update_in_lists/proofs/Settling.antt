-- The frame call once its tracks are tested: its pairs, and the loops after them, of boxes and misses, births, reports and the tracks written back. Assumes nothing.
use Rattle.std.specs.Prelude.{Option, None}
use mathlib.Core.Path.{◌≡◌, refl, sym, ap, ap₂, subst, subst₂, ◌∙◌}
use mathlib.Core.Bool.{Bool, true, false, ◌&&◌}
use mathlib.Core.List.{List, [], ◌∷◌, ◌++◌, map, append-nil}
use Prim.Native.Nat.{ℕ, suc, ◌+◌, ◌-◌, ◌*◌, ◌≤◌, ◌<◌}
use native.Mathlib.Omega.{arith}
use lib.Dec.{ltb}
use lib.Ieee.{Float}
use lib.ListN.{length, take, drop, get_or, set, replicate, length-append, length-map, length-replicate, drop_of_length-le, get_or-append}
use lib.Seq.{take-length, drop-cons}
use Rattle.std.specs.Prelude.{Ok, Err}
use Rattle.lists.specs.Lists.{pick, keep, every, All}
use Rattle.lists.proofs.Tab.{length-tab}
use Rattle.lists.proofs.Keep.{keep-short}
use Rattle.lapjv_walk.proofs.Cases.{and_left, and_right}
use Rattle.object.specs.declared.Detection.{Detection}
use Rattle.object.specs.declared.Refusal.{Refusal}
use Rattle.object.specs.declared.Refusal.TheVariants.{FullTable}
use Rattle.matching.specs.Associate.{det_at}
use Rattle.frame.specs.declared.Settings.{Settings}
use Rattle.frame.specs.declared.Tracked.{Tracked}
use Rattle.frame.specs.State.{blank, state_of, state_rules}
use Rattle.frame.specs.Objects.{Obj, objects_of}
use Rattle.frame.specs.Rounds.{View, Work, rounds, grant_of}
use Rattle.frame.specs.Frame.{Report, early, tracked_view, is_young, is_reported, report_of, reports_of}
use Rattle.frame.specs.Contract.{call_of}
use Rattle.rules.specs.Rules.{Told}
use Rattle.frame.proofs.Rules.{Clear, clear}
use Rattle.frame.proofs.Seats.{rounds-length}
use Rattle.objects.specs.declared.Dets.{Dets}
use Rattle.objects.specs.Dets.{five_of, cells_of, dets_of, dets_in}
use Rattle.objects.proofs.Cells.{flat-length, padded-length}
use Rattle.rounds.specs.declared.Pairing.{Pairing}
use Rattle.views.specs.declared.Views.{Views}
use Rattle.views.specs.Views.{views_of}
use Rattle.grants.specs.Grants.{grants_of}
use Rattle.rounds.specs.Pairs.{Pairs}
use Rattle.tracks.specs.declared.Tracks.{Tracks}
use Rattle.one_track.specs.OneTrack.{givable, given_one, newborn}
use Rattle.tracks.specs.Tracks.{tracks_of, tracks_in, given_all, born_of}
use Rattle.tracks.proofs.Table as table
use Rattle.tracks.proofs.Table.{tracks-count, tracks-in, few-given, length-born}
use Rattle.tracks.proofs.Rules.{every-at, predicted-short}
use Rattle.reports.specs.Written.{low_id, rect_at, Written}
use Rattle.reports.proofs.Writing as writing
use Rattle.settling.specs.Settled.{Ready}
use Rattle.settling.proofs.Ids.{low-joined}
use Rattle.image.specs.declared.TrackerImage.{TrackerImage}
use Rattle.image.specs.Image.{tagged, byte_in, issued_in, count_in, frames_in, thaw_tracker, freeze_tracker, meant, Put}
use Rattle.to_image.proofs.Filling.{Full}
use Rattle.frame_in_lists.specs.InPlace.{settings_in, ToldOf, Closed}
use Rattle.frame_in_lists.proofs.Turns.{Holds, holds_at, Keeping, keeping_none, still, keeping-taken, keeping-left, young, young-taken, young-left, born-more}
use Rattle.frame_in_lists.proofs.Looking.{views_by, ahead_in, Looked, looked-fine, looked-holds, looked-views}
use Rattle.frame_in_lists.proofs.Storing.{stored_from, stored-turn, stored-done}
use Rattle.update_in_lists.specs.Host.{telling, Hosted}
use Rattle.update_in_lists.proofs.Stepping.{every-keep, stop-early, not_stopped, stop-full, few-left, is-ready, left-young, step-accepted}

-- ---- the same, by equations

pub looked-as : {i : TrackerImage} {s : Settings} {w w' : List Tracked} {vb vd vl vp vb' vd' vl' vp' : List Float} {from n n' u : ℕ} → w' ≡ w → vb' ≡ vb → vd' ≡ vd → vl' ≡ vl → vp' ≡ vp → n' ≡ n → Looked i s w vb vd vl vp from n u → Looked i s w' vb' vd' vl' vp' from n' u
looked-as {i} {s} {w} {w'} {vb} {vd} {vl} {vp} {vb'} {vd'} {vl'} {vp'} {from} {n} {n'} {u} a b c d e f h =
    subst₂ (λ (x : List Tracked) (m : ℕ). Looked i s x vb' vd' vl' vp' from m u) (sym a) (sym f)
    (subst₂ (λ (x y : List Float). Looked i s w x y vl' vp' from n u) (sym b) (sym c) (subst₂ (λ (x y : List Float). Looked i s w vb vd x y from n u) (sym d) (sym e) h))

-- ---- a call on a sound state that no early row refuses

pub record Open (i : TrackerImage) (s : Settings) (input boxes : List Float) (ids : List ℕ) : Type 0 where
  pub same : s ≡ settings_in i
  pub fine : (meant i && state_rules (thaw_tracker i)) ≡ true
  pub unrefused : early (thaw_tracker i).frames (call_of input boxes ids) ≡ None

module _ {i : TrackerImage} {s : Settings} {input boxes : List Float} {ids : List ℕ} (o : Open i s input boxes ids) where
  pub head : tagged (byte_in i) ≡ true
  unfolding meant
  head = and_left (tagged (byte_in i)) _ (and_left (meant i) (state_rules (thaw_tracker i)) o.fine)

  pub is-clear : Clear (thaw_tracker i).frames (call_of input boxes ids)
  is-clear = clear (thaw_tracker i).frames (call_of input boxes ids) o.unrefused

-- what the rounds are given: its tracks ahead, in the table and as views
pub record Opened (i : TrackerImage) (s : Settings) (input boxes : List Float) (ids : List ℕ) (w : List Tracked) (ahead : ℕ) (v : Views) : Type 0 where
  pub on : Open i s input boxes ids
  pub holds : Holds (ahead_in i) ahead w
  pub views : v ≡ views_of (map (tracked_view s) (ahead_in i))

-- its pairs, which leave room for the births
pub record Paired (i : TrackerImage) (s : Settings) (input boxes : List Float) (ids : List ℕ) (p : Pairing) : Type 0 where
  pub on : Open i s input boxes ids
  pub pairs : Pairs (rounds (settings_in i) (map (tracked_view (settings_in i)) (ahead_in i)) (objects_of input)) p
  pub room : length (ahead_in i) + p.left.n ≤ 64

-- every track was looked at: what the early rows say decides
module _ {i : TrackerImage} {s : Settings} {w : List Tracked} {vb vd vl vp : List Float} {from ahead u : ℕ} (h : Looked i s w vb vd vl vp from ahead u) (l : count_in i ≤ u) (input boxes : List Float) (ids : List ℕ) where
  pub early-refused : {q : Refusal} → Told (frames_in i) (length input) (length boxes) (length ids) (Err q) → Hosted i input boxes ids i (telling (Err q)) boxes ids
  unfolding thaw_tracker
  early-refused {q} p = stop-early i input boxes ids (looked-fine h l) q p

  pub opened : Told (frames_in i) (length input) (length boxes) (length ids) (Ok tt) → {v : Views} → v ≡ views_by ahead vb vd vl vp → Opened i s input boxes ids w ahead v
  unfolding thaw_tracker
  opened p e = record {
    on = record { same = h.same; fine = looked-fine h l; unrefused = not_stopped i input boxes ids (looked-fine h l) p };
    holds = looked-holds h l;
    views = e ∙ looked-views h l;
  }

module _ {i : TrackerImage} {s : Settings} {input boxes : List Float} {ids : List ℕ} {w : List Tracked} {ahead : ℕ} {v : Views} (o : Opened i s input boxes ids w ahead v) where
  pub opened-few : ahead ≤ 64
  opened-few = omega (arith, o.holds.count, predicted-short (thaw_tracker i) (and_right (meant i) (state_rules (thaw_tracker i)) o.on.fine))

  module _ (p : Pairing) (f : (vs : List View) → v ≡ views_of vs → Pairs (rounds s vs (objects_of input)) p) where
    opened-pairs : Pairs (rounds (settings_in i) (map (tracked_view (settings_in i)) (ahead_in i)) (objects_of input)) p
    opened-pairs = subst (λ (x : Settings). Pairs (rounds x (map (tracked_view x) (ahead_in i)) (objects_of input)) p) o.on.same (f (map (tracked_view s) (ahead_in i)) o.views)

    pub opened-left : p.left.n ≤ 64
    opened-left = few-left i input boxes ids o.on.fine o.on.unrefused p opened-pairs (is-clear o.on).input

    pub full-refused : 64 < ahead + p.left.n → Hosted i input boxes ids i (telling (Err FullTable)) boxes ids
    full-refused h = stop-full i input boxes ids o.on.fine o.on.unrefused p opened-pairs (omega (arith, h, o.holds.count))

    pub opened-paired : ahead + p.left.n ≤ 64 → Paired i s input boxes ids p
    opened-paired h = record { on = o.on; pairs = opened-pairs; room = omega (arith, h, o.holds.count) }

-- ---- the pairs

abbrev pub pairing_of : List (Option Detection) → ℕ → List Float → Pairing
pairing_of ks n cells = record { grants = ks; left = record { n = n; cells = cells } }

-- the tracks that were given something and have not aged out, and those that the frame leaves
abbrev pub young_in : TrackerImage → Pairing → List Tracked
young_in i p = keep (is_young (settings_in i)) (given_all (settings_in i).delta_t (ahead_in i) p.grants)

abbrev pub left_in : TrackerImage → Pairing → List Tracked
left_in i p = young_in i p ++ born_of (thaw_tracker i).issued (dets_in p.left)

module _ {i : TrackerImage} {s : Settings} {input boxes : List Float} {ids : List ℕ} {p : Pairing} (h : Paired i s input boxes ids p) where
  pub settles : Ready (thaw_tracker i) (tracks_of (ahead_in i)) p.left (length boxes) (length ids)
  settles = is-ready i input boxes ids h.on.fine h.on.unrefused p h.pairs h.room

  pub grants-long : length p.grants ≡ 64
  unfolding grants_of
  grants-long =
      let w : Work = rounds (settings_in i) (map (tracked_view (settings_in i)) (ahead_in i)) (objects_of input) in
      let n : length w.slots ≡ length (ahead_in i) = rounds-length (settings_in i) (map (tracked_view (settings_in i)) (ahead_in i)) (objects_of input) ∙ length-map (ahead_in i) (tracked_view (settings_in i)) in
      ap length h.pairs.0
      ∙ omega (arith, length-append (map grant_of w.slots) (replicate (64 - length w.slots) None), length-map w.slots grant_of, length-replicate {A = Option Detection} (64 - length w.slots) None, n, h.room)

  pub cells-long : length p.left.cells ≡ 320
  unfolding dets_of
  cells-long =
      let os : List Obj = (rounds (settings_in i) (map (tracked_view (settings_in i)) (ahead_in i)) (objects_of input)).left in
      let n : p.left.n ≡ length os = ap (λ (d : Dets). d.n) h.pairs.1 in
      ap (λ (d : Dets). length d.cells) h.pairs.1 ∙ padded-length 320 (cells_of os) (omega (arith, flat-length (λ (o : Obj). five_of o.det) 5 (λ o. refl) os, n, h.room))

  givables : every givable (ahead_in i) ≡ true
  givables = sym (ap (every givable) (tracks-in (ahead_in i))) ∙ settles.tracks

  lows : every (λ (e : Tracked). ltb e.id (thaw_tracker i).issued) (ahead_in i) ≡ true
  lows = sym (ap (every (λ (e : Tracked). ltb e.id (thaw_tracker i).issued)) (tracks-in (ahead_in i))) ∙ settles.low

  pub few-youngs : length (young_in i p) ≤ length (ahead_in i)
  few-youngs =
      omega
      (arith, keep-short (is_young (settings_in i)) (given_all (settings_in i).delta_t (ahead_in i) p.grants), few-given (settings_in i).delta_t (ahead_in i) p.grants)

  pub leaves : length (left_in i p) ≡ length (young_in i p) + p.left.n
  leaves = omega (arith, length-append (young_in i p) (born_of (thaw_tracker i).issued (dets_in p.left)), length-born (thaw_tracker i).issued (dets_in p.left), length-tab (det_at p.left.cells) p.left.n)

  pub low-left : every low_id (left_in i p) ≡ true
  low-left =
      sym (ap (every low_id) (left-young i input boxes ids h.on.fine h.on.unrefused p h.pairs h.room))
      ∙ every-keep low_id (is_young (settings_in i)) (given_all (settings_in i).delta_t (tracks_in (tracks_of (ahead_in i))) p.grants ++ born_of (thaw_tracker i).issued (dets_in p.left))
      (ap (λ (l : List Tracked). every low_id (given_all (settings_in i).delta_t l p.grants ++ born_of (thaw_tracker i).issued (dets_in p.left))) (tracks-in (ahead_in i))
      ∙ low-joined (thaw_tracker i).issued (settings_in i).delta_t (ahead_in i) p.grants (dets_in p.left) lows (omega (arith, length-tab (det_at p.left.cells) p.left.n, h.room, settles.issued)))

-- ---- boxes and misses

pub record Giving (i : TrackerImage) (s : Settings) (input boxes : List Float) (ids : List ℕ) (p : Pairing) (ahead : ℕ) (w₀ w : List Tracked) (n g : ℕ) : Type 0 where
  pub paired : Paired i s input boxes ids p
  pub holds : Holds (ahead_in i) ahead w₀
  pub reached : g ≤ ahead
  pub keeping : Keeping (young (settings_in i) (ahead_in i) p.grants g) w₀ g n w

pub giving-first : {i : TrackerImage} {s : Settings} {input boxes : List Float} {ids : List ℕ} {p : Pairing} {ahead : ℕ} {w : List Tracked} → Paired i s input boxes ids p → Holds (ahead_in i) ahead w → Giving i s input boxes ids p ahead w w 0 0
giving-first {i} {s} {input} {boxes} {ids} {p} {ahead} {w} h k = record { paired = h; holds = k; reached = omega arith; keeping = keeping_none w k.long }

module _ {i : TrackerImage} {s : Settings} {input boxes : List Float} {ids : List ℕ} {p : Pairing} {ahead : ℕ} {w₀ w : List Tracked} {n g : ℕ} (h : Giving i s input boxes ids p ahead w₀ w n g) where
  pub giving-few : n ≤ g
  giving-few = h.keeping.few

  pub giving-ahead : ahead ≤ 64
  giving-ahead = omega (arith, h.holds.count, h.paired.room)

  module _ (d : Tracked) (below : g < ahead) where
    at : get_or w g d ≡ get_or (ahead_in i) g d
    at = still (young (settings_in i) (ahead_in i) p.grants g) w₀ g n w h.keeping d ∙ holds_at (ahead_in i) ahead w₀ g d h.holds below

    there : g < length (ahead_in i)
    there = omega (arith, h.holds.count, below)

    pub can-give : (s.delta_t ≤ 8) × (givable (get_or w g d) ≡ true)
    can-give = (subst (λ (x : Settings). x.delta_t ≤ 8) (sym h.paired.on.same) (settles h.paired).delta_t, ap givable at ∙ every-at givable (ahead_in i) g d (givables h.paired) there)

    module _ (k : Option Detection) {e : Tracked} (is : e ≡ given_one s.delta_t (get_or p.grants g k) (get_or w g d)) where
      given : e ≡ given_one (settings_in i).delta_t (get_or p.grants g k) (get_or (ahead_in i) g d)
      given = is ∙ ap₂ (λ (x : Settings) (y : Tracked). given_one x.delta_t (get_or p.grants g k) y) h.paired.on.same at

      granted : g < length p.grants
      granted = omega (arith, grants-long h.paired, below, giving-ahead)

      youth : (b : Bool) → is_young s e ≡ b → is_young (settings_in i) e ≡ b
      youth b t = ap (λ (x : Settings). is_young x e) (sym h.paired.on.same) ∙ t

      pub giving-taken : is_young s e ≡ true → Giving i s input boxes ids p ahead w₀ (set w n e) (n + 1) (g + 1)
      giving-taken t = record {
        paired = h.paired;
        holds = h.holds;
        reached = omega (arith, below);
        keeping = keeping-taken (young (settings_in i) (ahead_in i) p.grants g) w₀ g n w h.keeping (young (settings_in i) (ahead_in i) p.grants (g + 1)) e (young-taken (settings_in i) (ahead_in i) p.grants g d k e there granted given (youth true t)) (omega (arith, below, giving-ahead));
      }

      pub giving-left : is_young s e ≡ false → Giving i s input boxes ids p ahead w₀ w n (g + 1)
      giving-left t = record {
        paired = h.paired;
        holds = h.holds;
        reached = omega (arith, below);
        keeping = keeping-left (young (settings_in i) (ahead_in i) p.grants g) w₀ g n w h.keeping (young (settings_in i) (ahead_in i) p.grants (g + 1)) (young-left (settings_in i) (ahead_in i) p.grants g d k e there granted given (youth false t));
      }

  pub giving-as : {w' : List Tracked} {m : ℕ} → w' ≡ w → m ≡ n → Giving i s input boxes ids p ahead w₀ w' m g
  giving-as {w'} {m} a b = subst₂ (λ (x : List Tracked) (k : ℕ). Giving i s input boxes ids p ahead w₀ x k g) (sym a) (sym b) h

  pub giving-done : ahead ≤ g → Holds (young_in i p) n w
  giving-done l =
      let e : g ≡ length (ahead_in i) = omega (arith, l, h.reached, h.holds.count) in
      subst (λ (x : List Tracked). Holds (keep (is_young (settings_in i)) (given_all (settings_in i).delta_t x p.grants)) n w) (ap (λ (k : ℕ). take k (ahead_in i)) e ∙ take-length (ahead_in i)) h.keeping.holds

-- ---- births

pub record Bearing (i : TrackerImage) (s : Settings) (input boxes : List Float) (ids : List ℕ) (births : ℕ) (cells : List Float) (n : ℕ) (w : List Tracked) (b : ℕ) : Type 0 where
  pub grants : List (Option Detection)
  pub paired : Paired i s input boxes ids (pairing_of grants births cells)
  pub count : n ≡ length (young_in i (pairing_of grants births cells))
  pub reached : b ≤ births
  pub holds : Holds (table.joined (young_in i (pairing_of grants births cells)) (thaw_tracker i).issued (det_at cells) b) (n + b) w

module _ {i : TrackerImage} {s : Settings} {input boxes : List Float} {ids : List ℕ} {births : ℕ} {cells : List Float} {n : ℕ} {w : List Tracked} where
  pub bearing-first : {ks : List (Option Detection)} → Paired i s input boxes ids (pairing_of ks births cells) → Holds (young_in i (pairing_of ks births cells)) n w → Bearing i s input boxes ids births cells n w 0
  bearing-first {ks} h k =
      let y : List Tracked = young_in i (pairing_of ks births cells) in
      let z : n ≡ n + 0 = omega arith in
      record {
        grants = ks;
        paired = h;
        count = k.count;
        reached = omega arith;
        holds = subst (λ (m : ℕ). Holds (table.joined y (thaw_tracker i).issued (det_at cells) 0) m w) z (subst (λ (l : List Tracked). Holds l n w) (sym (append-nil y)) k);
      }

  module _ {b : ℕ} (h : Bearing i s input boxes ids births cells n w b) where
    pub bearing-room : n + births ≤ 64
    bearing-room = omega (arith, h.count, few-youngs h.paired, h.paired.room)

    pub bearing-ids : (thaw_tracker i).issued + births ≤ 64000000
    bearing-ids = omega (arith, (settles h.paired).issued, h.paired.room)

    pub bearing-long : length cells ≡ 320
    bearing-long = cells-long h.paired

    pub bearing-turn : {d : Detection} {x : Tracked} → b < births → d ≡ det_at cells b → x ≡ newborn ((thaw_tracker i).issued + b) d → Bearing i s input boxes ids births cells n (set w (n + b) x) (b + 1)
    bearing-turn {d} {x} below is q = record {
      grants = h.grants;
      paired = h.paired;
      count = h.count;
      reached = omega (arith, below);
      holds = born-more (young_in i (pairing_of h.grants births cells)) n (thaw_tracker i).issued (det_at cells) b w d x h.holds (omega (arith, bearing-room, below)) is q;
    }

    pub bearing-done : births ≤ b → Holds (left_in i (pairing_of h.grants births cells)) (n + births) w
    bearing-done l =
        let e : b ≡ births = omega (arith, l, h.reached) in
        subst (λ (k : ℕ). Holds (table.joined (young_in i (pairing_of h.grants births cells)) (thaw_tracker i).issued (det_at cells) k) (n + k) w) e h.holds

-- ---- reports, and the tracks written back

abbrev told : TrackerImage → Pairing → ℕ → List Tracked
told i p r = drop r (tracks_in (tracks_of (left_in i p)))

-- i' is the image with the tracks from r on in it
pub record Telling (i : TrackerImage) (s : Settings) (input boxes₀ : List Float) (ids₀ : List ℕ) (births live : ℕ) (w : List Tracked) (i' : TrackerImage) (boxes : List Float) (ids : List ℕ) (n r : ℕ) : Type 0 where
  pub pairing : Pairing
  pub born : births ≡ pairing.left.n
  pub paired : Paired i s input boxes₀ ids₀ pairing
  pub holds : Holds (left_in i pairing) live w
  pub reached : r ≤ live
  pub few : n + r ≤ live
  pub written : Written (reports_of (settings_in i) ((thaw_tracker i).frames + 1) (told i pairing r)) n boxes₀ ids₀ boxes ids
  pub stored : i' ≡ stored_from i r (drop r (left_in i pairing))
  pub full : All Full (drop r (left_in i pairing))

pub telling-first : {i : TrackerImage} {s : Settings} {input boxes : List Float} {ids : List ℕ} {p : Pairing} {live : ℕ} {w : List Tracked} → Paired i s input boxes ids p → Holds (left_in i p) live w → Telling i s input boxes ids p.left.n live w i boxes ids 0 live
telling-first {i} {s} {input} {boxes} {ids} {p} {live} {w} h g =
    let t : Tracks = tracks_of (left_in i p) in
    let z : live ≡ t.count = g.count ∙ sym (tracks-count (left_in i p)) in
    let v : reports_of (settings_in i) ((thaw_tracker i).frames + 1) (told i p live) ≡ [] = ap (λ (k : ℕ). reports_of (settings_in i) ((thaw_tracker i).frames + 1) (told i p k)) z ∙ writing.none_told (settings_in i) ((thaw_tracker i).frames + 1) t boxes ids in
    let nil : drop live (left_in i p) ≡ [] = drop_of_length-le (left_in i p) {i = live} (omega (arith, g.count)) in
    record {
      pairing = p;
      born = refl;
      paired = h;
      holds = g;
      reached = omega arith;
      few = omega arith;
      written = subst (λ rs. Written rs 0 boxes ids boxes ids) (sym v) (writing.nothing_written boxes ids);
      stored = sym (ap (stored_from i live) nil);
      full = subst (All Full) (sym nil) tt;
    }

module _ {i : TrackerImage} {s : Settings} {input boxes₀ : List Float} {ids₀ : List ℕ} {births live : ℕ} {w : List Tracked} {i₁ : TrackerImage} {boxes : List Float} {ids : List ℕ} {n r : ℕ} (h : Telling i s input boxes₀ ids₀ births live w i₁ boxes ids n r) where
  abbrev p : Pairing
  p = h.pairing

  abbrev es : List Tracked
  es = left_in i p

  abbrev ts : Tracks
  ts = tracks_of es

  abbrev rs : List Tracked → List Report
  rs l = reports_of (settings_in i) ((thaw_tracker i).frames + 1) l

  wide : (256 ≤ length boxes₀) × (64 ≤ length ids₀)
  wide = ((is-clear h.paired.on).boxes, (is-clear h.paired.on).ids)

  pub telling-live : live ≤ 64
  telling-live = omega (arith, h.holds.count, leaves h.paired, few-youngs h.paired, h.paired.room)

  pub telling-boxes : length boxes ≡ length boxes₀
  telling-boxes = writing.boxes-long boxes₀ ids₀ (rs (told i p r)) n boxes ids h.written (omega (arith, h.few, telling-live, wide.0))

  pub telling-ids : length ids ≡ length ids₀
  telling-ids = writing.ids-long boxes₀ ids₀ (rs (told i p r)) n boxes ids h.written (omega (arith, h.few, telling-live, wide.1))

  module _ (d : Tracked) (more : 0 < r) where
    abbrev e : Tracked
    e = get_or w (r - 1) d

    inside : r - 1 < length es
    inside = omega (arith, more, h.reached, h.holds.count)

    held : e ≡ get_or es (r - 1) d
    held = holds_at es live w (r - 1) d h.holds (omega (arith, more, h.reached))

    -- the same in the table that the reports' laws speak of
    cell : e ≡ get_or ts.table (r - 1) d
    unfolding tracks_of
    cell = held ∙ sym (get_or-append es (replicate (64 - length es) blank) d (r - 1) inside)

    full-table : length ts.table ≡ 64
    unfolding tracks_of
    full-table = omega (arith, length-append es (replicate (64 - length es) blank), length-replicate (64 - length es) blank, h.holds.count, telling-live)

    here : drop (r - 1) es ≡ e ∷ drop r es
    here =
        let z : suc (r - 1) ≡ r = omega (arith, more) in
        drop-cons es (r - 1) d inside ∙ ap₂ (λ (x : Tracked) (k : ℕ). x ∷ drop k es) (sym held) z

    pub can-tell : (4 * n + 4 ≤ length boxes) × ((n < length ids) × (low_id e ≡ true))
    can-tell = (
      omega (arith, telling-boxes, h.few, more, telling-live, wide.0),
      (omega (arith, telling-ids, h.few, more, telling-live, wide.1), ap low_id held ∙ every-at low_id es (r - 1) d (low-left h.paired) inside),
    )

    pub telling-turn : {n' : ℕ} {boxes' : List Float} {ids' : List ℕ} {i₂ : TrackerImage} → ToldOf s ((thaw_tracker i).frames + 1) e n boxes ids n' boxes' ids' → Put (r - 1) e i₁ i₂ → Telling i s input boxes₀ ids₀ births live w i₂ boxes' ids' n' (r - 1)
    telling-turn {n'} {boxes'} {ids'} {i₂} was put =
        let f : ℕ = (thaw_tracker i).frames + 1 in
        let b : Bool = is_reported s f e.track in
        let a : b ≡ is_reported (settings_in i) f (get_or ts.table (r - 1) d).track = ap₂ (λ (x : Settings) (y : Tracked). is_reported x f y.track) h.paired.on.same cell in
        let c : ts.count ≡ live = tracks-count es ∙ sym h.holds.count in
        let v : Written (rs (told i p (r - 1))) n' boxes₀ ids₀ boxes' ids'
        = writing.turn (settings_in i) f ts boxes₀ ids₀ r d b n n' boxes boxes' ids ids' more (omega (arith, h.reached, c)) (omega (arith, c, telling-live)) full-table wide.0 wide.1 h.written a was.count
        (was.boxes-after ∙ ap (λ (y : Tracked). pick b (rect_at n (report_of y).rect boxes) boxes) cell)
        (was.ids-after ∙ ap (λ (y : Tracked). pick b (set ids n (report_of y).id) ids) cell) in
        let m : n' + (r - 1) ≤ ts.count = writing.few-told (settings_in i) f ts boxes₀ ids₀ (r - 1) n' boxes' ids' v (omega (arith, h.reached, c)) in
        record {
          pairing = p;
          born = h.born;
          paired = h.paired;
          holds = h.holds;
          reached = omega (arith, h.reached);
          few = omega (arith, m, c);
          written = v;
          stored = stored-turn i i₁ i₂ (drop r es) e (r - 1) r (omega (arith, more)) h.stored put ∙ ap (stored_from i (r - 1)) (sym here);
          full = subst (All Full) (sym here) (put.full, h.full);
        }

  -- all of them told and written, and the lists closed: the call's answer
  pub telling-done : r ≡ 0 → {i₂ : TrackerImage} → Closed (issued_in i + births) live (frames_in i + 1) i₁ i₂ → Hosted i input boxes₀ ids₀ i₂ (telling (Ok n)) boxes ids
  unfolding thaw_tracker
  telling-done z {i₂} c =
      let v : Written (rs es) n boxes₀ ids₀ boxes ids = subst (λ (l : List Tracked). Written (rs l) n boxes₀ ids₀ boxes ids) (ap (told i p) z ∙ tracks-in es) h.written in
      let q : i₁ ≡ stored_from i 0 es = h.stored ∙ ap (λ (k : ℕ). stored_from i k (drop k es)) z in
      let f : All Full es = subst (λ (k : ℕ). All Full (drop k es)) z h.full in
      let j : i₂ ≡ freeze_tracker (state_of (settings_in i) (frames_in i + 1) (issued_in i + births) es) = stored-done i i₁ i₂ es (issued_in i + births) live (frames_in i + 1) q f h.holds.count telling-live (head h.paired.on) c in
      step-accepted i input boxes₀ ids₀ h.paired.on.fine h.paired.on.unrefused p h.paired.pairs h.paired.room i₂ n boxes ids v
      (j ∙ ap (λ (k : ℕ). freeze_tracker (state_of (settings_in i) (frames_in i + 1) (issued_in i + k) es)) h.born)
