-- The first loop of a frame in place: the tracks before u are usable, and those of them that prediction left unbroken stand in the table and in the rounds' arrays. Assumes nothing.
use mathlib.Core.Path.{◌≡◌, refl, sym, ap, ap₂, subst, ◌∙◌}
use mathlib.Core.Bool.{Bool, true, false, ◌&&◌}
use mathlib.Core.List.{List, [], ◌∷◌, ◌++◌, map, append-nil}
use Prim.Native.Nat.{ℕ, ◌+◌, ◌*◌, ◌≤◌, ◌<◌}
use native.Mathlib.Omega.{arith}
use lib.Ieee.{Float, nan}
use lib.ListN.{length, take, get_or, set, replicate, length-append, length-map, get_or-map}
use lib.Seq.{sets}
use Rattle.std.specs.Prelude.{Result, Ok, Err}
use Rattle.lists.specs.Lists.{pick, put, flat}
use Rattle.lists.proofs.Tab.{length-tab, get_or-tab}
use Rattle.lists.proofs.All.{map-append}
use Rattle.matching.specs.Associate.{four_of}
use Rattle.object.specs.declared.Refusal.{Refusal}
use Rattle.object.specs.declared.Refusal.TheVariants.{UnsoundState}
use Rattle.frame.specs.declared.Settings.{Settings}
use Rattle.frame.specs.declared.Tracked.{Tracked}
use Rattle.frame.specs.State.{live, state_rules}
use Rattle.frame.specs.Rounds.{View}
use Rattle.frame.specs.Frame.{tracked_view, predict_tracked, unbroken, predicted_tracks}
use Rattle.frame.proofs.Rules.{ranges}
use Rattle.rules.specs.Rules.{sound_at}
use Rattle.objects.specs.Cells.{padded}
use Rattle.objects.specs.Dets.{five_of}
use Rattle.objects.proofs.Cells.{flat-length, flat-push, padded-length}
use Rattle.views.specs.declared.Views.{Views}
use Rattle.views.specs.Views.{two_of, views_of}
use Rattle.tracks.proofs.Table as table
use Rattle.image.specs.declared.TrackerImage.{TrackerImage}
use Rattle.image.specs.Image.{Cell, thaw_track, thaw_tracker, meant_track, meant, cell_at, cells, issued_in, count_in, frames_in}
use Rattle.frame_in_lists.specs.declared.Ahead.{Ahead}
use Rattle.frame_in_lists.specs.InPlace.{settings_in, usable_totals, track_in, usable_at, step_of, ahead_of}
use Rattle.frame_in_lists.proofs.Parts.{bounds}
use Rattle.frame_in_lists.proofs.Testing.{tracks, usable, usable-passed, usable-failed, usable-all, bad-tracks, all-usable}
use Rattle.frame_in_lists.proofs.Turns.{Holds, holds-none, holds_more}

-- ---- the rounds' arrays

abbrev pub views_by : ℕ → List Float → List Float → List Float → List Float → Views
views_by n vb vd vl vp = record { n = n; boxes = vb; directions = vd; lasts = vl; previous = vp }

pub views-none : (x : Float) → x ≡ nan → views_by 0 (replicate 256 x) (replicate 128 x) (replicate 256 x) (replicate 320 x) ≡ views_of []
unfolding views_of
views-none x e = ap (λ (y : Float). views_by 0 (replicate 256 y) (replicate 128 y) (replicate 256 y) (replicate 320 y)) e

-- an array with w numbers of each view, in n cells
module _ (f : View → List Float) (w : ℕ) (wide : (v : View) → length (f v) ≡ w) (n : ℕ) (vs : List View) (array : List Float) (e : array ≡ padded n (flat f vs)) where
  long : w * length vs ≤ n → length array ≡ n
  long h = ap length e ∙ padded-length n (flat f vs) (subst (λ (k : ℕ). k ≤ n) (sym (flat-length f w wide vs)) h)

  push : (v : View) (j : ℕ) (r : List Float) → j ≡ length vs → w * length vs + w ≤ n → r ≡ sets array (w * j) (f v) → r ≡ padded n (flat f (vs ++ v ∷ []))
  push v j r c fit q = q ∙ ap₂ (λ (l : List Float) (k : ℕ). sets l (w * k) (f v)) e c ∙ flat-push f w wide n vs v fit

module _ (n : ℕ) (vs : List View) (vb vd vl vp : List Float) (e : views_by n vb vd vl vp ≡ views_of vs) where
  boxes-are : vb ≡ padded 256 (flat (λ (v : View). four_of v.box) vs)
  unfolding views_of
  boxes-are = ap (λ (x : Views). x.boxes) e

  directions-are : vd ≡ padded 128 (flat (λ (v : View). two_of v.direction) vs)
  unfolding views_of
  directions-are = ap (λ (x : Views). x.directions) e

  lasts_are : vl ≡ padded 256 (flat (λ (v : View). four_of v.last) vs)
  unfolding views_of
  lasts_are = ap (λ (x : Views). x.lasts) e

  previous-are : vp ≡ padded 320 (flat (λ (v : View). five_of v.previous) vs)
  unfolding views_of
  previous-are = ap (λ (x : Views). x.previous) e

  views-long : length vs ≤ 64 → (length vb ≡ 256) × (length vd ≡ 128) × (length vl ≡ 256) × (length vp ≡ 320)
  views-long h = (
    long (λ (v : View). four_of v.box) 4 (λ v. refl) 256 vs vb boxes-are (omega (arith, h)),
    long (λ (v : View). two_of v.direction) 2 (λ v. refl) 128 vs vd directions-are (omega (arith, h)),
    long (λ (v : View). four_of v.last) 4 (λ v. refl) 256 vs vl lasts_are (omega (arith, h)),
    long (λ (v : View). five_of v.previous) 5 (λ v. refl) 320 vs vp previous-are (omega (arith, h)),
  )

  -- one view more
  views-more : (v : View) (vb' vd' vl' vp' : List Float) → length vs < 64
      → (vb' ≡ sets vb (4 * n) (four_of v.box)) × (vd' ≡ sets vd (2 * n) (two_of v.direction)) × (vl' ≡ sets vl (4 * n) (four_of v.last)) × (vp' ≡ sets vp (5 * n) (five_of v.previous))
      → views_by (n + 1) vb' vd' vl' vp' ≡ views_of (vs ++ v ∷ [])
  unfolding views_of
  views-more v vb' vd' vl' vp' h wrote =
      let c : n ≡ length vs = ap (λ (x : Views). x.n) e in
      let m : n + 1 ≡ length (vs ++ v ∷ []) = ap (λ (k : ℕ). k + 1) c ∙ sym (length-append vs (v ∷ [])) in
      λ k. record {
        n = m k;
        boxes = push (λ (v : View). four_of v.box) 4 (λ v. refl) 256 vs vb boxes-are v n vb' c (omega (arith, h)) wrote.0 k;
        directions = push (λ (v : View). two_of v.direction) 2 (λ v. refl) 128 vs vd directions-are v n vd' c (omega (arith, h)) wrote.1 k;
        lasts = push (λ (v : View). four_of v.last) 4 (λ v. refl) 256 vs vl lasts_are v n vl' c (omega (arith, h)) wrote.2 k;
        previous = push (λ (v : View). five_of v.previous) 5 (λ v. refl) 320 vs vp previous-are v n vp' c (omega (arith, h)) wrote.3 k;
      }

-- ---- a track one frame ahead, or its refusal

abbrev each : {A : Type 0} → Result A A → List A
each (Ok x) = x ∷ []
each (Err x) = []

put-each : {A : Type 0} (b : Bool) (x : A) → put b x [] ≡ each (pick b (Ok x) (Err x))
put-each true x = refl
put-each false x = refl

is_ahead : (b : Bool) (x : Ahead) {a : Ahead} → ◌≡◌ {A = Result Ahead Refusal} (Ok a) (pick b (Ok x) (Err UnsoundState)) → (b ≡ true) × (a ≡ x)
is_ahead true x h = (refl, cc)
is_ahead false x h = absurd (let z : ◌≡◌ {A = ℕ} 0 1 = cc in omega arith)

not_ahead : (b : Bool) (x : Ahead) {r : Refusal} → ◌≡◌ {A = Result Ahead Refusal} (Err r) (pick b (Ok x) (Err UnsoundState)) → (b ≡ false) × (r ≡ UnsoundState)
not_ahead true x h = absurd (let z : ◌≡◌ {A = ℕ} 0 1 = cc in omega arith)
not_ahead false x h = (refl, cc)

-- ---- the loop

-- the tracks that the image stands for, the first u of them predicted, and all that are live
abbrev pub table_in : TrackerImage → List Tracked
table_in i = map thaw_track (cells i)

abbrev pub ahead_to : TrackerImage → ℕ → List Tracked
ahead_to i u = predicted_tracks (take u (table_in i))

abbrev pub ahead_in : TrackerImage → List Tracked
ahead_in i = predicted_tracks (live (thaw_tracker i))

pub record Looked (i : TrackerImage) (s : Settings) (w : List Tracked) (vb vd vl vp : List Float) (from ahead u : ℕ) : Type 0 where
  pub same : s ≡ settings_in i
  pub fit : usable_totals i ≡ true
  pub rest : tracks i ≡ usable (settings_in i) (frames_in i) (issued_in i) (cells i) (count_in i) from u
  pub reached : u ≤ count_in i
  pub holds : Holds (ahead_to i u) ahead w
  pub views : views_by ahead vb vd vl vp ≡ views_of (map (tracked_view s) (ahead_to i u))

pub looked-first : (i : TrackerImage) (s : Settings) (w : List Tracked) (x : Float) → s ≡ settings_in i → usable_totals i ≡ true → length w ≡ 64 → x ≡ nan
    → Looked i s w (replicate 256 x) (replicate 128 x) (replicate 256 x) (replicate 320 x) 0 0 0
unfolding predicted_tracks
looked-first i s w x same fit l e = record { same = same; fit = fit; rest = refl; reached = omega arith; holds = holds-none w l; views = views-none x e }

module _ {i : TrackerImage} {s : Settings} {w : List Tracked} {vb vd vl vp : List Float} {from ahead u : ℕ} (h : Looked i s w vb vd vl vp from ahead u) where
  pub looked-count : count_in i ≤ 64
  looked-count = (bounds i h.fit).count

  pub looked-delta : s.delta_t ≤ 8
  looked-delta = subst (λ (x : Settings). x.delta_t ≤ 8) (sym h.same) (ranges (settings_in i) (bounds i h.fit).ranged).delta_t

  pub looked-few : ahead ≤ u
  unfolding predicted_tracks
  looked-few =
      let c : ahead ≡ length (table.passed unbroken predict_tracked (table_in i) u) = h.holds.count in
      omega (arith, c, table.few-passed unbroken predict_tracked (table_in i) u)

  abbrev vs : List View
  vs = map (tracked_view s) (ahead_to i u)

  seen : length vs ≡ ahead
  seen = length-map (ahead_to i u) (tracked_view s) ∙ sym h.holds.count

  pub looked-long : (length vb ≡ 256) × (length vd ≡ 128) × (length vl ≡ 256) × (length vp ≡ 320)
  looked-long = views-long ahead vs vb vd vl vp h.views (omega (arith, seen, looked-few, h.reached, looked-count))

  short : count_in i ≤ length (cells i)
  short = omega (arith, looked-count, length-tab (cell_at i) 64)

  module _ (below : u < count_in i) where
    -- any cell, as what stands past the list
    abbrev d : Cell
    d = cell_at i 0

    in_table : u < 64
    in_table = omega (arith, below, looked-count)

    that : get_or (cells i) u d ≡ cell_at i u
    that = get_or-tab (cell_at i) 64 d u in_table

    said : (b : Bool) → usable_at i from u ≡ b → (meant_track (get_or (cells i) u d) && sound_at (settings_in i) (frames_in i) (issued_in i) from (thaw_track (get_or (cells i) u d))) ≡ b
    said b t = ap (λ (c : Cell). meant_track c && sound_at (settings_in i) (frames_in i) (issued_in i) from (thaw_track c)) that ∙ t

    pub looked-failed : {r : Refusal} → Err r ≡ ahead_of i from u → (r ≡ UnsoundState) × ((meant i && state_rules (thaw_tracker i)) ≡ false)
    looked-failed e =
        let t = not_ahead (usable_at i from u) (step_of i u) e in
        (t.1, bad-tracks i (h.rest ∙ usable-failed (settings_in i) (frames_in i) (issued_in i) (cells i) (count_in i) from u d short below (said false t.0)))

    module _ {a : Ahead} (is : Ok a ≡ ahead_of i from u) where
      step : (usable_at i from u ≡ true) × (a ≡ step_of i u)
      step = is_ahead (usable_at i from u) (step_of i u) is

      next-rest : tracks i ≡ usable (settings_in i) (frames_in i) (issued_in i) (cells i) (count_in i) a.next (u + 1)
      next-rest =
          h.rest
          ∙ usable-passed (settings_in i) (frames_in i) (issued_in i) (cells i) (count_in i) from u d short below (said true step.0)
          ∙ ap (λ (n : ℕ). usable (settings_in i) (frames_in i) (issued_in i) (cells i) (count_in i) n (u + 1)) (ap (λ (c : Cell). (thaw_track c).id + 1) that ∙ sym (ap (λ (x : Ahead). x.next) step.1))

      one_more : {o : Result Tracked Tracked} → a.tracked ≡ o → ahead_to i (u + 1) ≡ ahead_to i u ++ each o
      unfolding predicted_tracks
      one_more q =
          let p : predict_tracked (get_or (table_in i) u (thaw_track d)) ≡ predict_tracked (track_in i u) = ap predict_tracked (get_or-map thaw_track (cells i) u d ∙ ap thaw_track that) in
          table.one_more unbroken predict_tracked (table_in i) u (thaw_track d) (omega (arith, in_table, length-map (cells i) thaw_track, length-tab (cell_at i) 64))
          ∙ ap (λ (x : Tracked). table.passed unbroken predict_tracked (table_in i) u ++ put (unbroken x) x []) p
          ∙ ap (λ (l : List Tracked). table.passed unbroken predict_tracked (table_in i) u ++ l) (put-each (unbroken (predict_tracked (track_in i u))) (predict_tracked (track_in i u)) ∙ ap each (sym (ap (λ (x : Ahead). x.tracked) step.1) ∙ q))

      -- prediction broke the track
      pub looked-left : {e : Tracked} → a.tracked ≡ Err e → Looked i s w vb vd vl vp a.next ahead (u + 1)
      looked-left {e} q =
          let same : ahead_to i (u + 1) ≡ ahead_to i u = one_more q ∙ append-nil (ahead_to i u) in
          record {
            same = h.same;
            fit = h.fit;
            rest = next-rest;
            reached = omega (arith, below);
            holds = subst (λ (l : List Tracked). Holds l ahead w) (sym same) h.holds;
            views = h.views ∙ ap (λ (l : List Tracked). views_of (map (tracked_view s) l)) (sym same);
          }

      -- or left it
      pub looked-taken : {e : Tracked} {vb' vd' vl' vp' : List Float} → a.tracked ≡ Ok e
          → (vb' ≡ sets vb (4 * ahead) (four_of (tracked_view s e).box)) × (vd' ≡ sets vd (2 * ahead) (two_of (tracked_view s e).direction)) × (vl' ≡ sets vl (4 * ahead) (four_of (tracked_view s e).last)) × (vp' ≡ sets vp (5 * ahead) (five_of (tracked_view s e).previous))
          → Looked i s (set w ahead e) vb' vd' vl' vp' a.next (ahead + 1) (u + 1)
      looked-taken {e} {vb'} {vd'} {vl'} {vp'} q wrote =
          let more : ahead_to i (u + 1) ≡ ahead_to i u ++ e ∷ [] = one_more q in
          record {
            same = h.same;
            fit = h.fit;
            rest = next-rest;
            reached = omega (arith, below);
            holds = subst (λ (l : List Tracked). Holds l (ahead + 1) (set w ahead e)) (sym more) (holds_more (ahead_to i u) ahead w e h.holds (omega (arith, looked-few, in_table)));
            views = views-more ahead vs vb vd vl vp h.views (tracked_view s e) vb' vd' vl' vp' (omega (arith, seen, looked-few, in_table)) wrote
                ∙ ap views_of (sym (map-append (tracked_view s) (ahead_to i u) (e ∷ [])))
                ∙ ap (λ (l : List Tracked). views_of (map (tracked_view s) l)) (sym more);
          }

  module _ (l : count_in i ≤ u) where
    all : u ≡ count_in i
    all = omega (arith, l, h.reached)

    pub looked-fine : (meant i && state_rules (thaw_tracker i)) ≡ true
    looked-fine =
        all-usable i h.fit
        (h.rest ∙ ap (usable (settings_in i) (frames_in i) (issued_in i) (cells i) (count_in i) from) all ∙ usable-all (settings_in i) (frames_in i) (issued_in i) (cells i) (count_in i) from short)

    ahead-is : ahead_to i u ≡ ahead_in i
    unfolding thaw_tracker
    ahead-is = ap (ahead_to i) all

    pub looked-holds : Holds (ahead_in i) ahead w
    looked-holds = subst (λ (x : List Tracked). Holds x ahead w) ahead-is h.holds

    pub looked-views : views_by ahead vb vd vl vp ≡ views_of (map (tracked_view s) (ahead_in i))
    looked-views = h.views ∙ ap (λ (x : List Tracked). views_of (map (tracked_view s) x)) ahead-is
