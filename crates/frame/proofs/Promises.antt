-- What a frame promises beside its definition: of reported and live ids, of what is issued and counted, and of the state rules. Assumes nothing.
use Rattle.std.specs.Prelude.{Option, Some, None}
use mathlib.Core.Path.{◌≡◌, refl, sym, ap, subst, ◌∙◌}
use mathlib.Core.Bool.{Bool, true, false, ◌&&◌, ◌||◌}
use mathlib.Core.List.{List, [], ◌∷◌, ◌++◌, map, append-nil, Memᴰ}
use Prim.Native.Nat.{ℕ, suc, ◌+◌, ◌-◌, ◌≤◌, ◌<◌}
use native.Mathlib.Omega.{arith}
use lib.Dec.{leb, eqb}
use lib.ListN.{length, length-map}
use borrow.Author.Tests.{ltb-false, eqb-true, le-leb}
use Rattle.lists.specs.Lists.{pick, put, keep, up_from, All}
use Rattle.lists.proofs.All.{all_append, map-append}
use Rattle.lists.proofs.Keep.{keep_append}
use Rattle.object.specs.declared.Refusal.{Refusal}
use Rattle.object.specs.declared.Refusal.TheVariants.{UnsoundState, FullTable}
use Rattle.strack.specs.declared.Track.{Track}
use Rattle.strack.specs.Track.{birth_of}
use Rattle.frame.specs.declared.Settings.{Settings}
use Rattle.frame.specs.declared.Tracked.{Tracked}
use Rattle.frame.specs.declared.Tracker.{Tracker}
use Rattle.frame.specs.State.{live, state_of, state_rules}
use Rattle.frame.specs.Objects.{Obj}
use Rattle.frame.specs.Rounds.{Work}
use Rattle.frame.specs.Frame.{Call, Report, refused, reports, early, predicted_tracks, rounds_over, births, report_of, is_reported, snoc_if, reports_of, is_young, is_full, settled, frame_at, frame_of}
use Rattle.frame.specs.Contract.{live_ids, Falling, Promises}
use Rattle.frame.proofs.Rules.{clear}
use Rattle.frame.proofs.Rising.{ids_of, sub_refl, sub_trans, sub-keep, Climbing, all-imp, born-ids, given, with_born, lineal, with-born-rise}
use Rattle.frame.proofs.StaysSound.{live_of, left-few, sound-after}

-- ---- reports

module _ (s : Settings) (f : ℕ) where
  abbrev shown : List Tracked → List ℕ
  shown es = map (λ (x : Report). x.id) (reports_of s f es)

  -- a list of reports with one more where the track is reported
  shown-cons : (e : Tracked) (es : List Tracked) (P : List ℕ → Type 0) → (is_reported s f e.track ≡ true → P (shown es ++ (suc e.id ∷ []))) → P (shown es) → P (shown (e ∷ es))
  unfolding report_of
  shown-cons e es P h g = go (is_reported s f e.track) refl
    where
      go : (b : Bool) → is_reported s f e.track ≡ b → P (map (λ (x : Report). x.id) (snoc_if b (reports_of s f es) (report_of e)))
      go true q = subst P (sym (map-append (λ (x : Report). x.id) (reports_of s f es) (report_of e ∷ []))) (h q)
      go false q = g

  young : (t : Track) → is_reported s f t ≡ true → t.since ≡ 0
  unfolding is_reported
  young t h = eqb-true t.since 0 (go (eqb t.since 0) (leb s.min_hits t.streak || leb f s.min_hits) h)
    where
      go : (a b : Bool) → (a && b) ≡ true → a ≡ true
      go true b e = refl
      go false b e = e

  stays : (e : Tracked) → is_reported s f e.track ≡ true → is_young s e ≡ true
  stays e h = le-leb e.track.since s.max_age (omega (arith, young e.track h))

  abbrev LiveIn : List ℕ → ℕ → Type 0
  LiveIn l i = (j : ℕ) × (i ≡ suc j) × Memᴰ j l

  live_more : (e : Tracked) (b : Bool) (l : List Tracked) (i : ℕ) → LiveIn (ids_of l) i → LiveIn (ids_of (put b e l)) i
  live_more e true l i h = (h.0, h.1, Memᴰ.tail h.2)
  live_more e false l i h = h

  pub reported_live : (es : List Tracked) → All (LiveIn (ids_of (keep (is_young s) es))) (shown es)
  reported_live [] = tt
  reported_live (e ∷ es) =
      let older : All (LiveIn (ids_of (keep (is_young s) (e ∷ es)))) (shown es) = all-imp (live_more e (is_young s e) (keep (is_young s) es)) (shown es) (reported_live es) in
      shown-cons e es (All (LiveIn (ids_of (keep (is_young s) (e ∷ es))))) (λ h. all_append (LiveIn (ids_of (keep (is_young s) (e ∷ es)))) (shown es) (suc e.id ∷ []) older (here h, tt)) older
    where
      here : is_reported s f e.track ≡ true → LiveIn (ids_of (keep (is_young s) (e ∷ es))) (suc e.id)
      here h = subst (λ (b : Bool). LiveIn (ids_of (put b e (keep (is_young s) es))) (suc e.id)) (sym (stays e h)) (e.id, refl, Memᴰ.head refl)

  above : (a : ℕ) (es : List Tracked) → All (λ b. a < b) (ids_of es) → All (λ i. suc a < i) (shown es)
  above a [] h = tt
  above a (e ∷ es) h =
      let older : All (λ i. suc a < i) (shown es) = above a es h.1 in
      let i : a < e.id = h.0 in
      shown-cons e es (All (λ i. suc a < i)) (λ _. all_append (λ i. suc a < i) (shown es) (suc e.id ∷ []) older (omega (arith, i), tt)) older

  falling-snoc : (l : List ℕ) (a : ℕ) → Falling l → All (λ b. a < b) l → Falling (l ++ (a ∷ []))
  falling-snoc [] a h g = (tt, tt)
  falling-snoc (b ∷ l) a h g = (all_append (λ c. c < b) l (a ∷ []) h.0 (g.0, tt), falling-snoc l a h.1 g.1)

  pub reported_fall : (es : List Tracked) → Climbing (ids_of es) → Falling (shown es)
  reported_fall [] c = tt
  reported_fall (e ∷ es) c =
      let older : Falling (shown es) = reported_fall es c.1 in
      shown-cons e es Falling (λ _. falling-snoc (shown es) (suc e.id) older (above e.id es c.0)) older

-- ---- the frame

born-young : (s : Settings) (i : ℕ) (os : List Obj) → keep (is_young s) (births i os) ≡ births i os
unfolding birth_of
born-young s i [] = refl
born-young s i (o ∷ os) = rw (le-leb 0 s.max_age (omega arith), born-young s (suc i) os)

pub refused-reports : {A : Type 0} (r : Refusal) (rs : List Report) → refused r ≡ reports rs → A
refused-reports r rs e = absurd (let z : ◌≡◌ {A = ℕ} 0 1 = cc in omega arith)

-- a refusal hands the state back
kept-all : (t : Tracker) (r : Refusal) → Promises t (refused r) t
kept-all t r = record {
  reported_live = tt;
  reported_fall = tt;
  lineage = (live_ids t, sub_refl (live_ids t), same);
  issued_grows = omega arith;
  counted = λ rs e. refused-reports r rs e;
  kept = λ q e. refl;
  room = λ rs e. refused-reports r rs e;
  sound = λ h. h;
}
  where
    same : live_ids t ≡ live_ids t ++ up_from t.issued (t.issued - t.issued)
    same = let z : t.issued - t.issued ≡ 0 = omega arith in rw (z, append-nil (live_ids t))

module _ (t : Tracker) (fine : state_rules t ≡ true) (going : t.frames < 1000000) where
  abbrev es : List Tracked
  es = predicted_tracks (live t)

  settled-promises : (w : Work) (full : Bool) → is_full es w ≡ full → Promises t (settled t es w full).reply (settled t es w full).next
  unfolding state_of
  settled-promises w true h = kept-all t FullTable
  settled-promises w false h = record {
    reported_live = subst (λ (l : List Tracked). All (LiveIn s f (ids_of l)) (shown s f all)) (sym (live_of s f n (keep (is_young s) all))) (reported_live s f all);
    reported_fall = reported_fall s f all (with-born-rise t w fine).climbs;
    lineage = (ids_of (keep (is_young s) (given t w)), sub_trans (sub-keep (is_young s) (given t w)) (lineal t w), ids);
    issued_grows = omega arith;
    counted = λ rs e. omega arith;
    kept = λ r e. refused-reports r (reports_of s f all) (sym e);
    room = λ rs e. omega (arith, length-map (live (state_of s f n (keep (is_young s) all))) (λ (x : Tracked). x.id), ap length (live_of s f n (keep (is_young s) all)), left-few t w fits);
    sound = λ _. sound-after t w fits fine going;
  }
    where
      s : Settings
      s = t.settings

      f : ℕ
      f = t.frames + 1

      n : ℕ
      n = t.issued + length w.left

      all : List Tracked
      all = with_born t w

      fits : length es + length w.left ≤ 64
      fits = ltb-false 64 (length es + length w.left) h

      ids : live_ids (state_of s f n (keep (is_young s) all)) ≡ ids_of (keep (is_young s) (given t w)) ++ up_from t.issued (n - t.issued)
      ids =
          let z : n - t.issued ≡ length w.left = omega arith in
          let born = births t.issued w.left in
          ap ids_of (live_of s f n (keep (is_young s) all)) ∙ ap ids_of (keep_append (is_young s) (given t w) born) ∙ map-append (λ (e : Tracked). e.id) (keep (is_young s) (given t w)) (keep (is_young s) born)
          ∙ ap (λ (l : List ℕ). ids_of (keep (is_young s) (given t w)) ++ l) (ap ids_of (born-young s t.issued w.left) ∙ born-ids t.issued w.left ∙ ap (up_from t.issued) (sym z))

pub promised : (t : Tracker) (c : Call) → Promises t (frame_of t c).reply (frame_of t c).next
unfolding frame_of
promised t c = go (state_rules t) refl
  where
    at : state_rules t ≡ true → (r : Option Refusal) → early t.frames c ≡ r → Promises t (frame_at t c r).reply (frame_at t c r).next
    at h (Some r) e = kept-all t r
    at h None e =
        let w : Work = rounds_over t.settings (predicted_tracks (live t)) c.input in
        settled-promises t h (clear t.frames c e).not-over w (is_full (predicted_tracks (live t)) w) refl

    go : (b : Bool) → state_rules t ≡ b → Promises t (frame_at t c (pick b (early t.frames c) (Some UnsoundState))).reply (frame_at t c (pick b (early t.frames c) (Some UnsoundState))).next
    go true h = at h (early t.frames c) refl
    go false h = kept-all t UnsoundState
