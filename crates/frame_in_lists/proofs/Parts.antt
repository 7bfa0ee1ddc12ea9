-- What each part of a frame in place leaves, from what it calls; and what usable totals tell. Assumes nothing.
use mathlib.Core.Path.{◌≡◌, refl, sym, ap, ap₂, subst, ◌∙◌}
use mathlib.Core.Bool.{Bool, true, false, ◌&&◌}
use mathlib.Core.List.{List}
use Prim.Native.Nat.{ℕ, ◌+◌, ◌*◌, ◌≤◌, ◌<◌}
use native.Mathlib.Omega.{arith}
use borrow.Author.Tests.{leb-true}
use lib.Dec.{leb, ltb}
use lib.Ieee.{Float}
use lib.ListN.{set}
use Rattle.std.specs.Prelude.{Ok, Err}
use Rattle.lists.specs.Lists.{pick}
use Rattle.object.specs.declared.Refusal.TheVariants.{UnsoundState}
use Rattle.lapjv_walk.proofs.Cases.{and_left, and_right}
use Rattle.frame.specs.declared.Settings.{Settings}
use Rattle.frame.specs.declared.Tracked.{Tracked}
use Rattle.frame.specs.State.{in_range, track_rules}
use Rattle.frame.specs.Frame.{predict_tracked, unbroken, is_reported, report_of}
use Rattle.frame.proofs.Rules.{bounded}
use Rattle.rules.specs.Rules.{total_rules, sound_at}
use Rattle.rules.proofs.Sound.{id_below}
use Rattle.reports.specs.Written.{rect_at}
use Rattle.image.specs.declared.TrackerImage.{TrackerImage}
use Rattle.image.specs.Image.{tagged, meant_track, cell_at, issued_in, count_in, byte_in, frames_in, Whole, Cleared}
use Rattle.frame_in_lists.specs.declared.Ahead.{Ahead}
use Rattle.frame_in_lists.specs.InPlace.{settings_in, usable_totals, track_in, usable_at, step_of, ahead_of, ToldOf, with_totals, Closed}

-- ---- before the loops

module _ (i : TrackerImage) (t : Bool) (is : t ≡ tagged (byte_in i)) where
  abbrev totals : Settings → Bool
  totals s = total_rules s (frames_in i) (issued_in i) (count_in i)

  pub totals-untagged : t ≡ false → false ≡ usable_totals i
  totals-untagged e = ap (λ (b : Bool). b && totals (settings_in i)) (sym e ∙ is)

  pub totals-tagged : t ≡ true → (s : Settings) (r : Bool) → s ≡ settings_in i → r ≡ totals s → r ≡ usable_totals i
  totals-tagged e s r same h = h ∙ ap totals same ∙ ap (λ (b : Bool). b && totals (settings_in i)) (sym e ∙ is)

-- what usable totals tell
pub record Bounds (i : TrackerImage) : Type 0 where
  pub ranged : in_range (settings_in i) ≡ true
  pub frames : frames_in i ≤ 1000000
  pub issued : issued_in i ≤ 64 * frames_in i
  pub count : count_in i ≤ 64

pub bounds : (i : TrackerImage) → usable_totals i ≡ true → Bounds i
unfolding total_rules
bounds i h =
    let a = in_range (settings_in i) in
    let b = leb (frames_in i) 1000000 in
    let c = leb (issued_in i) (64 * frames_in i) in
    let d = leb (count_in i) 64 in
    let abcd = and_right (tagged (byte_in i)) (a && b && c && d) h in
    let abc = and_left (a && b && c) d abcd in
    let ab = and_left (a && b) c abc in
    record {
      ranged = and_left a b ab;
      frames = leb-true (frames_in i) 1000000 (and_right a b ab);
      issued = leb-true (issued_in i) (64 * frames_in i) (and_right (a && b) c abc);
      count = leb-true (count_in i) 64 (and_right (a && b && c) d abcd);
    }

-- ---- up to the rounds

module _ (i : TrackerImage) (from k : ℕ) (e : Tracked) (is : e ≡ track_in i k) where
  -- the test, by its two parts
  pub test-is : (s : Settings) (m o : Bool) → s ≡ settings_in i → m ≡ meant_track (cell_at i k) → o ≡ sound_at s (frames_in i) (issued_in i) from e → (m && o) ≡ usable_at i from k
  test-is s m o same means sound =
      let y : o ≡ sound_at (settings_in i) (frames_in i) (issued_in i) from (track_in i k) = sound ∙ ap₂ (λ (z : Settings) (v : Tracked). sound_at z (frames_in i) (issued_in i) from v) same is in
      (λ j. means j && y j)

  pub ahead-unusable : usable_at i from k ≡ false → Err UnsoundState ≡ ahead_of i from k
  ahead-unusable h = ap (λ (b : Bool). pick b (Ok (step_of i k)) (Err UnsoundState)) (sym h)

  module _ (h : usable_at i from k ≡ true) where
    sound : sound_at (settings_in i) (frames_in i) (issued_in i) from (track_in i k) ≡ true
    sound = and_right (meant_track (cell_at i k)) (sound_at (settings_in i) (frames_in i) (issued_in i) from (track_in i k)) h

    pub can-step : usable_totals i ≡ true → (e.track.age + 1 < 4294967296) × (e.track.since + 1 < 4294967296)
    can-step t =
        let b = bounded (settings_in i) (frames_in i) (track_in i k) (and_right (leb from (track_in i k).id && ltb (track_in i k).id (issued_in i)) (track_rules (settings_in i) (frames_in i) (track_in i k)) sound) in
        subst (λ (x : Tracked). (x.track.age + 1 < 4294967296) × (x.track.since + 1 < 4294967296)) (sym is) (omega (arith, b.age, (bounds i t).frames), omega (arith, b.own.since, b.age, (bounds i t).frames))

    pub can-follow : usable_totals i ≡ true → e.id < 64000000
    can-follow t = omega (arith, id_below (settings_in i) (frames_in i) (issued_in i) from (track_in i k) sound, (bounds i t).issued, (bounds i t).frames, ap (λ (x : Tracked). x.id) is)

    pub ahead-usable : (p : Tracked) (b : Bool) → p ≡ predict_tracked e → b ≡ unbroken p → Ok (record { next = e.id + 1; tracked = pick b (Ok p) (Err p) }) ≡ ahead_of i from k
    ahead-usable p b q w =
        let ahead : p ≡ predict_tracked (track_in i k) = q ∙ ap predict_tracked is in
        let step : record { next = e.id + 1; tracked = pick b (Ok p) (Err p) } ≡ step_of i k = λ j. record { next = (is j).id + 1; tracked = pick ((w ∙ ap unbroken ahead) j) (Ok (ahead j)) (Err (ahead j)) } in
        ap (λ (a : Ahead). Ok a) step ∙ ap (λ (b : Bool). pick b (Ok (step_of i k)) (Err UnsoundState)) (sym h)

-- ---- once the pairs are known

pub told_of : (s : Settings) (frames : ℕ) (e : Tracked) (n : ℕ) (boxes : List Float) (ids : List ℕ) (n' : ℕ) (boxes' : List Float) (ids' : List ℕ) (b : Bool) → b ≡ is_reported s frames e.track
    → (n' ≡ pick b (n + 1) n) × ((boxes' ≡ pick b (rect_at n (report_of e).rect boxes) boxes) × (ids' ≡ pick b (set ids n (report_of e).id) ids)) → ToldOf s frames e n boxes ids n' boxes' ids'
told_of s frames e n boxes ids n' boxes' ids' b is w = record {
  count = w.0 ∙ ap (λ (x : Bool). pick x (n + 1) n) is;
  boxes-after = w.1.0 ∙ ap (λ (x : Bool). pick x (rect_at n (report_of e).rect boxes) boxes) is;
  ids-after = w.1.1 ∙ ap (λ (x : Bool). pick x (set ids n (report_of e).id) ids) is;
}

pub closed_of : (issued live frames : ℕ) (i zeroed : TrackerImage) → Whole i → Cleared live i zeroed → Closed issued live frames i (with_totals issued live frames zeroed)
closed_of issued live frames i zeroed w c = record { whole = w; zeroed = zeroed; cleared = c; totals = refl }
