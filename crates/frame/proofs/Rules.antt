-- What the state rules say, and what the rows before the rounds leave, each by its name. Assumes nothing.
use Rattle.std.specs.Prelude.{Option, Some, None}
use mathlib.Core.Path.{◌≡◌, refl}
use mathlib.Core.Bool.{Bool, true, false, not, ◌&&◌, ◌||◌}
use Prim.Native.Nat.{ℕ, ◌*◌, ◌%◌, ◌≤◌, ◌<◌}
use native.Mathlib.Omega.{arith}
use lib.Dec.{leb, ltb, eqb}
use lib.Ieee.{is_nan}
use lib.ListN.{length}
use borrow.Author.Tests.{leb-true, le-leb, ltb-false, leb-false}
use Rattle.lists.specs.Lists.{pick, every}
use Rattle.lapjv_walk.proofs.Cases.{and_left, and_right}
use Rattle.object.specs.declared.Refusal.{Refusal}
use Rattle.object.specs.declared.Refusal.TheVariants.{RaggedFrame, CrowdedFrame, ShortAnswer, RunOver}
use Rattle.strack.specs.Rules.{own_rules}
use Rattle.frame.specs.declared.Settings.{Settings}
use Rattle.frame.specs.declared.Tracked.{Tracked}
use Rattle.frame.specs.declared.Tracker.{Tracker}
use Rattle.frame.specs.State.{unit_range, in_range, live, rising, track_rules, state_rules}
use Rattle.frame.specs.Frame.{Call, early}
use Rattle.frame.proofs.OwnRules.{Own, own, own-rules}

pub record Ranges (s : Settings) : Type 0 where
  pub max-age : s.max_age ≤ 255
  pub delta_t : s.delta_t ≤ 8

pub ranges : (s : Settings) → in_range s ≡ true → Ranges s
unfolding in_range
ranges s h =
    let a = not (is_nan s.det_thresh) && unit_range s.iou_threshold && unit_range s.inertia in
    let b = leb s.max_age 255 in
    let c = leb s.min_hits 255 in
    let d = leb s.delta_t 8 in
    record { max-age = leb-true s.max_age 255 (and_right a b (and_left (a && b) c (and_left (a && b && c) d h))); delta_t = leb-true s.delta_t 8 (and_right (a && b && c) d h) }

pub record Bounded (s : Settings) (frames : ℕ) (e : Tracked) : Type 0 where
  pub age : e.track.age ≤ frames
  pub since : e.track.since ≤ s.max_age
  pub own : Own e.track

pub bounded : (s : Settings) (frames : ℕ) (e : Tracked) → track_rules s frames e ≡ true → Bounded s frames e
unfolding track_rules
bounded s frames e h =
    let a = leb e.track.age frames in
    let b = leb e.track.since s.max_age in
    let c = own_rules e.track in
    record {
      age = leb-true _ _ (and_left a b (and_left (a && b) c h));
      since = leb-true _ _ (and_right a b (and_left (a && b) c h));
      own = own e.track (and_right (a && b) c h);
    }

pub track-rules : (s : Settings) (frames : ℕ) (e : Tracked) → Bounded s frames e → track_rules s frames e ≡ true
unfolding track_rules
track-rules s frames e b = rw (le-leb e.track.age frames b.age, le-leb e.track.since s.max_age b.since, own-rules e.track b.own)

pub record Sound (t : Tracker) : Type 0 where
  pub in-range : in_range t.settings ≡ true
  pub frames : t.frames ≤ 1000000
  pub issued : t.issued ≤ 64 * t.frames
  pub count : t.count ≤ 64
  pub ids : rising 0 t.issued (live t) ≡ true
  pub each : every (track_rules t.settings t.frames) (live t) ≡ true

pub sound : (t : Tracker) → state_rules t ≡ true → Sound t
unfolding state_rules
sound t h =
    let a = in_range t.settings in
    let b = leb t.frames 1000000 in
    let c = leb t.issued (64 * t.frames) in
    let d = leb t.count 64 in
    let e = rising 0 t.issued (live t) in
    let f = every (track_rules t.settings t.frames) (live t) in
    let abcde = and_left (a && b && c && d && e) f h in
    let abcd = and_left (a && b && c && d) e abcde in
    let abc = and_left (a && b && c) d abcd in
    let ab = and_left (a && b) c abc in
    record {
      in-range = and_left a b ab;
      frames = leb-true t.frames 1000000 (and_right a b ab);
      issued = leb-true t.issued (64 * t.frames) (and_right (a && b) c abc);
      count = leb-true t.count 64 (and_right (a && b && c) d abcd);
      ids = and_right (a && b && c && d) e abcde;
      each = and_right (a && b && c && d && e) f h;
    }

pub state-rules : (t : Tracker) → Sound t → state_rules t ≡ true
unfolding state_rules
state-rules t p =
    rw (p.in-range, le-leb t.frames 1000000 p.frames, le-leb t.issued (64 * t.frames) p.issued, le-leb t.count 64 p.count, p.ids, p.each)

-- ---- a call that no early row refuses

pub record Clear (frames : ℕ) (c : Call) : Type 0 where
  pub input : length c.input ≤ 320
  pub boxes : 256 ≤ c.boxes
  pub ids : 64 ≤ c.ids
  pub not-over : frames < 1000000

some-none : {A : Type 0} (r : Refusal) → ◌≡◌ {A = Option Refusal} (Some r) None → A
some-none r e = absurd (let z : ◌≡◌ {A = ℕ} 0 1 = cc in omega arith)

or_left : (a b : Bool) → (a || b) ≡ false → a ≡ false
or_left true b e = e
or_left false b e = refl

or_right : (a b : Bool) → (a || b) ≡ false → b ≡ false
or_right true true e = e
or_right true false e = refl
or_right false b e = e

pub clear : (frames : ℕ) (c : Call) → early frames c ≡ None → Clear frames c
unfolding early
clear frames c h = go (not (eqb (length c.input % 5) 0)) (ltb 320 (length c.input)) refl (ltb c.boxes 256 || ltb c.ids 64) refl (leb 1000000 frames) refl h
  where
    go : (x y : Bool) → ltb 320 (length c.input) ≡ y → (z : Bool) → (ltb c.boxes 256 || ltb c.ids 64) ≡ z → (v : Bool) → leb 1000000 frames ≡ v
        → pick x (Some RaggedFrame) (pick y (Some CrowdedFrame) (pick z (Some ShortAnswer) (pick v (Some RunOver) None))) ≡ None → Clear frames c
    go true y e₁ z e₂ v e₃ e = some-none RaggedFrame e
    go false true e₁ z e₂ v e₃ e = some-none CrowdedFrame e
    go false false e₁ true e₂ v e₃ e = some-none ShortAnswer e
    go false false e₁ false e₂ true e₃ e = some-none RunOver e
    go false false e₁ false e₂ false e₃ e = record {
      input = ltb-false 320 (length c.input) e₁;
      boxes = ltb-false c.boxes 256 (or_left (ltb c.boxes 256) (ltb c.ids 64) e₂);
      ids = ltb-false c.ids 64 (or_right (ltb c.boxes 256) (ltb c.ids 64) e₂);
      not-over = leb-false 1000000 frames e₃;
    }
