-- A frame leaves the lists of a state as long as their types say, so the image of the state that it leaves is faithful. Assumes nothing.
use Rattle.std.specs.Prelude.{Option, Some, None}
use mathlib.Core.Path.{◌≡◌, refl}
use mathlib.Core.Bool.{Bool, true, false}
use mathlib.Core.List.{List, [], ◌∷◌, ◌++◌, map}
use Prim.Native.Nat.{ℕ, zero, suc, ◌+◌, ◌-◌, ◌≤◌}
use native.Mathlib.Omega.{arith}
use lib.Ieee.{Float}
use lib.ListN.{length, take, replicate, length-append, length-map, length-replicate}
use lib.Seq.{length-take-le}
use borrow.Author.Tests.{ltb-false}
use Rattle.lists.specs.Lists.{pick, flat, keep, All}
use Rattle.lists.proofs.All.{all_map, all_append, keep_all}
use Rattle.kalman_filter.specs.declared.Filter.{Filter}
use Rattle.kalman_filter.specs.declared.DetectBox.{DetectBox}
use Rattle.kalman_filter.specs.Filter.{start_of, predict_of, update_of}
use Rattle.gap.specs.Gap.{virtual_of, virtuals, replay_of}
use Rattle.object.specs.declared.Detection.{Detection}
use Rattle.object.specs.declared.Refusal.{Refusal}
use Rattle.object.specs.declared.Refusal.TheVariants.{UnsoundState, FullTable}
use Rattle.object.specs.Object.{corners_of}
use Rattle.strack.specs.declared.Track.{Track}
use Rattle.strack.specs.Boxes.{measure_of}
use Rattle.strack.specs.Track.{no_filter, shifted, birth_of, area_held, track_predict, regained, filter_after, track_box, saved_after, freezes, track_miss}
use Rattle.frame.specs.declared.Settings.{Settings}
use Rattle.frame.specs.declared.Tracked.{Tracked}
use Rattle.frame.specs.declared.Tracker.{Tracker}
use Rattle.frame.specs.State.{blank, live, state_of, empty_tracker, state_rules}
use Rattle.frame.specs.Objects.{Obj}
use Rattle.frame.specs.Rounds.{Grant, Slot, Work}
use Rattle.frame.specs.Frame.{Call, Report, reports, early, with_track, predict_tracked, unbroken, predicted_tracks, give, give_all, births, is_young, rounds_over, is_full, settled, frame_at, frame_of}
use Rattle.frame.proofs.Promises.{refused-reports}
use Rattle.frame.proofs.Rising.{with_born, given}
use Rattle.frame.proofs.StaysSound.{left-few}
use Rattle.image.specs.declared.TrackerImage.{TrackerImage}
use Rattle.image.specs.Image.{filter_floats, box_floats, list_floats, direction_floats, tag_of, Cell, freeze_track, thaw_track, cells, count_in, thaw_tracker, Faithful}
use Rattle.to_image.proofs.Putting.{box-long, list-long, direction-long, boxes-long}
use Rattle.to_image.proofs.Filling.{Full, all_weaker, all_replicate}
use Rattle.to_image.proofs.Back.{Shaped, faithful}

-- ---- a filter

abbrev Long : Filter → Type 0
Long f = (length f.x ≡ 7) × (length f.p ≡ 49)

none-long : Long no_filter
unfolding no_filter
none-long = (refl, refl)

start-long : (z : DetectBox) → Long (start_of z)
unfolding start_of
start-long z = (refl, refl)

predicted-long : (f : Filter) → Long (predict_of f)
unfolding predict_of
predicted-long f = (refl, refl)

updated-long : (z : DetectBox) (f : Filter) → Long (update_of z f)
unfolding update_of
updated-long z f = (refl, refl)

replayed-long : (gap : ℕ) (z₁ z₂ : DetectBox) (f : Filter) → Long (replay_of gap z₁ z₂ f)
unfolding replay_of
replayed-long gap z₁ z₂ f = updated-long z₂ (virtuals (virtual_of gap z₁ z₂) gap 1 f)

regained-long : (l : Option DetectBox) (gap : ℕ) (z : DetectBox) (f : Filter) → Long (regained l gap z f)
regained-long None gap z f = updated-long z f
regained-long (Some z₁) gap z f = replayed-long gap z₁ z f

after-long : (b : Bool) (t : Track) (z : DetectBox) → Long (filter_after b t z)
after-long false t z = updated-long z t.filter
after-long true t z = regained-long t.list t.since z t.saved

saved-long : (b : Bool) (t : Track) → Long t.filter → Long t.saved → Long (saved_after b t)
saved-long true t f s = f
saved-long false t f s = s

-- ---- a track

shifted-long : (l : Option Detection) (ks : List (Option Detection)) → length ks ≡ 8 → length (shifted l ks) ≡ 8
shifted-long l ks h = omega (arith, length-take-le 7 ks (omega (arith, h)))

shaped_of : (id : ℕ) (t : Track) → Long t.filter → Long t.saved → length t.kept ≡ 8 → Shaped (record { id = id; track = t })
shaped_of id t f s k = record { x = f.0; p = f.1; xs = s.0; ps = s.1; kept = k }

blank-shaped : Shaped blank
unfolding blank
blank-shaped = record { x = none-long.0; p = none-long.1; xs = none-long.0; ps = none-long.1; kept = refl }

decoded-shaped : (c : Cell) → Shaped (thaw_track c)
unfolding thaw_track
decoded-shaped c = record { x = refl; p = refl; xs = refl; ps = refl; kept = refl }

born-shaped : (id : ℕ) (d : Detection) → Shaped (record { id = id; track = birth_of d })
unfolding birth_of
born-shaped id d = shaped_of id (birth_of d) (start-long (measure_of (corners_of d))) none-long refl

predicted-shaped : (e : Tracked) → Shaped e → Shaped (predict_tracked e)
unfolding track_predict
predicted-shaped e h = shaped_of e.id (track_predict e.track) (predicted-long (area_held e.track.filter)) (h.xs, h.ps) h.kept

given-shaped : (dt : ℕ) (g : Option Grant) (e : Tracked) → Shaped e → Shaped (with_track e (give dt g e.track))
unfolding track_miss track_box
given-shaped dt None e h =
    let t : Track = e.track in
    shaped_of e.id (track_miss t) (h.x, h.p) (saved-long (freezes t) t (h.x, h.p) (h.xs, h.ps)) (shifted-long None t.kept h.kept)
given-shaped dt (Some g) e h =
    let t : Track = e.track in
    shaped_of e.id (track_box dt g.obj.det t) (after-long t.frozen t (measure_of (corners_of g.obj.det))) none-long (shifted-long (Some g.obj.det) t.kept h.kept)

-- its numbers fill its cell
full-of : (e : Tracked) → Shaped e → Full e
unfolding freeze_track
full-of e h =
    let t : Track = e.track in
    let d : List Float = direction_floats t.direction ++ flat box_floats t.kept in
    let l : List Float = list_floats t.list ++ d in
    let b : List Float = box_floats t.last ++ l in
    let s : List Float = filter_floats t.saved ++ b in (
      omega (
        arith,
        length-append (filter_floats t.filter) s,
        length-append t.filter.x t.filter.p,
        h.x,
        h.p,
        length-append (filter_floats t.saved) b,
        length-append t.saved.x t.saved.p,
        h.xs,
        h.ps,
        length-append (box_floats t.last) l,
        length-append (list_floats t.list) d,
        length-append (direction_floats t.direction) (flat box_floats t.kept),
        box-long t.last,
        list-long t.list,
        direction-long t.direction,
        boxes-long t.kept,
        h.kept,
      ),
      omega (arith, length-map t.kept tag_of, h.kept),
    )

-- ---- a state

all_take : {A : Type 0} (P : A → Type 0) (n : ℕ) (xs : List A) → All P xs → All P (take n xs)
all_take P zero xs a = tt
all_take P (suc n) [] a = tt
all_take P (suc n) (x ∷ xs) a = (a.0, all_take P n xs a.1)

-- the state with these live tracks
state-faithful : (s : Settings) (f i : ℕ) (es : List Tracked) → length es ≤ 64 → All Shaped es → Faithful (state_of s f i es)
unfolding state_of
state-faithful s f i es few h =
    let rest : List Tracked = replicate (64 - length es) blank in
    let all : All Shaped (es ++ rest) = all_append Shaped es rest h (all_replicate Shaped blank blank-shaped (64 - length es)) in
    faithful (state_of s f i es) (omega (arith, few, length-append es rest, length-replicate (64 - length es) blank)) (all_weaker Shaped Full full-of (es ++ rest) all) all

pub empty-faithful : (s : Settings) → Faithful (empty_tracker s)
unfolding empty_tracker
empty-faithful s = state-faithful s 0 0 [] (omega arith) tt

decoded-all : (cs : List Cell) → All Shaped (map thaw_track cs)
decoded-all [] = tt
decoded-all (c ∷ cs) = (decoded-shaped c, decoded-all cs)

-- lists stand for a state whose lists are as long as their types say
pub live-shaped : (i : TrackerImage) → All Shaped (live (thaw_tracker i))
unfolding thaw_tracker
live-shaped i = all_take Shaped (count_in i) (map thaw_track (cells i)) (decoded-all (cells i))

-- ---- a frame

given-all : (dt : ℕ) (es : List Tracked) (ss : List Slot) → All Shaped es → All Shaped (give_all dt es ss)
given-all dt [] ss h = tt
given-all dt (e ∷ es) [] h = tt
given-all dt (e ∷ es) (a ∷ ss) h = (given-shaped dt a.got e h.0, given-all dt es ss h.1)

born-all : (id : ℕ) (os : List Obj) → All Shaped (births id os)
born-all id [] = tt
born-all id (o ∷ os) = (born-shaped id o.det, born-all (suc id) os)

predicted-all : (es : List Tracked) → All Shaped es → All Shaped (predicted_tracks es)
unfolding predicted_tracks
predicted-all es h = keep_all Shaped unbroken (map predict_tracked es) (all_map Shaped Shaped predict_tracked predicted-shaped es h)

module _ (t : Tracker) (c : Call) (shaped : All Shaped (live t)) (rs : List Report) where
  settled-faithful : (w : Work) (full : Bool) → is_full (predicted_tracks (live t)) w ≡ full → (settled t (predicted_tracks (live t)) w full).reply ≡ reports rs → Faithful (settled t (predicted_tracks (live t)) w full).next
  settled-faithful w true h e = refused-reports FullTable rs e
  settled-faithful w false h e =
      let s : Settings = t.settings in
      let es : List Tracked = predicted_tracks (live t) in
      let all : All Shaped (with_born t w) = all_append Shaped (given t w) (births t.issued w.left) (given-all s.delta_t es w.slots (predicted-all (live t) shaped)) (born-all t.issued w.left) in
      state-faithful s (t.frames + 1) (t.issued + length w.left) (keep (is_young s) (with_born t w)) (left-few t w (ltb-false 64 (length es + length w.left) h)) (keep_all Shaped (is_young s) (with_born t w) all)

  -- the state that an accepted frame leaves
  pub next-faithful : (frame_of t c).reply ≡ reports rs → Faithful (frame_of t c).next
  unfolding frame_of
  next-faithful = go (pick (state_rules t) (early t.frames c) (Some UnsoundState))
    where
      go : (r : Option Refusal) → (frame_at t c r).reply ≡ reports rs → Faithful (frame_at t c r).next
      go (Some r) e = refused-reports r rs e
      go None e = let w : Work = rounds_over t.settings (predicted_tracks (live t)) c.input in settled-faithful w (is_full (predicted_tracks (live t)) w) refl e
