-- The state as C and Rust pass it: three lists of numbers, one for each type. What stands in the lists of a state, what state lists stand for, and which mean something. Definitions only.
--
-- wide, 66: ids issued, tracks, and each track's id
-- floats, 10,435: det_thresh, iou_threshold, inertia, and 163 of each track: its filter (7 and 49), the saved one, its last box (5), the list's box (4), its direction (2), its kept boxes (5 each)
-- words, 965: max_age, min_hits, delta_t, use_byte, frames, and 15 of each track: frozen, age, streak, since, and the tags of its last box, the list's box, its direction and its kept boxes
use Rattle.std.specs.Prelude.{◌≡◌, Bool, true, not, ◌&&◌, List, [], ◌∷◌, ◌++◌, map, ℕ, ◌+◌, ◌-◌, ◌*◌, eqb, leb, Float, length, take, drop, get_or, set, replicate, Option, Some, None}
use Rattle.std.specs.Float.{nan}
use Rattle.std.specs.Int.{from_bool}
use Rattle.std.specs.Option.{is_some}
use Rattle.std.proofs.lemmas.List.Edits.{sets}
use Rattle.ieee.specs.Ops.{f32}
use Rattle.lists.specs.Lists.{pick, every, flat, tab}
use Rattle.kalman_filter.specs.declared.DetectBox.{DetectBox}
use Rattle.kalman_filter.specs.declared.Filter.{Filter}
use Rattle.strack.specs.declared.Direction.{Direction}
use Rattle.frame.specs.declared.Tracked.{Tracked}
use Rattle.frame.specs.declared.Tracker.{Tracker}
use Rattle.object.specs.declared.Detection.{Detection}
use Rattle.image.specs.declared.TrackerImage.{TrackerImage}

abbrev pub f0 : Float
f0 = f32 0

-- ---- flags and tags

abbrev pub is_set : ℕ → Bool
is_set n = not (eqb n 0)

-- a tag means something: 0 or 1
abbrev pub tagged : ℕ → Bool
tagged n = leb n 1

-- ---- the numbers of a filter, and the filter whose numbers start at k

abbrev pub filter_floats : Filter → List Float
filter_floats f = f.x ++ f.p

abbrev pub filter_at : List Float → ℕ → Filter
filter_at fs k = record { x = tab (λ j. get_or fs (k + j) nan) 7; p = tab (λ j. get_or fs (k + 7 + j) nan) 49 }

-- ---- boxes and directions: one that is absent is tag 0 and zeros; tag 0 is absent, any other is present

abbrev pub tag_of : {A : Type 0} → Option A → ℕ
tag_of o = from_bool (is_some o)

abbrev pub tagged_as : {A : Type 0} → ℕ → A → Option A
tagged_as tag a = pick (is_set tag) (Some a) None

abbrev pub box_floats : Option Detection → List Float
box_floats None = replicate 5 f0
box_floats (Some d) = d.x1 ∷ d.y1 ∷ d.x2 ∷ d.y2 ∷ d.score ∷ []

abbrev pub box_at : ℕ → List Float → ℕ → Option Detection
box_at tag fs k = tagged_as tag (record { x1 = get_or fs k nan; y1 = get_or fs (k + 1) nan; x2 = get_or fs (k + 2) nan; y2 = get_or fs (k + 3) nan; score = get_or fs (k + 4) nan })

abbrev pub list_floats : Option DetectBox → List Float
list_floats None = replicate 4 f0
list_floats (Some z) = z.x ∷ z.y ∷ z.s ∷ z.r ∷ []

abbrev pub list_at : ℕ → List Float → ℕ → Option DetectBox
list_at tag fs k = tagged_as tag (record { x = get_or fs k nan; y = get_or fs (k + 1) nan; s = get_or fs (k + 2) nan; r = get_or fs (k + 3) nan })

abbrev pub direction_floats : Option Direction → List Float
direction_floats None = replicate 2 f0
direction_floats (Some d) = d.dy ∷ d.dx ∷ []

abbrev pub direction_at : ℕ → List Float → ℕ → Option Direction
direction_at tag fs k = tagged_as tag (record { dy = get_or fs k nan; dx = get_or fs (k + 1) nan })

-- eight kept boxes, whose tags start at w and whose numbers start at k
abbrev pub kept_at : List ℕ → ℕ → List Float → ℕ → List (Option Detection)
kept_at ws w fs k = tab (λ j. box_at (get_or ws (w + j) 0) fs (k + 5 * j)) 8

-- ---- a track: its id, its 163 floats and its 15 words

pub record Cell : Type 0 where
  pub id : ℕ
  pub floats : List Float
  pub words : List ℕ

unfoldable pub freeze_track : Tracked → Cell
freeze_track e =
    let t = e.track in
    record {
      id = e.id;
      floats = filter_floats t.filter ++ (filter_floats t.saved ++ (box_floats t.last ++ (list_floats t.list ++ (direction_floats t.direction ++ flat box_floats t.kept))));
      words = from_bool t.frozen ∷ t.age ∷ t.streak ∷ t.since ∷ tag_of t.last ∷ tag_of t.list ∷ tag_of t.direction ∷ map tag_of t.kept;
    }

abbrev pub id_of : Tracked → ℕ
id_of e = e.id

abbrev pub floats_of : Tracked → List Float
floats_of e = (freeze_track e).floats

abbrev pub words_of : Tracked → List ℕ
words_of e = (freeze_track e).words

unfoldable pub thaw_track : Cell → Tracked
thaw_track c =
    let fs = c.floats in
    let ws = c.words in
    record {
      id = c.id;
      track = record {
        filter = filter_at fs 0;
        saved = filter_at fs 56;
        frozen = is_set (get_or ws 0 0);
        age = get_or ws 1 0;
        streak = get_or ws 2 0;
        since = get_or ws 3 0;
        last = box_at (get_or ws 4 0) fs 112;
        list = list_at (get_or ws 5 0) fs 117;
        direction = direction_at (get_or ws 6 0) fs 121;
        kept = kept_at ws 7 fs 123;
      };
    }

-- all its tags mean something
unfoldable pub meant_track : Cell → Bool
meant_track c = tagged (get_or c.words 0 0) && every tagged (drop 4 c.words)

-- ---- the tracker; the cells past the count are converted too

-- the image in these lists
abbrev pub image_of : List ℕ → List Float → List ℕ → TrackerImage
image_of wide floats words = record { wide = wide; floats = floats; words = words }

abbrev pub part : {A : Type 0} → ℕ → ℕ → List A → List A
part from n l = take n (drop from l)

-- what it holds of track k
unfoldable pub cell_at : TrackerImage → ℕ → Cell
cell_at i k = record { id = get_or i.wide (2 + k) 0; floats = part (3 + 163 * k) 163 i.floats; words = part (5 + 15 * k) 15 i.words }

abbrev pub cells : TrackerImage → List Cell
cells i = tab (cell_at i) 64

abbrev pub issued_in : TrackerImage → ℕ
issued_in i = get_or i.wide 0 0

abbrev pub count_in : TrackerImage → ℕ
count_in i = get_or i.wide 1 0

abbrev pub byte_in : TrackerImage → ℕ
byte_in i = get_or i.words 3 0

abbrev pub frames_in : TrackerImage → ℕ
frames_in i = get_or i.words 4 0

unfoldable pub thaw_tracker : TrackerImage → Tracker
thaw_tracker i =
    let fs = i.floats in
    let ws = i.words in
    record {
      settings = record {
        det_thresh = get_or fs 0 nan;
        iou_threshold = get_or fs 1 nan;
        inertia = get_or fs 2 nan;
        max_age = get_or ws 0 0;
        min_hits = get_or ws 1 0;
        delta_t = get_or ws 2 0;
        use_byte = is_set (byte_in i);
      };
      frames = frames_in i;
      issued = issued_in i;
      count = count_in i;
      table = map thaw_track (cells i);
    }

unfoldable pub freeze_tracker : Tracker → TrackerImage
freeze_tracker t =
    let s = t.settings in
    record {
      wide = t.issued ∷ t.count ∷ map id_of t.table;
      floats = s.det_thresh ∷ s.iou_threshold ∷ s.inertia ∷ flat floats_of t.table;
      words = s.max_age ∷ s.min_hits ∷ s.delta_t ∷ from_bool s.use_byte ∷ t.frames ∷ flat words_of t.table;
    }

-- use_byte means something, and so does each of the first `count` tracks
unfoldable pub meant : TrackerImage → Bool
meant i = tagged (byte_in i) && every meant_track (take (count_in i) (cells i))

-- the lists have the lengths of their types
pub record Whole (i : TrackerImage) : Type 0 where
  pub wide : length i.wide ≡ 66
  pub floats : length i.floats ≡ 10435
  pub words : length i.words ≡ 965

-- ---- writing

-- i' is i with this track in cell k, whose numbers fill it
pub record Put (k : ℕ) (e : Tracked) (i i' : TrackerImage) : Type 0 where
  pub wide : i'.wide ≡ set i.wide (2 + k) (id_of e)
  pub floats : i'.floats ≡ sets i.floats (3 + 163 * k) (floats_of e)
  pub words : i'.words ≡ sets i.words (5 + 15 * k) (words_of e)
  pub full : (length (floats_of e) ≡ 163) × (length (words_of e) ≡ 15)

-- i' is i with zeros in the cells from k on
pub record Cleared (k : ℕ) (i i' : TrackerImage) : Type 0 where
  pub wide : i'.wide ≡ sets i.wide (2 + k) (replicate (64 - k) 0)
  pub floats : i'.floats ≡ sets i.floats (3 + 163 * k) (replicate (163 * (64 - k)) f0)
  pub words : i'.words ≡ sets i.words (5 + 15 * k) (replicate (15 * (64 - k)) 0)

-- ---- an image is faithful

-- converted there and back a state is itself, and its image means something
pub record Faithful (t : Tracker) : Type 0 where
  pub back : thaw_tracker (freeze_tracker t) ≡ t
  pub means : meant (freeze_tracker t) ≡ true
