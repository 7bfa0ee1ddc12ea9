-- Converted there and back a state is itself, and its image means something: kind by kind, then cell by cell. Assumes nothing.
use Rattle.std.specs.Prelude.{Option, Some, None}
use Rattle.std.specs.Option.{is_some}
use mathlib.Core.Path.{◌≡◌, refl, sym, ap, ap₂, ◌∙◌}
use mathlib.Core.Bool.{Bool, true, false, ◌&&◌}
use mathlib.Core.List.{List, [], ◌∷◌, ◌++◌, map, append_assoc}
use Prim.Native.Nat.{ℕ, zero, suc, ◌+◌, ◌*◌, ◌≤◌, ◌<◌}
use native.Mathlib.Nat.{add-zero, add_comm, mul-zero, mul-suc, not-suc-le-zero, le_of_suc-le-suc}
use native.Mathlib.Omega.{arith}
use lib.Ieee.{Float, nan}
use lib.ListN.{length, take, drop, get_or, length-append, length-drop, length-map, get_or-map}
use lib.Seq.{take-length, take_at, drop_at, drop-drop, get_or-drop, ext_get_or}
use Rattle.lists.specs.Lists.{every, flat, All}
use Rattle.lists.proofs.Tab.{length-tab, get_or-tab}
use Rattle.lists.proofs.All.{all_any}
use Rattle.kalman_filter.specs.declared.Filter.{Filter}
use Rattle.strack.specs.declared.Direction.{Direction}
use Rattle.frame.specs.declared.Tracked.{Tracked}
use Rattle.frame.specs.declared.Tracker.{Tracker}
use Rattle.frame.specs.State.{blank}
use Rattle.std.specs.Int.{from_bool}
use Rattle.image.specs.Image.{is_set, tagged, filter_floats, filter_at, tag_of, box_floats, box_at, list_floats, list_at, direction_floats, direction_at, kept_at, Cell, freeze_track, thaw_track, meant_track, id_of, floats_of, words_of, cell_at, cells, freeze_tracker, thaw_tracker, meant, Faithful}
use Rattle.to_image.proofs.Putting.{box-long, list-long, direction-long}
use Rattle.image.proofs.Parts.{tab-part}
use Rattle.kalman_filter.specs.declared.DetectBox.{DetectBox}
use Rattle.object.specs.declared.Detection.{Detection}
use Rattle.to_image.proofs.Filling.{Full, all_weaker}

-- ---- one part of several of one length

all-at : {A : Type 0} (P : A → Type 0) (xs : List A) (k : ℕ) (d : A) → All P xs → k < length xs → P (get_or xs k d)
all-at P [] k d a h = absurd (not-suc-le-zero h)
all-at P (x ∷ xs) zero d a h = a.0
all-at P (x ∷ xs) (suc k) d a h = all-at P xs k d a.1 (le_of_suc-le-suc h)

module _ {A B : Type 0} (f : A → List B) (w : ℕ) where
  flat-from : (xs : List A) (k : ℕ) (d : A) → All (λ (x : A). length (f x) ≡ w) xs → k < length xs → drop (w * k) (flat f xs) ≡ f (get_or xs k d) ++ flat f (drop (suc k) xs)
  flat-from [] k d a h = absurd (not-suc-le-zero h)
  flat-from (x ∷ xs) zero d a h = ap (λ (n : ℕ). drop n (f x ++ flat f xs)) (mul-zero w)
  flat-from (x ∷ xs) (suc k) d a h =
      ap (λ (n : ℕ). drop n (f x ++ flat f xs)) (mul-suc w k ∙ add_comm (w * k) w)
      ∙ sym (drop-drop (w * k) w (f x ++ flat f xs))
      ∙ ap (drop (w * k)) (drop_at (f x) (flat f xs) w a.0)
      ∙ flat-from xs k d a.1 (le_of_suc-le-suc h)

  flat-part : (xs : List A) (k : ℕ) (d : A) → All (λ (x : A). length (f x) ≡ w) xs → k < length xs → f (get_or xs k d) ≡ take w (drop (w * k) (flat f xs))
  flat-part xs k d a h = sym (ap (take w) (flat-from xs k d a h) ∙ take_at (f (get_or xs k d)) (flat f (drop (suc k) xs)) w (all-at (λ (x : A). length (f x) ≡ w) xs k d a h))

-- ---- kind by kind

pub flag-back : (b : Bool) → is_set (from_bool b) ≡ b
flag-back true = refl
flag-back false = refl

filter-back : (fs r : List Float) (f : Filter) (k : ℕ) → length f.x ≡ 7 → length f.p ≡ 49 → drop k fs ≡ filter_floats f ++ r → filter_at fs k ≡ f
filter-back fs r f k x p e =
    let e' : drop k fs ≡ f.x ++ (f.p ++ r) = e ∙ append_assoc f.x f.p r in
    let long : k + 56 ≤ length fs = omega (arith, x, p, length-drop k fs, ap length e', length-append f.x (f.p ++ r), length-append f.p r) in
    let x' = tab-part fs k nan 7 (omega arith) ∙ ap (take 7) e' ∙ take_at f.x (f.p ++ r) 7 x in
    let p' = tab-part fs (k + 7) nan 49 (omega arith) ∙ ap (take 49) (sym (drop-drop 7 k fs) ∙ ap (drop 7) e' ∙ drop_at f.x (f.p ++ r) 7 x) ∙ take_at f.p r 49 p in
    (λ i. record { x = x' i; p = p' i })

module _ (fs : List Float) (k : ℕ) where
  first : get_or fs k nan ≡ get_or (drop k fs) 0 nan
  first = ap (λ (n : ℕ). get_or fs n nan) (sym (add-zero k)) ∙ sym (get_or-drop k fs 0 nan)

  next : (j : ℕ) → get_or fs (k + j) nan ≡ get_or (drop k fs) j nan
  next j = sym (get_or-drop k fs j nan)

  box-from : (tag : ℕ) → box_at tag fs k ≡ box_at tag (drop k fs) 0
  box-from tag = rw (first, next 1, next 2, next 3, next 4)

  list-from : (tag : ℕ) → list_at tag fs k ≡ list_at tag (drop k fs) 0
  list-from tag = rw (first, next 1, next 2, next 3)

  direction-from : (tag : ℕ) → direction_at tag fs k ≡ direction_at tag (drop k fs) 0
  direction-from tag = rw (first, next 1)

  box-back : (r : List Float) (b : Option Detection) → drop k fs ≡ box_floats b ++ r → box_at (tag_of b) fs k ≡ b
  box-back r b e = box-from (tag_of b) ∙ ap (λ (l : List Float). box_at (tag_of b) l 0) e ∙ go b
    where
      go : (b : Option Detection) → box_at (tag_of b) (box_floats b ++ r) 0 ≡ b
      go None = refl
      go (Some d) = refl

  list_back : (r : List Float) (b : Option DetectBox) → drop k fs ≡ list_floats b ++ r → list_at (tag_of b) fs k ≡ b
  list_back r b e = list-from (tag_of b) ∙ ap (λ (l : List Float). list_at (tag_of b) l 0) e ∙ go b
    where
      go : (b : Option DetectBox) → list_at (tag_of b) (list_floats b ++ r) 0 ≡ b
      go None = refl
      go (Some z) = refl

  direction-back : (r : List Float) (d : Option Direction) → drop k fs ≡ direction_floats d ++ r → direction_at (tag_of d) fs k ≡ d
  direction-back r d e = direction-from (tag_of d) ∙ ap (λ (l : List Float). direction_at (tag_of d) l 0) e ∙ go d
    where
      go : (d : Option Direction) → direction_at (tag_of d) (direction_floats d ++ r) 0 ≡ d
      go None = refl
      go (Some d) = refl

kept_back : (ws : List ℕ) (w : ℕ) (fs : List Float) (k : ℕ) (ks : List (Option Detection)) → length ks ≡ 8 → drop w ws ≡ map tag_of ks → drop k fs ≡ flat box_floats ks → kept_at ws w fs k ≡ ks
kept_back ws w fs k ks n g e =
    ext_get_or None (kept_at ws w fs k) ks (length-tab cell 8 ∙ sym n)
    (λ j h. let b : j < 8 = rw (length-tab cell 8) at h in get_or-tab cell 8 None j b ∙ one j b)
  where
    cell : ℕ → Option Detection
    cell j = box_at (get_or ws (w + j) 0) fs (k + 5 * j)

    one : (j : ℕ) → j < 8 → box_at (get_or ws (w + j) 0) fs (k + 5 * j) ≡ (get_or ks j None)
    one j b =
        let b' : j < length ks = omega (arith, b, n) in
        let tag : get_or ws (w + j) 0 ≡ tag_of (get_or ks j None) = sym (get_or-drop w ws j 0) ∙ ap (λ (l : List ℕ). get_or l j 0) g ∙ get_or-map tag_of ks j None in
        let from : drop (k + 5 * j) fs ≡ box_floats (get_or ks j None) ++ flat box_floats (drop (suc j) ks) = sym (drop-drop (5 * j) k fs) ∙ ap (drop (5 * j)) e ∙ flat-from box_floats 5 ks j None (all_any box-long ks) b' in
        ap (λ (t : ℕ). box_at t fs (k + 5 * j)) tag ∙ box-back fs (k + 5 * j) (flat box_floats (drop (suc j) ks)) (get_or ks j None) from

-- ---- a track

-- its lists are as long as their types say
pub record Shaped (e : Tracked) : Type 0 where
  pub x : length e.track.filter.x ≡ 7
  pub p : length e.track.filter.p ≡ 49
  pub xs : length e.track.saved.x ≡ 7
  pub ps : length e.track.saved.p ≡ 49
  pub kept : length e.track.kept ≡ 8

-- what is left of a list that starts with a
skip : {A : Type 0} (l a b : List A) (k n m : ℕ) → drop k l ≡ a ++ b → length a ≡ n → k + n ≡ m → drop m l ≡ b
skip {A} l a b k n m e h s = ap (λ (j : ℕ). drop j l) (sym s) ∙ sym (drop-drop n k l) ∙ ap (drop n) e ∙ drop_at a b n h

pub track-back : (e : Tracked) → Shaped e → thaw_track (freeze_track e) ≡ e
unfolding thaw_track freeze_track
track-back e h =
    let t = e.track in
    let fs = floats_of e in
    let saved : drop 56 fs ≡ filter_floats t.saved ++ _ = skip fs (filter_floats t.filter) _ 0 56 56 refl (omega (arith, length-append t.filter.x t.filter.p, h.x, h.p)) refl in
    let last : drop 112 fs ≡ box_floats t.last ++ _ = skip fs (filter_floats t.saved) _ 56 56 112 saved (omega (arith, length-append t.saved.x t.saved.p, h.xs, h.ps)) refl in
    let list : drop 117 fs ≡ list_floats t.list ++ _ = skip fs (box_floats t.last) _ 112 5 117 last (box-long t.last) refl in
    let direction : drop 121 fs ≡ direction_floats t.direction ++ _ = skip fs (list_floats t.list) _ 117 4 121 list (list-long t.list) refl in
    let kept : drop 123 fs ≡ flat box_floats t.kept = skip fs (direction_floats t.direction) _ 121 2 123 direction (direction-long t.direction) refl in
    λ i. record {
      id = e.id;
      track = record {
        filter = filter-back fs _ t.filter 0 h.x h.p refl i;
        saved = filter-back fs _ t.saved 56 h.xs h.ps saved i;
        frozen = flag-back t.frozen i;
        age = t.age;
        streak = t.streak;
        since = t.since;
        last = box-back fs 112 _ t.last last i;
        list = list_back fs 117 _ t.list list i;
        direction = direction-back fs 121 _ t.direction direction i;
        kept = kept_back (words_of e) 7 fs 123 t.kept h.kept refl kept i;
      };
    }

-- ---- every tag of an image means something

pub flag-tagged : (b : Bool) → tagged (from_bool b) ≡ true
flag-tagged true = refl
flag-tagged false = refl

map-every : {A B : Type 0} (f : A → B) (p : B → Bool) → ((a : A) → p (f a) ≡ true) → (n : ℕ) (l : List A) → every p (take n (map f l)) ≡ true
map-every f p h zero l = refl
map-every f p h (suc n) [] = refl
map-every f p h (suc n) (a ∷ l) = rw (h a) (map-every f p h n l)

map-all : {A B : Type 0} (f : A → B) (p : B → Bool) → ((a : A) → p (f a) ≡ true) → (l : List A) → every p (map f l) ≡ true
map-all f p h l = ap (every p) (sym (take-length (map f l))) ∙ map-every f p h (length (map f l)) l

track-meant : (e : Tracked) → meant_track (freeze_track e) ≡ true
unfolding meant_track freeze_track
track-meant e =
    let t = e.track in
    rw (flag-tagged t.frozen, flag-tagged (is_some t.last), flag-tagged (is_some t.list), flag-tagged (is_some t.direction)) (map-all tag_of tagged (λ k. flag-tagged (is_some k)) t.kept)

-- ---- the whole state

map_back : {A B : Type 0} (f : A → B) (g : B → A) (l : List A) → All (λ (a : A). g (f a) ≡ a) l → map g (map f l) ≡ l
map_back f g [] h = refl
map_back f g (a ∷ l) h = ap₂ (λ x xs. x ∷ xs) h.0 (map_back f g l h.1)

-- what a state's image holds of track k is that track
cell-back : (t : Tracker) (k : ℕ) → All Full t.table → k < length t.table → cell_at (freeze_tracker t) k ≡ freeze_track (get_or t.table k blank)
unfolding cell_at freeze_tracker blank freeze_track
cell-back t k a h =
    let i = freeze_tracker t in
    let w = sym (get_or-drop 2 i.wide k 0) ∙ get_or-map id_of t.table k blank in
    let f = ap (take 163) (sym (drop-drop (163 * k) 3 i.floats)) ∙ sym (flat-part floats_of 163 t.table k blank (all_weaker Full (λ e. length (floats_of e) ≡ 163) (λ e h. h.0) t.table a) h) in
    let s = ap (take 15) (sym (drop-drop (15 * k) 5 i.words)) ∙ sym (flat-part words_of 15 t.table k blank (all_weaker Full (λ e. length (words_of e) ≡ 15) (λ e h. h.1) t.table a) h) in
    (λ j. record { id = w j; floats = f j; words = s j })

module _ (t : Tracker) (long : length t.table ≡ 64) (full : All Full t.table) (shaped : All Shaped t.table) where
  cells-back : cells (freeze_tracker t) ≡ map freeze_track t.table
  cells-back =
      ext_get_or (freeze_track blank) (cells (freeze_tracker t)) (map freeze_track t.table) (length-tab (cell_at (freeze_tracker t)) 64 ∙ sym (length-map t.table freeze_track ∙ long))
      (λ k h.
      let b : k < 64 = rw (length-tab (cell_at (freeze_tracker t)) 64) at h in
      get_or-tab (cell_at (freeze_tracker t)) 64 (freeze_track blank) k b ∙ cell-back t k full (omega (arith, b, long)) ∙ sym (get_or-map freeze_track t.table k blank))

  tracker-back : thaw_tracker (freeze_tracker t) ≡ t
  unfolding thaw_tracker freeze_tracker
  tracker-back =
      let s = t.settings in
      let l = ap (map thaw_track) cells-back ∙ map_back freeze_track thaw_track t.table (all_weaker Shaped (λ e. thaw_track (freeze_track e) ≡ e) track-back t.table shaped) in
      λ i. record {
        settings = record {
          det_thresh = s.det_thresh;
          iou_threshold = s.iou_threshold;
          inertia = s.inertia;
          max_age = s.max_age;
          min_hits = s.min_hits;
          delta_t = s.delta_t;
          use_byte = flag-back s.use_byte i;
        };
        frames = t.frames;
        issued = t.issued;
        count = t.count;
        table = l i;
      }

  tracker-meant : meant (freeze_tracker t) ≡ true
  unfolding meant freeze_tracker
  tracker-meant =
      ap₂ (λ (a : Bool) (l : List Cell). a && every meant_track (take t.count l)) (flag-tagged t.settings.use_byte) cells-back
      ∙ map-every freeze_track meant_track track-meant t.count t.table

  pub faithful : Faithful t
  faithful = record { back = tracker-back; means = tracker-meant }
