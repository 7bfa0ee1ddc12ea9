-- Tracks written one after another into an image's lists, the cells past them cleared, and what image that makes. Assumes nothing.
use mathlib.Core.Path.{◌≡◌, refl, sym, ap, ap₂, ◌∙◌}
use mathlib.Core.Bool.{true}
use mathlib.Core.List.{List, [], ◌∷◌, ◌++◌, map, append-nil}
use Prim.Native.Nat.{ℕ, zero, suc, ◌+◌, ◌-◌, ◌*◌, ◌≤◌, ◌<◌}
use native.Mathlib.Nat.{add_comm, mul-zero, mul-suc}
use native.Mathlib.Numerals.{add-one}
use native.Mathlib.Omega.{arith}
use borrow.Author.Tests.{leb-true}
use lib.Ieee.{Float, nan}
use lib.ListN.{length, take, drop, get_or, set, replicate, length-append, length-map, length-replicate, replicate-append-replicate, drop_of_length-le}
use lib.Seq.{sets, sets-eq, length-sets, take-append_seam, take-suc, take_all, length-take-le}
use Rattle.lists.specs.Lists.{flat, All}
use Rattle.lists.proofs.All.{map-append, flat_append, flat-long, all_append}
use Rattle.strack.specs.Track.{no_filter}
use Rattle.frame.specs.declared.Tracked.{Tracked}
use Rattle.frame.specs.declared.Tracker.{Tracker}
use Rattle.frame.specs.State.{blank, state_of}
use Rattle.image.specs.declared.TrackerImage.{TrackerImage}
use Rattle.to_image.proofs.Sets.{sets-next}
use Rattle.std.specs.Int.{from_bool}
use Rattle.image.specs.Image.{f0, is_set, tagged, freeze_track, id_of, floats_of, words_of, image_of, freeze_tracker, thaw_tracker, Put, Cleared}

-- ---- lists written part by part

-- a run of stores that ends where the list ends
sets-whole : {A : Type 0} (xs l : List A) (k : ℕ) → k + length xs ≡ length l → sets l k xs ≡ take k l ++ xs
sets-whole {A} xs l k e = sets-eq xs l k (omega (arith, e)) ∙ ap (λ (r : List A). take k l ++ xs ++ r) (drop_of_length-le l {i = k + length xs} (omega (arith, e))) ∙ append-nil (take k l ++ xs)

flat-replicate : {A B : Type 0} (f : A → List B) (a : A) (x : B) (w : ℕ) → f a ≡ replicate w x → (n : ℕ) → flat f (replicate n a) ≡ replicate (w * n) x
flat-replicate f a x w e zero = ap (λ (k : ℕ). replicate k x) (sym (mul-zero w))
flat-replicate {A} {B} f a x w e (suc n) =
    ap₂ (λ (p q : List B). p ++ q) e (flat-replicate f a x w e n)
    ∙ replicate-append-replicate w (w * n) x
    ∙ ap (λ (k : ℕ). replicate k x) (add_comm w (w * n) ∙ sym (mul-suc w n))

map-replicate : {A B : Type 0} (f : A → B) (a : A) (n : ℕ) → map f (replicate n a) ≡ replicate n (f a)
map-replicate f a zero = refl
map-replicate {A} {B} f a (suc n) = ap (λ (l : List B). f a ∷ l) (map-replicate f a n)

pub all_replicate : {A : Type 0} (P : A → Type 0) (a : A) → P a → (n : ℕ) → All P (replicate n a)
all_replicate P a h zero = tt
all_replicate P a h (suc n) = (h, all_replicate P a h n)

pub all_weaker : {A : Type 0} (P Q : A → Type 0) → ((x : A) → P x → Q x) → (xs : List A) → All P xs → All Q xs
all_weaker P Q h [] a = tt
all_weaker P Q h (x ∷ xs) a = (h x a.0, all_weaker P Q h xs a.1)

-- ---- an image with these tracks in its first cells

-- a track's numbers fill its cell
abbrev pub Full : Tracked → Type 0
Full e = (length (floats_of e) ≡ 163) × (length (words_of e) ≡ 15)

abbrev pub filled_to : TrackerImage → List Tracked → TrackerImage
filled_to i es = image_of (sets i.wide 2 (map id_of es)) (sets i.floats 3 (flat floats_of es)) (sets i.words 5 (flat words_of es))

pub floats-long : (es : List Tracked) → All Full es → length (flat floats_of es) ≡ 163 * length es
floats-long es a = flat-long floats_of 163 es (all_weaker Full (λ e. length (floats_of e) ≡ 163) (λ e h. h.0) es a)

pub words_long : (es : List Tracked) → All Full es → length (flat words_of es) ≡ 15 * length es
words_long es a = flat-long words_of 15 es (all_weaker Full (λ e. length (words_of e) ≡ 15) (λ e h. h.1) es a)

pub filled_none : (i : TrackerImage) → filled_to i [] ≡ i
filled_none i = refl

-- more tracks after these: their numbers written where those of these end
filled_on : (i i₁ i₂ : TrackerImage) (es more : List Tracked) (m : ℕ) → i₁ ≡ filled_to i es → m ≡ length es → All Full es
    → i₂.wide ≡ sets i₁.wide (2 + m) (map id_of more)
    → i₂.floats ≡ sets i₁.floats (3 + 163 * m) (flat floats_of more)
    → i₂.words ≡ sets i₁.words (5 + 15 * m) (flat words_of more)
    → i₂ ≡ filled_to i (es ++ more)
filled_on i i₁ i₂ es more m e n a w f s =
    let w' = sets-next i.wide i₁.wide i₂.wide 2 (2 + m) (map id_of es) (map id_of more) (ap (λ x. x.wide) e) (omega (arith, n, length-map es id_of)) w ∙ ap (sets i.wide 2) (sym (map-append id_of es more)) in
    let f' = sets-next i.floats i₁.floats i₂.floats 3 (3 + 163 * m) (flat floats_of es) (flat floats_of more) (ap (λ x. x.floats) e) (omega (arith, n, floats-long es a)) f ∙ ap (sets i.floats 3) (sym (flat_append floats_of es more)) in
    let s' = sets-next i.words i₁.words i₂.words 5 (5 + 15 * m) (flat words_of es) (flat words_of more) (ap (λ x. x.words) e) (omega (arith, n, words_long es a)) s ∙ ap (sets i.words 5) (sym (flat_append words_of es more)) in
    (λ j. image_of (w' j) (f' j) (s' j))

pub filled_more : (i i₁ i₂ : TrackerImage) (es : List Tracked) (e : Tracked) (m : ℕ) → i₁ ≡ filled_to i es → m ≡ length es → All Full es → Put m e i₁ i₂ → i₂ ≡ filled_to i (es ++ e ∷ [])
filled_more i i₁ i₂ es e m h n a p =
    filled_on i i₁ i₂ es (e ∷ []) m h n a
    p.wide
    (p.floats ∙ ap (sets i₁.floats (3 + 163 * m)) (sym (append-nil (floats_of e))))
    (p.words ∙ ap (sets i₁.words (5 + 15 * m)) (sym (append-nil (words_of e))))

-- ---- a blank track is zeros

blank-id : id_of blank ≡ 0
unfolding blank
blank-id = refl

blank-floats : floats_of blank ≡ replicate 163 f0
unfolding blank freeze_track no_filter
blank-floats = refl

blank-words : words_of blank ≡ replicate 15 0
unfolding blank freeze_track
blank-words = refl

pub blank-full : Full blank
blank-full = (ap length blank-floats, ap length blank-words)

pub filled-clear : (i i₁ i₂ : TrackerImage) (es : List Tracked) (m : ℕ) → i₁ ≡ filled_to i es → All Full es → length es ≡ m → m ≤ 64 → Cleared m i₁ i₂ → i₂ ≡ filled_to i (es ++ replicate (64 - m) blank)
filled-clear i i₁ i₂ es m h a n b p =
    filled_on i i₁ i₂ es (replicate (64 - m) blank) m h (sym n) a
    (p.wide ∙ ap (sets i₁.wide (2 + m)) (sym (map-replicate id_of blank (64 - m) ∙ ap (replicate (64 - m)) blank-id)))
    (p.floats ∙ ap (sets i₁.floats (3 + 163 * m)) (sym (flat-replicate floats_of blank f0 163 blank-floats (64 - m))))
    (p.words ∙ ap (sets i₁.words (5 + 15 * m)) (sym (flat-replicate words_of blank 0 15 blank-words (64 - m))))

-- ---- all 64 cells

pub filled-whole : (i : TrackerImage) (es : List Tracked) → length es ≡ 64 → All Full es → length i.wide ≡ 66 → length i.floats ≡ 10435 → length i.words ≡ 965
    → ((filled_to i es).wide ≡ take 2 i.wide ++ map id_of es) × ((filled_to i es).floats ≡ take 3 i.floats ++ flat floats_of es) × ((filled_to i es).words ≡ take 5 i.words ++ flat words_of es)
filled-whole i es n a w f s = (
  sets-whole (map id_of es) i.wide 2 (omega (arith, n, w, length-map es id_of)),
  sets-whole (flat floats_of es) i.floats 3 (omega (arith, n, f, floats-long es a)),
  sets-whole (flat words_of es) i.words 5 (omega (arith, n, s, words_long es a)),
)

-- a tag that means something is the flag that it stands for
pub flag-of : (n : ℕ) → tagged n ≡ true → n ≡ from_bool (is_set n)
flag-of zero h = refl
flag-of (suc zero) h = refl
flag-of (suc (suc n)) h = let z : suc (suc n) ≤ 1 = leb-true (suc (suc n)) 1 h in absurd (omega (arith, z))

-- the front of a list and what stands behind it, after stores in the front
front-wide : (l r : List ℕ) (issued count : ℕ) → 2 ≤ length l → set (set (take 2 l ++ r) 0 issued) 1 count ≡ issued ∷ count ∷ r
front-wide [] r issued count h = absurd (omega (arith, h))
front-wide (a ∷ []) r issued count h = absurd (omega (arith, h))
front-wide (a ∷ b ∷ l) r issued count h = refl

front-floats : (l r : List Float) → 3 ≤ length l → take 3 l ++ r ≡ get_or l 0 nan ∷ get_or l 1 nan ∷ get_or l 2 nan ∷ r
front-floats [] r h = absurd (omega (arith, h))
front-floats (a ∷ []) r h = absurd (omega (arith, h))
front-floats (a ∷ b ∷ []) r h = absurd (omega (arith, h))
front-floats (a ∷ b ∷ c ∷ l) r h = refl

front-words : (l r : List ℕ) (frames : ℕ) → 5 ≤ length l → tagged (get_or l 3 0) ≡ true
    → set (take 5 l ++ r) 4 frames ≡ get_or l 0 0 ∷ get_or l 1 0 ∷ get_or l 2 0 ∷ from_bool (is_set (get_or l 3 0)) ∷ frames ∷ r
front-words [] r frames h g = absurd (omega (arith, h))
front-words (a ∷ []) r frames h g = absurd (omega (arith, h))
front-words (a ∷ b ∷ []) r frames h g = absurd (omega (arith, h))
front-words (a ∷ b ∷ c ∷ []) r frames h g = absurd (omega (arith, h))
front-words (a ∷ b ∷ c ∷ d ∷ []) r frames h g = absurd (omega (arith, h))
front-words (a ∷ b ∷ c ∷ d ∷ e ∷ l) r frames h g = ap (λ (n : ℕ). a ∷ b ∷ c ∷ n ∷ frames ∷ r) (flag-of d g)

-- all tracks written, the cells past them cleared, and the new totals: the image of the state of these tracks
pub encoded : (i : TrackerImage) (es : List Tracked) (issued frames : ℕ) → length i.wide ≡ 66 → length i.floats ≡ 10435 → length i.words ≡ 965 → length es ≤ 64 → All Full es → tagged (get_or i.words 3 0) ≡ true
    → image_of (set (set (filled_to i (es ++ replicate (64 - length es) blank)).wide 0 issued) 1 (length es)) (filled_to i (es ++ replicate (64 - length es) blank)).floats (set (filled_to i (es ++ replicate (64 - length es) blank)).words 4 frames)
    ≡ freeze_tracker (state_of (thaw_tracker i).settings frames issued es)
unfolding state_of freeze_tracker thaw_tracker
encoded i es issued frames w f s b a g =
    let none : List Tracked = replicate (64 - length es) blank in
    let all : List Tracked = es ++ none in
    let whole = filled-whole i all (omega (arith, b, length-append es none, length-replicate (64 - length es) blank)) (all_append Full es none a (all_replicate Full blank blank-full (64 - length es))) w f s in
    let w' = ap (λ (l : List ℕ). set (set l 0 issued) 1 (length es)) whole.0 ∙ front-wide i.wide (map id_of all) issued (length es) (omega (arith, w)) in
    let f' = whole.1 ∙ front-floats i.floats (flat floats_of all) (omega (arith, f)) in
    let s' = ap (λ (l : List ℕ). set l 4 frames) whole.2 ∙ front-words i.words (flat words_of all) frames (omega (arith, s)) g in
    (λ j. image_of (w' j) (f' j) (s' j))

-- ---- a state written over whatever the lists held

-- one more turn of a loop that writes a table
pub filled-turn : (i i₁ i₂ : TrackerImage) (es : List Tracked) (d : Tracked) (k : ℕ) → k < length es → All Full (take k es) → i₁ ≡ filled_to i (take k es) → Put k (get_or es k d) i₁ i₂
    → All Full (take (k + 1) es) × (i₂ ≡ filled_to i (take (k + 1) es))
filled-turn i i₁ i₂ es d k b a h p =
    rw (add-one k, take-suc es k d b)
    (all_append Full (take k es) (get_or es k d ∷ []) a (p.full, tt), filled_more i i₁ i₂ (take k es) (get_or es k d) k h (sym (length-take-le k es (omega (arith, b)))) a p)

take-sets : {A : Type 0} (xs l : List A) → length xs ≤ length l → take (length xs) (sets l 0 xs) ≡ xs
take-sets {A} xs l h = ap (take (length xs)) (sets-eq xs l 0 (omega (arith, h))) ∙ take-append_seam xs (drop (0 + length xs) l)

-- all of it, with the settings and the totals in front
pub written : (i : TrackerImage) (wide words : List ℕ) (floats : List Float) (t : Tracker) (k tag : ℕ) → length wide ≡ 66 → length floats ≡ 10435 → length words ≡ 965 → length t.table ≡ 64 → k ≡ 64 → tag ≡ from_bool t.settings.use_byte → All Full (take k t.table)
    → i ≡ filled_to (image_of (sets wide 0 (t.issued ∷ t.count ∷ [])) (sets floats 0 (t.settings.det_thresh ∷ t.settings.iou_threshold ∷ t.settings.inertia ∷ [])) (sets words 0 (t.settings.max_age ∷ t.settings.min_hits ∷ t.settings.delta_t ∷ tag ∷ t.frames ∷ []))) (take k t.table)
    → i ≡ freeze_tracker t
unfolding freeze_tracker
written i wide words floats t k tag w f s n e g a h =
    let ws = t.issued ∷ t.count ∷ [] in
    let fs = t.settings.det_thresh ∷ t.settings.iou_threshold ∷ t.settings.inertia ∷ [] in
    let ss = t.settings.max_age ∷ t.settings.min_hits ∷ t.settings.delta_t ∷ tag ∷ t.frames ∷ [] in
    let i₀ : TrackerImage = image_of (sets wide 0 ws) (sets floats 0 fs) (sets words 0 ss) in
    let all : take k t.table ≡ t.table = take_all k t.table (omega (arith, n, e)) in
    let whole = filled-whole i₀ t.table n (rw all at a) (length-sets wide 0 ws ∙ w) (length-sets floats 0 fs ∙ f) (length-sets words 0 ss ∙ s) in
    let w' = whole.0 ∙ ap (λ (l : List ℕ). l ++ map id_of t.table) (take-sets ws wide (omega (arith, w))) in
    let f' = whole.1 ∙ ap (λ (l : List Float). l ++ flat floats_of t.table) (take-sets fs floats (omega (arith, f))) in
    let s' = whole.2 ∙ ap (λ (l : List ℕ). l ++ flat words_of t.table) (take-sets ss words (omega (arith, s)))
    ∙ ap (λ (b : ℕ). t.settings.max_age ∷ t.settings.min_hits ∷ t.settings.delta_t ∷ b ∷ t.frames ∷ flat words_of t.table) g in
    h ∙ ap (filled_to i₀) all ∙ (λ j. image_of (w' j) (f' j) (s' j))
