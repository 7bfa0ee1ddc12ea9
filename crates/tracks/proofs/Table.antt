-- The table of tracks: one track more, and one more turn of each loop that fills it. Assumes nothing.
use Rattle.std.specs.Prelude.{Option}
use mathlib.Core.Path.{◌≡◌, refl, sym, ap, ◌∙◌}
use mathlib.Core.Bool.{Bool, true, false}
use mathlib.Core.List.{List, [], ◌∷◌, ◌++◌, map, append_assoc, append-nil}
use Prim.Native.Nat.{ℕ, zero, suc, ◌+◌, ◌-◌, ◌≤◌, ◌<◌}
use native.Mathlib.Nat.{not-suc-le-zero, le_of_suc-le-suc, add-zero, add-suc, suc-add}
use native.Mathlib.Numerals.{add-one}
use native.Mathlib.Omega.{arith}
use lib.ListN.{length, take, get_or, set, replicate, length-append, length-take, length-map}
use lib.Seq.{take-suc, set-append_seam, take-append_seam}
use Rattle.lists.specs.Lists.{put, keep, tab}
use Rattle.lists.proofs.Tab.{length-tab}
use Rattle.lists.proofs.Keep.{keep_append, keep-short}
use Rattle.lists.proofs.All.{map-append}
use Rattle.object.specs.declared.Detection.{Detection}
use Rattle.frame.specs.declared.Tracked.{Tracked}
use Rattle.frame.specs.State.{blank}
use Rattle.tracks.specs.declared.Tracks.{Tracks}
use Rattle.one_track.specs.OneTrack.{given_one, newborn}
use Rattle.tracks.specs.Tracks.{tracks_of, tracks_in, given_all, born_of}

-- ---- the table

pub tracks-count : (es : List Tracked) → (tracks_of es).count ≡ length es
unfolding tracks_of
tracks-count es = refl

pub tracks-in : (es : List Tracked) → tracks_in (tracks_of es) ≡ es
unfolding tracks_of
tracks-in es = take-append_seam es (replicate (64 - length es) blank)

-- one track more, in the first free cell
abbrev pub pushed : Tracks → Tracked → Tracks
pushed t e = record { count = t.count + 1; table = set t.table t.count e }

pub pushed_of : (es : List Tracked) (e : Tracked) → length es < 64 → pushed (tracks_of es) e ≡ tracks_of (es ++ e ∷ [])
unfolding tracks_of
pushed_of es e h = λ i. record { count = sym (length-append es (e ∷ [])) i; table = cells i }
  where
    room : 64 - length es ≡ suc (64 - (length es + 1))
    room = omega arith

    cells : set (es ++ replicate (64 - length es) blank) (length es) e ≡ (es ++ e ∷ []) ++ replicate (64 - length (es ++ e ∷ [])) blank
    cells = rw (room, set-append_seam es blank (replicate (64 - (length es + 1)) blank) e, length-append es (e ∷ []), append_assoc)

-- there is room while the table holds fewer than 64
pub has_room : (es : List Tracked) (w : Tracks) → w ≡ tracks_of es → length es < 64 → w.count < 64
has_room es w e h = rw e (omega (arith, tracks-count es))

-- ---- a loop that keeps what passes

module _ (p : Tracked → Bool) (f : Tracked → Tracked) (l : List Tracked) where
  abbrev pub passed : ℕ → List Tracked
  passed i = keep p (map f (take i l))

  pub few-passed : (i : ℕ) → length (passed i) ≤ i
  few-passed i = omega (arith, keep-short p (map f (take i l)), length-map (take i l) f, length-take i l)

  pub one_more : (i : ℕ) (d : Tracked) → i < length l → passed (i + 1) ≡ passed i ++ put (p (f (get_or l i d))) (f (get_or l i d)) []
  one_more i d h = rw (add-one i, take-suc l i d h, map-append f (take i l) (get_or l i d ∷ []), keep_append p (map f (take i l)) (f (get_or l i d) ∷ []))

  pub passed-room : (i : ℕ) (w : Tracks) → w ≡ tracks_of (passed i) → i < 64 → w.count < 64
  passed-room i w e h = has_room (passed i) w e (omega (arith, few-passed i))

  -- one more turn: the element at i passes
  pub turn-taken : (i : ℕ) (d : Tracked) (w r : Tracks) (x : Tracked) → w ≡ tracks_of (passed i) → i < length l → i < 64 → x ≡ f (get_or l i d) → p x ≡ true → r ≡ pushed w x → r ≡ tracks_of (passed (i + 1))
  turn-taken i d w r x e h k q t u =
      let y : p (f (get_or l i d)) ≡ true = sym (ap p q) ∙ t in
      u ∙ rw (e, q, one_more i d h, y) (pushed_of (passed i) (f (get_or l i d)) (omega (arith, few-passed i)))

  -- or doesn't
  pub turn-left : (i : ℕ) (d : Tracked) (w r : Tracks) (x : Tracked) → w ≡ tracks_of (passed i) → i < length l → x ≡ f (get_or l i d) → p x ≡ false → r ≡ w → r ≡ tracks_of (passed (i + 1))
  turn-left i d w r x e h q t u =
      let y : p (f (get_or l i d)) ≡ false = sym (ap p q) ∙ t in
      u ∙ e ∙ rw (one_more i d h, y) (ap tracks_of (sym (append-nil (passed i))))

-- ---- the loop that gives

pub given-more : (dt : ℕ) (es : List Tracked) (ks : List (Option Detection)) (i : ℕ) (d : Tracked) (k : Option Detection) → i < length es → i < length ks
    → given_all dt (take (suc i) es) ks ≡ given_all dt (take i es) ks ++ (given_one dt (get_or ks i k) (get_or es i d) ∷ [])
given-more dt [] ks i d k h m = absurd (not-suc-le-zero h)
given-more dt (e ∷ es) [] i d k h m = absurd (not-suc-le-zero m)
given-more dt (e ∷ es) (g ∷ ks) zero d k h m = refl
given-more dt (e ∷ es) (g ∷ ks) (suc i) d k h m = ap (λ l. given_one dt g e ∷ l) (given-more dt es ks i d k (le_of_suc-le-suc h) (le_of_suc-le-suc m))

pub few-given : (dt : ℕ) (es : List Tracked) (ks : List (Option Detection)) → length (given_all dt es ks) ≤ length es
few-given dt [] ks = omega arith
few-given dt (e ∷ es) [] = omega arith
few-given dt (e ∷ es) (k ∷ ks) = omega (arith, few-given dt es ks)

pub few-taken : (dt : ℕ) (es : List Tracked) (ks : List (Option Detection)) (i : ℕ) → length (given_all dt (take i es) ks) ≤ i
few-taken dt es ks i = omega (arith, few-given dt (take i es) ks, length-take i es)

pub given-room : (dt : ℕ) (es : List Tracked) (ks : List (Option Detection)) (i : ℕ) (w : Tracks) → w ≡ tracks_of (given_all dt (take i es) ks) → i < 64 → w.count < 64
given-room dt es ks i w e h = has_room (given_all dt (take i es) ks) w e (omega (arith, few-taken dt es ks i))

pub given-turn : (dt : ℕ) (es : List Tracked) (ks : List (Option Detection)) (i : ℕ) (d : Tracked) (k : Option Detection) (w r : Tracks) (g : Tracked) → w ≡ tracks_of (given_all dt (take i es) ks)
    → i < length es → i < length ks → i < 64 → g ≡ given_one dt (get_or ks i k) (get_or es i d) → r ≡ pushed w g → r ≡ tracks_of (given_all dt (take (i + 1) es) ks)
given-turn dt es ks i d k w r g e h m s p q =
    q ∙ rw (e, p, add-one i, given-more dt es ks i d k h m) (pushed_of (given_all dt (take i es) ks) (given_one dt (get_or ks i k) (get_or es i d)) (omega (arith, few-taken dt es ks i)))

-- ---- the loop of births

born-append : (id : ℕ) (xs ys : List Detection) → born_of id (xs ++ ys) ≡ born_of id xs ++ born_of (id + length xs) ys
born-append id [] ys = rw (add-zero id)
born-append id (x ∷ xs) ys = ap (λ l. newborn id x ∷ l) (born-append (suc id) xs ys ∙ rw (suc-add id (length xs), add-suc id (length xs)))

pub length-born : (id : ℕ) (ds : List Detection) → length (born_of id ds) ≡ length ds
length-born id [] = refl
length-born id (d ∷ ds) = ap suc (length-born (suc id) ds)

module _ (es : List Tracked) (id : ℕ) (f : ℕ → Detection) where
  abbrev pub joined : ℕ → List Tracked
  joined i = es ++ born_of id (tab f i)

  pub length-joined : (i : ℕ) → length (joined i) ≡ length es + i
  length-joined i = omega (arith, length-append es (born_of id (tab f i)), length-born id (tab f i), length-tab f i)

  pub born-room : (i : ℕ) (w : Tracks) → w ≡ tracks_of (joined i) → length es + i < 64 → w.count < 64
  born-room i w e h = has_room (joined i) w e (omega (arith, length-joined i))

  pub joined-more : (i : ℕ) → joined (i + 1) ≡ joined i ++ (newborn (id + i) (f i) ∷ [])
  joined-more i = rw (add-one i, born-append id (tab f i) (f i ∷ []), length-tab f i, append_assoc)

  pub born-turn : (i : ℕ) (w r : Tracks) (d : Detection) (b : Tracked) → w ≡ tracks_of (joined i) → length es + i < 64 → d ≡ f i → b ≡ newborn (id + i) d → r ≡ pushed w b → r ≡ tracks_of (joined (i + 1))
  born-turn i w r d b e h p q s = s ∙ rw (e, q, p, joined-more i) (pushed_of (joined i) (newborn (id + i) (f i)) (omega (arith, length-joined i)))
