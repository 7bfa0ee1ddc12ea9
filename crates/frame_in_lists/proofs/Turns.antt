-- The table of tracks on its way through a frame: a track more, and one more turn of each loop that gives and bears. Assumes nothing.
use Rattle.std.specs.Prelude.{Option}
use mathlib.Core.Path.{◌≡◌, refl, sym, ap, subst, ◌∙◌}
use mathlib.Core.Bool.{Bool, true, false}
use mathlib.Core.List.{List, [], ◌∷◌, ◌++◌, append-nil}
use Prim.Native.Nat.{ℕ, ◌+◌, ◌≤◌, ◌<◌}
use native.Mathlib.Nat.{add-zero}
use native.Mathlib.Numerals.{add-one}
use native.Mathlib.Omega.{arith}
use lib.ListN.{length, take, drop, get_or, set, length-append, length-set}
use lib.Seq.{take-suc-set, get_or-take, get_or-drop, drop-drop, drop-set-lt}
use Rattle.lists.specs.Lists.{put, keep}
use Rattle.lists.proofs.Keep.{keep_append, keep-short}
use Rattle.object.specs.declared.Detection.{Detection}
use Rattle.frame.specs.declared.Settings.{Settings}
use Rattle.frame.specs.declared.Tracked.{Tracked}
use Rattle.frame.specs.Frame.{is_young}
use Rattle.one_track.specs.OneTrack.{given_one, newborn}
use Rattle.tracks.specs.Tracks.{given_all}
use Rattle.tracks.proofs.Table as table

-- the first cells of w are es, and w has 64 cells
pub record Holds (es : List Tracked) (n : ℕ) (w : List Tracked) : Type 0 where
  pub count : n ≡ length es
  pub held : take n w ≡ es
  pub long : length w ≡ 64

pub holds-none : (w : List Tracked) → length w ≡ 64 → Holds [] 0 w
holds-none w h = record { count = refl; held = refl; long = h }

pub holds_more : (es : List Tracked) (n : ℕ) (w : List Tracked) (e : Tracked) → Holds es n w → n < 64 → Holds (es ++ e ∷ []) (n + 1) (set w n e)
holds_more es n w e h b = record {
  count = omega (arith, h.count, length-append es (e ∷ []));
  held = ap (λ (k : ℕ). take k (set w n e)) (add-one n) ∙ take-suc-set w n e (omega (arith, h.long, b)) ∙ ap (λ (l : List Tracked). l ++ (e ∷ [])) h.held;
  long = length-set w n e ∙ h.long;
}

pub holds_at : (es : List Tracked) (n : ℕ) (w : List Tracked) (j : ℕ) (d : Tracked) → Holds es n w → j < n → get_or w j d ≡ get_or es j d
holds_at es n w j d h b = sym (get_or-take n w j d b) ∙ ap (λ (l : List Tracked). get_or l j d) h.held

-- ---- loops that keep what passes, in place

-- es stand first, and w₀'s tracks from k on are still there
pub record Keeping (es : List Tracked) (w₀ : List Tracked) (k n : ℕ) (w : List Tracked) : Type 0 where
  pub holds : Holds es n w
  pub few : n ≤ k
  pub rest : drop k w ≡ drop k w₀

pub keeping_none : (w : List Tracked) → length w ≡ 64 → Keeping [] w 0 0 w
keeping_none w h = record { holds = holds-none w h; few = omega arith; rest = refl }

module _ (es : List Tracked) (w₀ : List Tracked) (k n : ℕ) (w : List Tracked) (h : Keeping es w₀ k n w) where
  pub still : (d : Tracked) → get_or w k d ≡ get_or w₀ k d
  still d =
      ap (λ (i : ℕ). get_or w i d) (sym (add-zero k))
      ∙ sym (get_or-drop k w 0 d)
      ∙ ap (λ (l : List Tracked). get_or l 0 d) h.rest
      ∙ get_or-drop k w₀ 0 d
      ∙ ap (λ (i : ℕ). get_or w₀ i d) (add-zero k)

  next : drop (k + 1) w ≡ drop (k + 1) w₀
  next = sym (drop-drop 1 k w) ∙ ap (drop 1) h.rest ∙ drop-drop 1 k w₀

  pub keeping-taken : (fs : List Tracked) (e : Tracked) → fs ≡ es ++ e ∷ [] → k < 64 → Keeping fs w₀ (k + 1) (n + 1) (set w n e)
  keeping-taken fs e p b = record {
    holds = subst (λ (l : List Tracked). Holds l (n + 1) (set w n e)) (sym p) (holds_more es n w e h.holds (omega (arith, h.few, b)));
    few = omega (arith, h.few);
    rest = drop-set-lt (k + 1) w n e (omega (arith, h.few)) ∙ next;
  }

  pub keeping-left : (fs : List Tracked) → fs ≡ es → Keeping fs w₀ (k + 1) n w
  keeping-left fs p = record { holds = subst (λ (l : List Tracked). Holds l n w) (sym p) h.holds; few = omega (arith, h.few); rest = next }

-- ---- boxes, misses and ageing

module _ (s : Settings) (es : List Tracked) (ks : List (Option Detection)) where
  -- the tracks before k, given what they were granted, that have not aged out
  abbrev pub young : ℕ → List Tracked
  young k = keep (is_young s) (given_all s.delta_t (take k es) ks)

  pub few-young : (k : ℕ) → length (young k) ≤ k
  few-young k = omega (arith, keep-short (is_young s) (given_all s.delta_t (take k es) ks), table.few-taken s.delta_t es ks k)

  module _ (k : ℕ) (d : Tracked) (g : Option Detection) (e : Tracked) (there : k < length es) (granted : k < length ks) (is : e ≡ given_one s.delta_t (get_or ks k g) (get_or es k d)) where
    one : young (k + 1) ≡ young k ++ put (is_young s e) e []
    one =
        ap (λ (j : ℕ). young j) (add-one k)
        ∙ ap (keep (is_young s)) (table.given-more s.delta_t es ks k d g there granted ∙ ap (λ (x : Tracked). given_all s.delta_t (take k es) ks ++ (x ∷ [])) (sym is))
        ∙ keep_append (is_young s) (given_all s.delta_t (take k es) ks) (e ∷ [])

    pub young-taken : is_young s e ≡ true → young (k + 1) ≡ young k ++ e ∷ []
    young-taken t = one ∙ ap (λ (b : Bool). young k ++ put b e []) t

    pub young-left : is_young s e ≡ false → young (k + 1) ≡ young k
    young-left t = one ∙ ap (λ (b : Bool). young k ++ put b e []) t ∙ append-nil (young k)

-- ---- births

module _ (es : List Tracked) (n id : ℕ) (f : ℕ → Detection) (b : ℕ) (w : List Tracked) (d : Detection) (e : Tracked) where
  pub born-more : Holds (table.joined es id f b) (n + b) w → n + b < 64 → d ≡ f b → e ≡ newborn (id + b) d → Holds (table.joined es id f (b + 1)) (n + (b + 1)) (set w (n + b) e)
  born-more h r p q =
      let y : newborn (id + b) (f b) ≡ e = sym (q ∙ ap (newborn (id + b)) p) in
      let z : (n + b) + 1 ≡ n + (b + 1) = omega arith in
      let j : table.joined es id f b ++ e ∷ [] ≡ table.joined es id f (b + 1) = ap (λ (x : Tracked). table.joined es id f b ++ (x ∷ [])) (sym y) ∙ sym (table.joined-more es id f b) in
      subst (λ (k : ℕ). Holds (table.joined es id f (b + 1)) k (set w (n + b) e)) z
      (subst (λ (l : List Tracked). Holds l (n + b + 1) (set w (n + b) e)) j (holds_more (table.joined es id f b) (n + b) w e h r))
