-- Every call keeps, of each entry: its lines were written while it was neither broken nor old, and it has one for each frame that it lived through. Assumes nothing.
use Rattle.std.specs.Prelude.{Option, Some, None}
use mathlib.Core.Path.{◌≡◌, refl, sym, subst}
use mathlib.Core.Bool.{Bool, true, false}
use mathlib.Core.List.{List, [], ◌∷◌}
use Prim.Native.Nat.{ℕ, suc, ◌+◌, ◌≤◌}
use native.Mathlib.Omega.{arith}
use Rattle.lists.specs.Lists.{All}
use Rattle.frame.specs.declared.Settings.{Settings}
use Rattle.frame.specs.Objects.{Obj}
use Rattle.frame.specs.Rounds.{Grant}
use Rattle.run_book.specs.Book.{Line, Status, open', broken, agedOut, Entry, is_open, closed_by, with_status, breaks, break_entry, is_old, age_entry, next_line, with_line, opened}
use Rattle.run_book.specs.Claim.{last_frame, Spans, LineFrames, Because, Lived}
use Rattle.run_book.proofs.Writing.{shut, Current}

pub all_both : {A : Type 0} (P Q : A → Type 0) (xs : List A) → All P xs → All Q xs → All (λ x. P x × Q x) xs
all_both P Q [] a b = tt
all_both P Q (x ∷ xs) a b = ((a.0, b.0), all_both P Q xs a.1 b.1)

-- ---- neither broken nor old

abbrev pub LivedEntry : Settings → Entry → Type 0
LivedEntry s e = Lived s e.id e.birth e.lines

module _ (s : Settings) where
  -- after the break test: an open entry is neither broken nor old
  abbrev pub Fit : Entry → Type 0
  Fit e = LivedEntry s e × (e.status ≡ open' → (breaks s e ≡ false) × (is_old s e ≡ false))

  pub fit-break : (e : Entry) → Because s e e.status × LivedEntry s e → Fit (break_entry s e)
  unfolding breaks is_old
  fit-break e h = (h.1, go e.status (breaks s e) refl h.0)
    where
      go : (q : Status) (t : Bool) → breaks s e ≡ t → Because s e q → closed_by broken q t ≡ open' → (breaks s e ≡ false) × (is_old s e ≡ false)
      go open' true b k x = shut broken refl x
      go open' false b k x = (b, k)
      go broken t b k x = shut broken refl x
      go agedOut t b k x = shut agedOut refl x

  pub fit_line : (e : Entry) (l : Line) → e.status ≡ open' → Fit e → LivedEntry s (with_line e l)
  unfolding breaks is_old
  fit_line e l o f = (f.1 o, f.0)

  pub lived-opened : (n i : ℕ) (os : List Obj) → All (LivedEntry s) (opened n i os)
  lived-opened n i [] = tt
  lived-opened n i (o ∷ os) = (tt, lived-opened n (suc i) os)

-- ---- a line a frame

abbrev pub Spanned : ℕ → Entry → Type 0
Spanned n e = Spans n e e.status × LineFrames e.birth e.lines

-- after the break test of frame m + 1, before its lines: those that broke in it have a line for frame m
abbrev Between : ℕ → Entry → Status → Type 0
Between m e open' = last_frame e ≡ m
Between m e broken = last_frame e ≤ m
Between m e agedOut = last_frame e ≤ m

abbrev pub BetweenEntry : ℕ → Entry → Type 0
BetweenEntry m e = Between m e e.status × LineFrames e.birth e.lines

module _ (s : Settings) (m : ℕ) where
  pub span-break : (e : Entry) → Spanned m e → BetweenEntry m (break_entry s e)
  span-break e h = (go e.status (breaks s e) h.0, h.1)
    where
      go : (q : Status) (t : Bool) → Spans m e q → Between m (with_status e (closed_by broken q t)) (closed_by broken q t)
      go open' true k = omega (arith, k)
      go open' false k = k
      go broken t k = omega (arith, k)
      go agedOut t k = k

  pub span-stays : (e : Entry) → is_open e.status ≡ false → BetweenEntry m e → Spanned (m + 1) e
  span-stays e c h = (go e.status c h.0, h.1)
    where
      go : (q : Status) → is_open q ≡ false → Between m e q → Spans (m + 1) e q
      go open' c k = shut open' c refl
      go broken c k = omega (arith, k)
      go agedOut c k = omega (arith, k)

  pub span-line : (e : Entry) (g : Option Grant) → e.status ≡ open' → BetweenEntry m e → Spanned (m + 1) (with_line e (next_line (m + 1) g))
  span-line e g o h = (subst (λ (q : Status). Spans (m + 1) (with_line e (next_line (m + 1) g)) q) (sym o) (omega (arith, here)), frames g)
    where
      here : last_frame e ≡ m
      here = subst (λ (q : Status). Between m e q) o h.0

      frames : (x : Option Grant) → LineFrames e.birth (with_line e (next_line (m + 1) x)).lines
      frames None = h.1
      frames (Some x) = (omega (arith, here), h.1)

  pub span-age : (e : Entry) → Spanned m e → Spanned m (age_entry s e)
  span-age e h = (go e.status (is_old s e) h.0, h.1)
    where
      go : (q : Status) (t : Bool) → Spans m e q → Spans m (with_status e (closed_by agedOut q t)) (closed_by agedOut q t)
      go open' true k = omega (arith, k)
      go open' false k = k
      go broken t k = k
      go agedOut t k = k

pub span-opened : (n i : ℕ) (os : List Obj) → All (Spanned n) (opened n i os)
span-opened n i [] = tt
span-opened n i (o ∷ os) = ((omega arith, tt), span-opened n (suc i) os)

pub all-current : (s : Settings) (m : ℕ) (es : List Entry) → All (Spanned m) es → All (Current s m) es
all-current s m [] a = tt
all-current s m (e ∷ es) a = (λ o. subst (λ (q : Status). Spans m e q) o a.0.0, all-current s m es a.1)
