-- A replayed track obeys the state rules that speak of one track; and the claim whole. Assumes nothing.
use mathlib.Core.Path.{◌≡◌, refl, sym, ap, ◌∙◌}
use mathlib.Core.Bool.{Bool, true, false, not, ◌&&◌}
use Prim.Native.Nat.{ℕ, ◌+◌, ◌≤◌}
use native.Mathlib.Omega.{arith}
use lib.Dec.{eqb}
use borrow.Author.Tests.{le-leb, lt-ltb, le-ltb, ne_eqb}
use Rattle.std.specs.Option.{is_some}
use Rattle.strack.specs.Track.{list_entry}
use Rattle.strack.specs.Rules.{same_entry, own_rules}
use Rattle.strack.proofs.Rules.{same-entry-self}
use Rattle.history.specs.Uncut.{Uncut, last_held, frames_back}
use Rattle.history.specs.Replay.{replay, cut}
use Rattle.history.specs.Sound.{Phase, never, watched, lost, Sound}
use Rattle.history.specs.Suffices.{Sufficient, Suffices}
use Rattle.history.proofs.Sound.{replay-sound}
use Rattle.history.proofs.Cut.{held-under, gap-is-since, previous-found, k-previous-cut, cut-replay}

module _ (w : Uncut) (h : Sound w) where
  listed : same_entry (list_entry w.last) (last_held w.history_obs) ≡ true
  listed = rw h.list_last (same-entry-self (list_entry w.last))

  own-rules : Phase w → own_rules (cut w) ≡ true
  unfolding own_rules cut
  own-rules (never l o s e n a) = rw (le-leb w.streak w.age h.streak_within, le-leb w.since w.age h.since_within, listed, l, s, e) (go (eqb w.since w.age))
    where
      go : (t : Bool) → not (t && false) && true ≡ true
      go true = refl
      go false = refl
  own-rules (watched z k l o s e n a) =
      let d : eqb w.since w.age ≡ false = ne_eqb w.since w.age (λ q. omega (arith, q, n, a)) in
      rw (le-leb w.streak w.age h.streak_within, le-leb w.since w.age h.since_within, listed, l, s, e, d, le-ltb 0 w.since (omega (arith, n)))
  own-rules (lost m f z k l o s e n a) =
      let d : eqb w.since w.age ≡ false = ne_eqb w.since w.age (λ q. omega (arith, q, n, a)) in
      rw (le-leb w.streak w.age h.streak_within, le-leb w.since w.age h.since_within, listed, l, s, e, held-under m z k, d, lt-ltb 0 w.since (omega (arith, n)))

  next-gap : Phase w → is_some w.last ≡ true → frames_back w.history_obs ≡ w.since + 1
  next-gap (never l o s e n a) q = absurd (let z : ◌≡◌ {A = Bool} false true = ap is_some (sym l) ∙ q in let y : ◌≡◌ {A = ℕ} 0 1 = cc in omega arith)
  next-gap (watched z k l o s e n a) q = rw (e, n)
  next-gap (lost m f z k l o s e n a) q = gap-is-since m w z k e n

sufficient : (dt : ℕ) → dt ≤ 8 → (w : Uncut) → Sound w → Sufficient dt w
sufficient dt few w h = record {
  sound = h;
  rules = own-rules w h h.phase;
  gap = next-gap w h h.phase;
  previous = previous-found dt few w;
  k_previous = k-previous-cut dt few w h;
}

pub suffices : Suffices
suffices = record {
  commutes = cut-replay;
  each = λ dt few b ls. sufficient dt few (replay dt b ls) (replay-sound dt b ls);
}
