-- The live ids of a sound state are below those issued, also after prediction. Assumes nothing.
use mathlib.Core.Path.{◌≡◌, refl}
use mathlib.Core.Bool.{Bool, true, false, ◌&&◌}
use mathlib.Core.List.{List, [], ◌∷◌, map}
use Prim.Native.Nat.{ℕ, suc}
use lib.Dec.{leb}
use Rattle.lists.specs.Lists.{put, keep, every}
use Rattle.frame.specs.declared.Tracked.{Tracked}
use Rattle.frame.specs.declared.Tracker.{Tracker}
use Rattle.frame.specs.State.{live, rising, state_rules}
use Rattle.frame.specs.Frame.{predict_tracked, unbroken, predicted_tracks}
use Rattle.lapjv_walk.proofs.Cases.{and_left, and_right}
use Rattle.frame.proofs.Rules.{sound}
use Rattle.settling.proofs.Ids.{below}

rising-below : (from n : ℕ) (es : List Tracked) → rising from n es ≡ true → every (below n) es ≡ true
rising-below from n [] h = refl
rising-below from n (e ∷ es) h = both (below n e) (every (below n) es) (and_right (leb from e.id) (below n e) (and_left (leb from e.id && below n e) (rising (suc e.id) n es) h)) (rising-below (suc e.id) n es (and_right (leb from e.id && below n e) (rising (suc e.id) n es) h))
  where
    both : (a b : Bool) → a ≡ true → b ≡ true → (a && b) ≡ true
    both true b p q = q
    both false b p q = p

predicted-below : (n : ℕ) (es : List Tracked) → every (below n) es ≡ true → every (below n) (keep unbroken (map predict_tracked es)) ≡ true
predicted-below n [] h = refl
predicted-below n (e ∷ es) h = go (unbroken (predict_tracked e)) (and_left (below n e) (every (below n) es) h) (predicted-below n es (and_right (below n e) (every (below n) es) h))
  where
    go : (b : Bool) → below n e ≡ true → every (below n) (keep unbroken (map predict_tracked es)) ≡ true → every (below n) (put b (predict_tracked e) (keep unbroken (map predict_tracked es))) ≡ true
    go true p q = rw (p, q)
    go false p q = q

pub low-ids : (t : Tracker) → state_rules t ≡ true → every (below t.issued) (predicted_tracks (live t)) ≡ true
unfolding predicted_tracks
low-ids t h = predicted-below t.issued (live t) (rising-below 0 t.issued (live t) (sound t h).ids)
