-- The entries of a table are below 2 ^ 32, as a test of each tells. Assumes nothing.
use Rattle.std.specs.Prelude.{Bool, true, false, ◌&&◌, List, [], ◌∷◌, ltb}
use Prim.Native.Nat.{ℕ, zero, suc, ◌^◌, ◌<◌}
use mathlib.Core.Path.{◌≡◌, refl}
use lib.Dec.{lit<}
use lib.ListN.{get_or}
use Rattle.std.proofs.lemmas.Bool.{ltb-true}

abbrev pub small : List ℕ → Bool
small [] = true
small (x ∷ l) = ltb x (2 ^ 32) && small l

both : (s t : Bool) → (s && t) ≡ true → (s ≡ true) × (t ≡ true)
both true t h = (refl, h)
both false t h = absurd (cc)

pub entry-small : (l : List ℕ) (i : ℕ) → small l ≡ true → get_or l i 0 < 2 ^ 32
entry-small [] i h = lit< tt
entry-small (x ∷ l) zero h = ltb-true x (2 ^ 32) (both (ltb x (2 ^ 32)) (small l) h).0
entry-small (x ∷ l) (suc i) h = entry-small l i (both (ltb x (2 ^ 32)) (small l) h).1
