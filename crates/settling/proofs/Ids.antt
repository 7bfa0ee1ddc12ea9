-- After grants and births every id fits. Assumes nothing.
use Rattle.std.specs.Prelude.{Option}
use mathlib.Core.Path.{◌≡◌, refl}
use mathlib.Core.Bool.{Bool, true}
use mathlib.Core.List.{List, [], ◌∷◌, ◌++◌}
use Prim.Native.Nat.{ℕ, suc, ◌+◌, ◌≤◌, ◌<◌}
use native.Mathlib.Omega.{arith}
use lib.Dec.{ltb}
use lib.ListN.{length}
use borrow.Author.Tests.{ltb-true, lt-ltb}
use Rattle.lists.specs.Lists.{every}
use Rattle.object.specs.declared.Detection.{Detection}
use Rattle.frame.specs.declared.Tracked.{Tracked}
use Rattle.lapjv_walk.proofs.Cases.{and_left, and_right}
use Rattle.reports.specs.Written.{low_id}
use Rattle.tracks.specs.Tracks.{given_all, born_of}

abbrev pub below : ℕ → Tracked → Bool
below n e = ltb e.id n

lower : (n : ℕ) → n ≤ 64000000 → (e : Tracked) → below n e ≡ true → low_id e ≡ true
unfolding low_id
lower n l e h = let b : e.id < n = ltb-true e.id n h in lt-ltb e.id 64000000 (omega (arith, b, l))

low-given : (n : ℕ) → n ≤ 64000000 → (dt : ℕ) (es : List Tracked) (ks : List (Option Detection)) (rest : List Tracked) → every (below n) es ≡ true → every low_id rest ≡ true → every low_id (given_all dt es ks ++ rest) ≡ true
unfolding low_id
low-given n l dt [] ks rest h r = r
low-given n l dt (e ∷ es) [] rest h r = r
low-given n l dt (e ∷ es) (k ∷ ks) rest h r = rw (lower n l e (and_left (below n e) (every (below n) es) h)) (low-given n l dt es ks rest (and_right (below n e) (every (below n) es) h) r)

low-born : (n : ℕ) (ds : List Detection) → n + length ds ≤ 64000000 → every low_id (born_of n ds) ≡ true
unfolding low_id
low-born n [] h = refl
low-born n (d ∷ ds) h = rw (lt-ltb n 64000000 (omega arith)) (low-born (suc n) ds (omega arith))

pub low-joined : (n dt : ℕ) (es : List Tracked) (ks : List (Option Detection)) (ds : List Detection) → every (below n) es ≡ true → n + length ds ≤ 64000000 → every low_id (given_all dt es ks ++ born_of n ds) ≡ true
low-joined n dt es ks ds h l = low-given n (omega arith) dt es ks (born_of n ds) h (low-born n ds l)
