-- What the code keeps of objects and grants suffices for the frame's grants, misses and births. Assumes nothing.
use Rattle.std.specs.Prelude.{Option, Some, None}
use mathlib.Core.Path.{◌≡◌, refl, ap, ap₂}
use mathlib.Core.List.{List, [], ◌∷◌, ◌++◌, map}
use Prim.Native.Nat.{ℕ, suc}
use native.Mathlib.Omega.{arith}
use lib.ListN.{length}
use Rattle.strack.specs.declared.Track.{Track}
use Rattle.frame.specs.declared.Tracked.{Tracked}
use Rattle.frame.specs.Objects.{Obj}
use Rattle.frame.specs.Rounds.{Grant, Slot, box_granted, grant_of}
use Rattle.frame.specs.Frame.{with_track, give, give_all, births}
use Rattle.one_track.specs.OneTrack.{given_to, newborn}
use Rattle.object.specs.declared.Detection.{Detection}
use Rattle.tracks.specs.Tracks.{given_all, born_of}

-- ---- births

pub births-born : (id : ℕ) (os : List Obj) → births id os ≡ born_of id (map (λ o. o.det) os)
births-born id [] = refl
births-born id (o ∷ os) = ap (λ l. newborn id o.det ∷ l) (births-born (suc id) os)

-- ---- grants

give-given : (dt : ℕ) (got : Option Grant) (t : Track) → give dt got t ≡ given_to dt (box_granted got) t
give-given dt None t = refl
give-given dt (Some g) t = refl

pub give-all-given : (dt : ℕ) (es : List Tracked) (ss : List Slot) (rest : List (Option Detection)) → length ss ≡ length es → give_all dt es ss ≡ given_all dt es (map grant_of ss ++ rest)
give-all-given dt [] ss rest h = refl
give-all-given dt (e ∷ es) [] rest h = let z : ◌≡◌ {A = ℕ} 0 1 = omega (arith, h) in absurd (omega (arith, z))
give-all-given dt (e ∷ es) (s ∷ ss) rest h = ap₂ (λ t l. with_track e t ∷ l) (give-given dt s.got e.track) (give-all-given dt es ss rest (omega (arith, h)))
