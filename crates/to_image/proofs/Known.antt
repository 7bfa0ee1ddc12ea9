-- What owning a state tells of its tracks: their lists are as long as their types say, and their numbers fill their cells. Assumes nothing.
use mathlib.Core.List.{List, [], ◌∷◌}
use mir.Val.{Val}
use base.Fml.{Fml}
use denote.Shadow.{shadow}
use denote.Laws.{Is}
use denote.Array.{each}
use Rattle.lists.specs.Lists.{All}
use Rattle.frame.specs.declared.Tracked.{Tracked}
use Rattle.frame.specs.declared.Tracker.{Tracker}
use Rattle.frame.specs.contracts.Tracked as Td
use Rattle.frame.specs.contracts.Tracker as Tr
use Rattle.to_image.proofs.Putting.{x-long, p-long, kept-long, full}
use Rattle.to_image.proofs.Filling.{Full}
use Rattle.to_image.proofs.Back.{Shaped}

pub shaped : (e : Tracked) (vs : List Val) → Is Td.the_row e vs → Shaped e
shaped e vs p =
    let t = p.1.1.1.0 in
    record {
      x = x-long e.track.filter _ t.1.1.0;
      p = p-long e.track.filter _ t.1.1.0;
      xs = x-long e.track.saved _ t.1.1.1.0;
      ps = p-long e.track.saved _ t.1.1.1.0;
      kept = kept-long e.track _ t;
    }

-- what holds of each element of an array
all_of_each : {X : Type 0} (f : X → List Val → Fml) (Q : X → Type 0) → ((x : X) (vs : List Val) → shadow (f x vs) → Q x) → (xs : List X) (us : List Val) → shadow (each X f xs us) → All Q xs
all_of_each f Q h [] us p = tt
all_of_each f Q h (x ∷ xs) [] p = absurd p
all_of_each f Q h (x ∷ xs) (u ∷ us) p = (h x (u ∷ []) p.0, all_of_each f Q h xs us p.1)

module _ (t : Tracker) (vs : List Val) (h : Is Tr.the_row t vs) where
  pub all-shaped : All Shaped t.table
  all-shaped = all_of_each (Td.the_row).own_val Shaped shaped t.table _ h.1.1.1.1.1.1.0.1.1

  pub all-full : All Full t.table
  all-full = all_of_each (Td.the_row).own_val Full full t.table _ h.1.1.1.1.1.1.0.1.1
