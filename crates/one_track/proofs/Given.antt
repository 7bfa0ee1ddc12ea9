-- What `give` needs. Assumes nothing.
use mathlib.Core.Path.{◌≡◌}
use mathlib.Core.Bool.{true}
use Prim.Native.Nat.{◌≤◌}
use borrow.Author.Tests.{leb-true}
use lib.Dec.{leb}
use Rattle.lapjv_walk.proofs.Cases.{and_left, and_right}
use Rattle.frame.specs.declared.Tracked.{Tracked}
use Rattle.one_track.specs.OneTrack.{givable}

pub can-be-given : (e : Tracked) → givable e ≡ true → (e.track.since ≤ 256) × (e.track.streak ≤ 1000000)
unfolding givable
can-be-given e h = (leb-true _ _ (and_left (leb e.track.since 256) (leb e.track.streak 1000000) h), leb-true _ _ (and_right (leb e.track.since 256) (leb e.track.streak 1000000) h))
