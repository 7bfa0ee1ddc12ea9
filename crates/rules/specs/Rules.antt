-- The state rules of a list of live tracks, and a test's answer as the call's. Definitions only.
use Rattle.std.specs.Prelude.{◌≡◌, Bool, ◌&&◌, List, ℕ, ◌*◌, leb, ltb, length, Option, Some, None, Result, Ok, Err, ⊤}
use Rattle.lists.specs.Lists.{every}
use Rattle.object.specs.declared.Refusal.{Refusal}
use Rattle.frame.specs.declared.Settings.{Settings}
use Rattle.frame.specs.declared.Tracked.{Tracked}
use Rattle.frame.specs.State.{in_range, rising, track_rules}
use Rattle.frame.specs.Frame.{Call, early}

-- the state rules that need no track
unfoldable pub total_rules : Settings → ℕ → ℕ → ℕ → Bool
total_rules s frames issued count = in_range s && leb frames 1000000 && leb issued (64 * frames) && leb count 64

-- those of one live track: an id from `from` on and below `issued`, and the track's own
abbrev pub sound_at : Settings → ℕ → ℕ → ℕ → Tracked → Bool
sound_at s frames issued from e = leb from e.id && ltb e.id issued && track_rules s frames e

-- ids strictly rising from `from` on and below `issued`, and each track's rules
abbrev pub sound_from : Settings → ℕ → ℕ → ℕ → List Tracked → Bool
sound_from s frames issued from es = rising from issued es && every (track_rules s frames) es

-- no refusal: accepted so far
abbrev pub outcome_at : Option Refusal → Result ⊤ Refusal
outcome_at None = Ok tt
outcome_at (Some r) = Err r

-- what every call with these lengths is told
abbrev pub Told : ℕ → ℕ → ℕ → ℕ → Result ⊤ Refusal → Type 0
Told frames input boxes ids r = (c : Call) → length c.input ≡ input → c.boxes ≡ boxes → c.ids ≡ ids → r ≡ outcome_at (early frames c)
