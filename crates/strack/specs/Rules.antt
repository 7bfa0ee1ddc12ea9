-- Document 01, 'State rules', and the one that document 02, 2.5 adds: those that speak of one track alone. Definitions only.
use Rattle.std.specs.Prelude.{Bool, true, not, ◌&&◌, leb, ltb, eqb, Float, Option, Some, None}
use Rattle.std.specs.Bool.{beq}
use Rattle.std.specs.Option.{is_some}
use Rattle.std.specs.Float.{binary32}
use Rattle.std.specs.Float.Ieee.{to_bits}
use Rattle.kalman_filter.specs.declared.DetectBox.{DetectBox}
use Rattle.strack.specs.declared.Track.{Track}
use Rattle.strack.specs.Track.{list_entry}

-- by the bit pattern: all NaNs are one, 0 and -0 are two
unfoldable pub same_number : Float → Float → Bool
same_number a b = eqb (to_bits binary32 a) (to_bits binary32 b)

unfoldable pub same_box : DetectBox → DetectBox → Bool
same_box a b = same_number a.x b.x && same_number a.y b.y && same_number a.s b.s && same_number a.r b.r

-- where both hold a box, the same one
abbrev pub same_entry : Option DetectBox → Option DetectBox → Bool
same_entry None l = true
same_entry (Some z) None = true
same_entry (Some z) (Some a) = same_box a z

unfoldable pub own_rules : Track → Bool
own_rules t =
    -- streak at most age, frames since update at most age
    leb t.streak t.age
    && leb t.since t.age
    -- a list box exactly if a last box
    && beq (is_some t.list) (is_some t.last)
    -- the list box is the last box's entry in `history_obs`
    && same_entry (list_entry t.last) t.list
    -- no box has come since birth: neither
    && not (eqb t.since t.age && is_some t.last)
    -- frozen exactly if it holds them and frames since update is above 0
    && beq t.frozen (is_some t.last && ltb 0 t.since)
