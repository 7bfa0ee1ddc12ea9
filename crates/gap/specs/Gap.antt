-- Document 01, item 4: the replay of a gap. The list box and the box that ends the gap are joined by a straight line of centre, width and height.
-- Definitions only.
use Rattle.std.specs.Prelude.{ℕ, zero, suc, pos, Float}
use Rattle.std.specs.Float.{binary32}
use Rattle.std.specs.Float.Ieee.{add, sub, mul, div, of_int}
use Rattle.ieee.specs.Sqrt.{sqrt_of}
use Rattle.kalman_filter.specs.declared.Filter.{Filter}
use Rattle.kalman_filter.specs.declared.DetectBox.{DetectBox}
use Rattle.kalman_filter.specs.Filter.{predict_of, update_of}

-- width and height of a measured box, as the replay takes them
unfoldable pub width_of : DetectBox → Float
unfolding sqrt_of mul
width_of z = sqrt_of (mul binary32 z.s z.r)

unfoldable pub height_of : DetectBox → Float
unfolding sqrt_of div
height_of z = sqrt_of (div binary32 z.s z.r)

-- t frames along the line that goes from a to b in gap frames
unfoldable pub along : ℕ → ℕ → Float → Float → Float
unfolding add sub mul div of_int
along gap t a b = add binary32 a (mul binary32 (of_int binary32 (pos t)) (div binary32 (sub binary32 b a) (of_int binary32 (pos gap))))

-- the virtual box t frames after z₁
unfoldable pub virtual_of : ℕ → DetectBox → DetectBox → ℕ → DetectBox
unfolding along width_of height_of mul div
virtual_of gap z₁ z₂ t =
    let w = along gap t (width_of z₁) (width_of z₂) in
    let h = along gap t (height_of z₁) (height_of z₂) in
    record { x = along gap t z₁.x z₂.x; y = along gap t z₁.y z₂.y; s = mul binary32 w h; r = div binary32 w h }

-- n virtual boxes, the first of them number t: one predict between two, none after the last
unfoldable pub virtuals : (ℕ → DetectBox) → ℕ → ℕ → Filter → Filter
unfolding predict_of update_of
virtuals box zero t f = f
virtuals box (suc zero) t f = update_of (box t) f
virtuals box (suc (suc n)) t f = virtuals box (suc n) (suc t) (predict_of (update_of (box t) f))

-- The gap replayed from the saved filter f, and the box that ended it applied once more itself.
unfoldable pub replay_of : ℕ → DetectBox → DetectBox → Filter → Filter
unfolding virtuals virtual_of update_of
replay_of gap z₁ z₂ f = update_of z₂ (virtuals (virtual_of gap z₁ z₂) gap 1 f)
