-- Each step of a replay by the steps that it is made of, left shut. Assumes nothing.
use Prim.Native.Nat.{ℕ, zero, suc}
use mathlib.Core.Path.{◌≡◌, refl}
use lib.Ieee.{mul, div, binary32}
use Rattle.ieee.specs.Sqrt.{sqrt_of}
use Rattle.kalman_filter.specs.declared.Filter.{Filter}
use Rattle.kalman_filter.specs.declared.DetectBox.{DetectBox}
use Rattle.kalman_filter.specs.Filter.{predict_of, update_of}
use Rattle.gap.specs.Gap.{width_of, height_of, virtual_of, virtuals, replay_of}

pub width_is : (z : DetectBox) → width_of z ≡ sqrt_of (mul binary32 z.s z.r)
unfolding width_of
width_is z = refl

pub height-is : (z : DetectBox) → height_of z ≡ sqrt_of (div binary32 z.s z.r)
unfolding height_of
height-is z = refl

module _ (box : ℕ → DetectBox) (t : ℕ) (f : Filter) where
  pub virtuals-none : virtuals box zero t f ≡ f
  unfolding virtuals
  virtuals-none = refl

  pub virtuals-one : virtuals box (suc zero) t f ≡ update_of (box t) f
  unfolding virtuals
  virtuals-one = refl

  pub virtuals-more : (n : ℕ) → virtuals box (suc (suc n)) t f ≡ virtuals box (suc n) (suc t) (predict_of (update_of (box t) f))
  unfolding virtuals
  virtuals-more n = refl

pub replay-is : (gap : ℕ) (a b : DetectBox) (f : Filter) → replay_of gap a b f ≡ update_of b (virtuals (virtual_of gap a b) gap 1 f)
unfolding replay_of
replay-is gap a b f = refl
