-- `to_image::clear_from` meets its contract.
use Prim.Native.Nat.{◌+◌, ◌-◌, ◌*◌}
use Rattle.image.specs.Image.{f0}
use Rattle.to_image.proofs.Sets.{mid-filled}
use native.Mathlib.Omega.{arith}
use Rattle.to_image.proofs.clear_from.Goals as goal

pub returns : goal.returns
returns c =
    let k = c.args.k in
    record {
      wide = mid-filled c.args.wide.now (2 + k) _ (64 - k) 0 (c.fill.ensures.after (λ y e. e)) (omega arith) (omega arith) (omega (arith, c.told-wide));
      floats = mid-filled c.args.floats.now (3 + 163 * k) _ (163 * (64 - k)) f0 (c.fill-2.ensures.after (λ y e. e)) (omega arith) (omega arith) (omega (arith, c.told-floats));
      words = mid-filled c.args.words.now (5 + 15 * k) _ (15 * (64 - k)) 0 (c.fill-3.ensures.after (λ y e. e)) (omega arith) (omega arith) (omega (arith, c.told-words));
    }
