-- `from_image::filter_at` meets its contract.
use mathlib.Core.Path.{◌≡◌, sym, ap, ◌∙◌}
use Prim.Native.Nat.{ℕ, ◌+◌, ◌-◌}
use native.Mathlib.Omega.{arith}
use lib.Ieee.{nan}
use lib.ListN.{take, drop}
use Rattle.image.proofs.Parts.{tab-part}
use Rattle.from_image.proofs.filter_at.Goals as goal

pub returns : goal.returns
returns c =
    let fs = c.args.floats.now in
    let a = c.args.at in
    let seven : a + 7 - a ≡ 7 = omega arith in
    let rest : a + 56 - (a + 7) ≡ 49 = omega arith in
    λ i. record {
      x = (c.copy_from_slice.ensures.after ∙ ap (λ (n : ℕ). take n (drop a fs)) seven ∙ sym (tab-part fs a nan 7 (omega (arith, c.told-floats)))) i;
      p = (c.copy_from_slice-2.ensures.after ∙ ap (λ (n : ℕ). take n (drop (a + 7) fs)) rest ∙ sym (tab-part fs (a + 7) nan 49 (omega (arith, c.told-floats)))) i;
    }
