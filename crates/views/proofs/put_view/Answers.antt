-- `views::put_view` meets its contract.
use Rattle.std.specs.Option.{unwrap_or}
use mathlib.Core.Path.{ap, ◌∙◌}
use Prim.Native.Nat.{◌*◌}
use native.Mathlib.Omega.{arith}
use lib.Ieee.{neg, of_bits}
use lib.Seq.{sets}
use Rattle.object.specs.declared.Corners.{Corners}
use Rattle.object.specs.declared.Detection.{Detection}
use Rattle.object.specs.Object.{corners_of}
use Rattle.frame.specs.Frame.{placeholder, view_of}
use Rattle.objects.specs.Dets.{five_of}
use Rattle.matching.specs.Associate.{four_of}
use Rattle.views.proofs.put_view.Goals as goal

pub put_detection-requires : goal.put_detection-requires
put_detection-requires c = let s = c in (s.requires.0, omega (arith, s.requires.0, s.requires.5))

pub returns : goal.returns
unfolding view_of neg of_bits
returns c =
    let s = c in (
      c.put_corners.ensures ∙ ap (λ (b : Corners). sets s.args.boxes.now (4 * s.args.j) (four_of b)) c.get_state.ensures,
      c.put_direction.ensures,
      c.put_corners-2.ensures ∙ ap (λ (b : Corners). sets s.args.lasts.now (4 * s.args.j) (four_of b)) (c.from.ensures ∙ ap corners_of c.unwrap_or.ensures),
      c.put_detection.ensures ∙ ap (λ (d : Detection). sets s.args.previous.now (5 * s.args.j) (five_of d)) (c.unwrap_or-2.ensures ∙ ap (λ o. unwrap_or o placeholder) c.k_previous_obs-before.ensures),
    )
