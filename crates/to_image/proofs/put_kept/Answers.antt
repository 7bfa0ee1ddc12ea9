-- `to_image::put_kept` meets its contract.
use mathlib.Core.Path.{refl, sym, ap, ◌∙◌}
use mathlib.Core.List.{map}
use Prim.Native.Nat.{◌+◌, ◌*◌}
use native.Mathlib.Omega.{arith}
use lib.ListN.{length-map, get_or-map}
use lib.Seq.{sets, take_all}
use Rattle.lists.specs.Lists.{flat}
use Rattle.image.specs.Image.{box_floats, tag_of}
use Rattle.to_image.proofs.Sets.{sets-turn, sets-done, flat-turn}
use Rattle.to_image.proofs.Putting.{kept-long, first-long}
use Rattle.to_image.proofs.put_kept.Goals as goal

pub loop-j-init : goal.loop-j-init
loop-j-init c = (refl, refl)

pub loop-j-preserved : goal.loop-j-preserved
loop-j-preserved c =
    let l = c.loop-j in
    let ks = c.args.t.kept in
    let long = kept-long c.args.t _ c.well_formed.1.1.1.1.0 in (
      flat-turn box_floats _ l.floats _ c.args.f (c.args.f + 5 * l.j) ks l.j _ l.invariant.0 (omega (arith, long)) (omega (arith, first-long ks l.j (omega (arith, long)))) c.put_box.ensures.1,
      sets-turn _ l.words c.args.w (map tag_of ks) l.j _ _ l.invariant.1 (omega (arith, long, length-map ks tag_of)) (c.put_box.ensures.0 ∙ sym (get_or-map tag_of ks l.j _)),
    )

pub returns : goal.returns
returns c =
    let l = c.loop-j in
    let ks = c.args.t.kept in
    let long = kept-long c.args.t _ c.well_formed.1.1.1.1.0 in (
      l.invariant.0 ∙ ap (λ i. sets c.args.floats.now c.args.f (flat box_floats i)) (take_all l.j ks (omega (arith, long))),
      sets-done _ l.words c.args.w (map tag_of ks) l.j l.invariant.1 (omega (arith, long, length-map ks tag_of)),
    )
