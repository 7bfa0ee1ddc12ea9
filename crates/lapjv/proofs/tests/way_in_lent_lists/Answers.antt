-- The test `way_in_lent_lists` keeps to the contracts.
use mathlib.Core.Path.{refl}
use native.Mathlib.Omega.{arith}
use Rattle.costs.specs.Models.{float_laws}
use Rattle.lapjv.proofs.Lent.{first-given, three-square}
use Rattle.lapjv.proofs.Whole.{columns-leave}
use Rattle.lapjv.proofs.tests.way_in_lent_lists.Goals as goal

pub find_path_dense-way-requires : goal.find_path_dense-way-requires
find_path_dense-way-requires g c =
    let e = c.ccrt_dense-first.ensures.0 in
    let l = columns-leave float_laws 3 _ (three-square _ refl) tt _ e in
    let o = first-given float_laws 3 _ (three-square _ refl) tt _ e (omega arith) in
    (three-square _ refl, o.below, refl, o.marked, o.room, l.0.len_v, refl, tt, o.good)
