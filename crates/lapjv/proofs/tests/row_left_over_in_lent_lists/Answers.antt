-- The test `row_left_over_in_lent_lists` keeps to the contracts.
use mathlib.Core.Path.{refl}
use Rattle.costs.specs.Models.{float_laws}
use Rattle.lapjv.proofs.Lent.{three-square}
use Rattle.lapjv.proofs.Whole.{columns-leave}
use Rattle.lapjv.proofs.tests.row_left_over_in_lent_lists.Goals as goal

pub ca_dense-requires : goal.ca_dense-requires
ca_dense-requires g c =
    let l = columns-leave float_laws 3 _ (three-square _ refl) tt _ c.ccrt_dense-first.ensures.0 in
    (three-square _ refl, refl, refl, l.0, tt, l.1)
