-- The laws, all of them. Assumes nothing.
use mathlib.Core.Path.{refl}
use lib.Ieee.{is_nan, of_bits}
use Rattle.ieee.specs.Ops.{f32}
use Rattle.pair.specs.Overlap.{area_of, side_of, inter_of, share_of, overlap_of}
use Rattle.overlap_laws.specs.Laws.{OverlapLaws}
use Rattle.overlap_laws.proofs.Finite.{number-of-le}
use Rattle.overlap_laws.proofs.FromZero.{from_0}
use Rattle.overlap_laws.proofs.ToOne.{to_1}
use Rattle.overlap_laws.proofs.Exchange.{exchange}
use Rattle.overlap_laws.proofs.Itself.{itself, itself_below}

-- the boxes, by computing
pub laws : OverlapLaws
unfolding is_nan of_bits area_of side_of inter_of share_of overlap_of
laws = record {
  never_nan = λ a b. number-of-le (f32 0) (overlap_of a b) (from_0 a b);
  from_0 = from_0;
  to_1 = to_1;
  exchange = exchange;
  two_zeros = (refl, refl);
  itself = itself;
  itself_below = itself_below;
  turned = (refl, refl, refl, refl);
  flat = (refl, refl, refl, refl);
  tiny = (refl, refl, refl, refl);
  large = (refl, refl, refl, refl);
  huge = (refl, refl, refl, refl);
}
