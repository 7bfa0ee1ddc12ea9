-- The two types of costs: f64, of which nothing is asked, and i64, whose bounds are those of lapint_walk (Holds.antt).
use Rattle.std.specs.Prelude.{Float, ℤ}
use Rattle.lapjv_walk.specs.Ops.{floats}
use Rattle.lapint_walk.specs.Wholes.{wholes}
use Rattle.lapint_walk.specs.Holds.{Costs, Far, Good, Prices, Small}
use Rattle.lapint_walk.proofs.Bits.{cost-only, far-small, good-prices, height-small, price-only, rc-small}
use Rattle.lapint_walk.proofs.Columns.{ccrt-good, collect-prices, min-small}
use Rattle.lapint_walk.proofs.Prices.{raised-small}
use Rattle.lapint_walk.proofs.Reach.{path-far, search-far, start-far, turn-far}
use Rattle.lapint_walk.proofs.Rows.{pass-good, step-good, two-small}
use Rattle.lapint_walk.proofs.Whole.{ca-good}
use Rattle.costs.specs.Laws.{CostLaws}
use Rattle.costs.specs.OpsOn.{OpsOn}

abbrev pub floats_on : OpsOn Float
floats_on = record { add = floats.add; sub = floats.sub; lt = floats.lt; le = floats.le; eq = floats.eq; large = floats.large; none = floats.none }

abbrev pub wholes_on : OpsOn ℤ
wholes_on = record { add = wholes.add; sub = wholes.sub; lt = wholes.lt; le = wholes.le; eq = wholes.eq; large = wholes.large; none = wholes.none }

pub float_laws : CostLaws floats_on (λ _. Unit) (λ _ _. Unit) (λ _ _. Unit) (λ _ _. Unit) (λ _ _ _ _. Unit)
float_laws = record {
  price_small = λ n v p j h. tt;
  cost_small = λ n cost cs i j hi hj. tt;
  distance_small = λ n d f j h. tt;
  reduced_small = λ n cost v cs p i j hi hj. tt;
  height_small = λ n cost v d cs p f i j hi hj. tt;
  least_small = λ n cost v cs p i j hi. tt;
  best_small = λ n cost v cs p some i hi. tt;
  second_small = λ n cost v cs p some i hi. tt;
  raised_small = λ n v d cols mind a lv p lo k ln h. tt;
  good_prices = λ n cost y v g. tt;
  reduced_good = λ n cost cs some. tt;
  collect_prices = λ n cost cs some x y u v w rows er ea k h. tt;
  turn_good = λ n cost cs some count s h o g. tt;
  pass_good = λ n cost cs some s l g. tt;
  rows_good = λ n cost cs s l g m h. tt;
  start_far = λ n cost y v g m cs start h room. tt;
  scan_far = λ n cost y v g m s h p f. tt;
  search_far = λ n cost y v g m s p h f. tt;
  path_far = λ n cost y v g m cs start h room. tt;
}

pub whole_laws : CostLaws wholes_on Small Costs Prices Far Good
whole_laws = record {
  price_small = λ n v p j h. price-only p j h;
  cost_small = λ n cost cs i j hi hj. cost-only n cost cs i j hi hj;
  distance_small = λ n d f j h. far-small f j h;
  reduced_small = λ n cost v cs p i j hi hj. rc-small n cost v cs p i j hi hj;
  height_small = λ n cost v d cs p f i j hi hj. height-small n cost v d i j cs p f hi hj;
  least_small = λ n cost v cs p i j hi. min-small n cost v i j cs p hi;
  best_small = λ n cost v cs p some i hi. (two-small n cost v i cs p some hi).0;
  second_small = λ n cost v cs p some i hi. (two-small n cost v i cs p some hi).1;
  raised_small = λ n v d cols mind a lv p lo k ln h. raised-small n v d cols a lo ln lv mind p k h;
  good_prices = λ n cost y v g. good-prices g;
  reduced_good = λ n cost cs some. ccrt-good n cost cs some;
  collect_prices = λ n cost cs some x y u v w rows er ea k h. collect-prices n cost cs some x y u v w rows er ea k h;
  turn_good = λ n cost cs some count s h o g. step-good n cost cs some count s h o g;
  pass_good = λ n cost cs some s l g. pass-good n cost cs some s l g;
  rows_good = λ n cost cs s l g m h. ca-good n cost cs s l g m h;
  start_far = λ n cost y v g m cs start h room. start-far n cost y v g m cs start h room;
  scan_far = λ n cost y v g m s h p f. turn-far n cost y v g m s h p f;
  search_far = λ n cost y v g m s p h f. search-far n cost y v g m s p h f;
  path_far = λ n cost y v g m cs start h room. path-far n cost y v g m cs start h room;
}
