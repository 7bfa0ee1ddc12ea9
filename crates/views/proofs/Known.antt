-- What owning a value tells: how long its arrays are. Assumes nothing.
use mathlib.Core.Path.{◌≡◌}
use mathlib.Core.List.{List}
use lib.ListN.{length}
use mir.Val.{Val}
use denote.Laws.{Is}
use Rattle.views.specs.declared.Views.{Views}
use Rattle.views.specs.contracts.Views as Vi

module _ (v : Views) (vs : List Val) (h : Is Vi.the_row v vs) where
  pub boxes-long : length v.boxes ≡ 256
  boxes-long = h.1.1.1.0.1.0.1

  pub directions-long : length v.directions ≡ 128
  directions-long = h.1.1.1.1.0.1.0.1

  pub previous-long : length v.previous ≡ 320
  previous-long = h.1.1.1.1.1.1.0.1.0.1
