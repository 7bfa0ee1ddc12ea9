-- `from_image::thaw` meets its contract.
use borrow.Author.Rules.{rules}
use mathlib.Core.Path.{refl, ◌∙◌}
use native.Mathlib.Omega.{arith}
use Rattle.lists.proofs.Tab.{tab-fill}
use Rattle.image.specs.Image.{thaw_track, cell_at, thaw_tracker}
use Rattle.from_image.proofs.Reading.{tab-all, map-tab}
use Rattle.from_image.proofs.thaw.Goals as goal

pub loop-k-init : goal.loop-k-init
loop-k-init c = refl

pub loop-k-preserved : goal.loop-k-preserved
loop-k-preserved c =
    let l = c.loop-k in
    tab-fill _ c.track_at.result _ l.table l.k _ l.invariant c.track_at.ensures (search rules)

pub returns : goal.returns
unfolding thaw_tracker
returns c =
    let l = c.loop-k in
    let i = c.args.i in
    rw (c.settings_in.ensures i.wide, tab-all (λ j. thaw_track (cell_at i j)) _ l.table l.k 64 l.invariant (omega arith) (search rules) ∙ map-tab thaw_track (cell_at i) 64)
