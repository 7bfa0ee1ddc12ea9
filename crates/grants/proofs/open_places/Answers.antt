-- `grants::open_places` meets its contract.
use mathlib.Core.Path.{◌≡◌, sym, ap, ◌∙◌}
use mathlib.Core.Bool.{not, not-not}
use native.Mathlib.Omega.{arith}
use Rattle.grants.specs.Grants.{open_in}
use Rattle.grants.proofs.Opening.{room, turn}
use Rattle.grants.proofs.open_places.Goals as goal

pub loop-j-init : goal.loop-j-init
unfolding open_in
loop-j-init c = c.no_places-out.ensures

pub push_place-out-requires : goal.push_place-out-requires
push_place-out-requires c = room c.args.grants c.loop-j.j c.loop-j.out c.loop-j.invariant (omega arith)

pub loop-j-preserved : goal.loop-j-preserved
loop-j-preserved c = turn c.args.grants c.loop-j.j c.loop-j.out c.push_place-out.result c.is_none.result c.loop-j.invariant (sym (not-not c.is_none.result) ∙ ap not (sym c.is_none.ensures)) c.push_place-out.ensures (omega arith)

pub returns : goal.returns
returns c = let e : c.loop-j.j ≡ c.args.count = omega arith in rw e at c.loop-j.invariant
