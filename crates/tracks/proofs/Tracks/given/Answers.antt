-- `tracks::Tracks::given` meets its contract.
use borrow.Author.Rules.{rules}
use mathlib.Core.Path.{◌≡◌}
use native.Mathlib.Omega.{arith}
use lib.ListN.{length}
use Rattle.tracks.proofs.Table.{given-room, given-turn}
use Rattle.tracks.proofs.Known.{tracks-long}
use Rattle.tracks.proofs.Tracks.given.Goals as goal

pub push-requires : goal.push-requires
push-requires c =
    let a = c.args in
    let l = c.loop-i in
    given-room a.delta_t a.self.table a.grants l.i l.out l.invariant (omega arith)

pub loop-i-preserved : goal.loop-i-preserved
loop-i-preserved c =
    let a = c.args in
    let l = c.loop-i in
    let long : length a.self.table ≡ 64 = tracks-long a.self _ c.well_formed.0 in
    let many : length a.grants ≡ 64 = search rules in
    given-turn a.delta_t a.self.table a.grants l.i _ _ l.out _ c.give.result l.invariant (omega arith) (omega arith) (omega arith) c.give.ensures c.push.ensures
