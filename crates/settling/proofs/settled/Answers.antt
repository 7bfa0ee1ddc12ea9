-- `settling::settled` meets its contract.
use borrow.Author.Rules.{rules}
use mathlib.Core.Path.{refl}
use native.Mathlib.Omega.{arith}
use Rattle.settling.proofs.Tables.{canonical, room, all_short, all-low, answered}
use Rattle.settling.proofs.settled.Goals as goal

pub given-given-requires : goal.given-given-requires
given-given-requires c = (search rules, (search rules, c.requires.tracks))

pub born-all-requires : goal.born-all-requires
born-all-requires c = (canonical _ _ c.given-given.ensures, (room c.args.t c.args.ts c.args.grants c.args.left _ _ c.requires _ c.given-given.ensures, omega (arith, c.requires.issued)))

pub write-reported-requires : goal.write-reported-requires
write-reported-requires c = (all_short c.args.t c.args.ts c.args.grants c.args.left _ _ c.requires _ _ c.given-given.ensures c.born-all.ensures, (search rules, (search rules, all-low c.args.t c.args.ts c.args.grants c.args.left _ _ c.requires _ _ c.given-given.ensures c.born-all.ensures)))

pub aged-young-requires : goal.aged-young-requires
aged-young-requires c = all_short c.args.t c.args.ts c.args.grants c.args.left _ _ c.requires _ _ c.given-given.ensures c.born-all.ensures

pub returns : goal.returns
returns c = answered c.args.t c.args.ts c.args.grants c.args.left _ _ c.requires _ _ c.given-given.ensures c.born-all.ensures _ _ _ _ _ _ _ c.aged-young.ensures c.write-reported.ensures refl
