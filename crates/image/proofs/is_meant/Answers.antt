-- `image::is_meant` meets its contract.
use borrow.Author.Rules.{rules}
use mathlib.Core.Path.{sym, ◌∙◌}
use native.Mathlib.Omega.{arith}
use lib.ListN.{get_or}
use Rattle.image.specs.Image.{tagged, meant_track, cell_at}
use Rattle.image.proofs.Tested.{and-true, every-turn, meant-done}
use Rattle.image.proofs.is_meant.Goals as goal

pub loop-k-init : goal.loop-k-init
loop-k-init c = (search rules, c.is_tag-ok.ensures ∙ sym (and-true _))

pub returns-then-count-k : goal.returns-then-count-k
returns-then-count-k c =
    let l = c.loop-k in
    meant-done c.args.i l.k l.ok (omega arith) l.invariant.0 (λ _. c.if-count-k.true) l.invariant.1

pub loop-k-preserved : goal.loop-k-preserved
loop-k-preserved c =
    let l = c.loop-k in
    let i = c.args.i in
    (search rules, every-turn meant_track (tagged (get_or i.words 3 0)) (cell_at i) l.ok _ l.k l.invariant.1 c.is_meant_at-ok.ensures)

pub returns : goal.returns
returns c =
    let l = c.loop-k in
    meant-done c.args.i l.k l.ok (omega arith) l.invariant.0 (λ h. omega (arith, h)) l.invariant.1
