-- `lapjv_carr::seat` meets its contract.
use mathlib.Core.Path.{ap, refl, sym, ◌∙◌}
use mathlib.Core.List.{[]}
use Prim.Native.Nat.{ℕ}
use borrow.Author.Rules.{rules}
use lib.ListN.{set}
use Rattle.lapjv_walk.proofs.Turns.{carr≡, seat-again, seat-back, seat-empty}
use Rattle.lapjv_carr.proofs.seat.Goals as goal

pub returns-then-free_at : goal.returns-then-free_at
returns-then-free_at c =
    let arg = c.args in
    λ t.
    seat-empty arg.i arg.j [] (record { rows = arg.rows.now; current = arg.turn.current; fresh = arg.turn.fresh; turn = t; x = arg.x.now; y = arg.y.now; v = [] }) arg.again (sym c.free_at.ensures ∙ c.if-free_at.true)
    ∙ carr≡ refl refl refl refl (sym c.put_mark.ensures) (sym c.put_mark-then-free_at.ensures) refl

pub index_at-out-requires : goal.index_at-out-requires
index_at-out-requires c = (search rules, search rules, sym c.free_at.ensures ∙ c.if-free_at.false)

pub returns-then-again : goal.returns-then-again
returns-then-again c =
    let arg = c.args in
    λ t.
    seat-again arg.i arg.j [] (record { rows = arg.rows.now; current = arg.turn.current; fresh = arg.turn.fresh; turn = t; x = arg.x.now; y = arg.y.now; v = [] }) arg.again (sym c.free_at.ensures ∙ c.if-free_at.false) c.if-again.true
    ∙ carr≡ (ap (λ (z : ℕ). set arg.rows.now arg.turn.current z) (sym c.index_at-out.ensures)) refl refl refl (sym c.put_mark.ensures) (sym c.put_mark-2.ensures) refl

pub returns : goal.returns
returns c =
    let arg = c.args in
    λ t.
    seat-back arg.i arg.j [] (record { rows = arg.rows.now; current = arg.turn.current; fresh = arg.turn.fresh; turn = t; x = arg.x.now; y = arg.y.now; v = [] }) arg.again (sym c.free_at.ensures ∙ c.if-free_at.false) c.if-again.false
    ∙ carr≡ (ap (λ (z : ℕ). set arg.rows.now arg.turn.fresh z) (sym c.index_at-out.ensures)) refl refl refl (sym c.put_mark.ensures) (sym c.put_mark-2.ensures) refl
