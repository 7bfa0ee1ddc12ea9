-- `rules::early` meets its contract.
use borrow.Author.Tests.{eq-eqb, ne_eqb, lt-ltb, le-ltb, le-leb, lt-leb}
use Rattle.frame.specs.Frame.{early}
use Rattle.rules.proofs.early.Goals as goal

pub returns-then-input-ne0 : goal.returns-then-input-ne0
unfolding early
returns-then-input-ne0 c = λ d e₁ e₂ e₃. rw (e₁, e₂, e₃, ne_eqb _ _ c.if-input-ne0.true)

pub returns-then-input-gt320 : goal.returns-then-input-gt320
unfolding early
returns-then-input-gt320 c = λ d e₁ e₂ e₃. rw (e₁, e₂, e₃, eq-eqb _ _ c.if-input-ne0.false, lt-ltb _ _ c.if-input-gt320.true)

pub returns-then-boxes-lt256 : goal.returns-then-boxes-lt256
unfolding early
returns-then-boxes-lt256 c = λ d e₁ e₂ e₃. rw (e₁, e₂, e₃, eq-eqb _ _ c.if-input-ne0.false, le-ltb _ _ c.if-input-gt320.false, lt-ltb _ _ c.if-boxes-lt256.true)

pub returns-then-ids-lt64 : goal.returns-then-ids-lt64
unfolding early
returns-then-ids-lt64 c = λ d e₁ e₂ e₃. rw (e₁, e₂, e₃, eq-eqb _ _ c.if-input-ne0.false, le-ltb _ _ c.if-input-gt320.false, le-ltb _ _ c.if-boxes-lt256.false, lt-ltb _ _ c.if-ids-lt64.true)

pub returns-then-frames-ge1000000 : goal.returns-then-frames-ge1000000
unfolding early
returns-then-frames-ge1000000 c = λ d e₁ e₂ e₃. rw (e₁, e₂, e₃, eq-eqb _ _ c.if-input-ne0.false, le-ltb _ _ c.if-input-gt320.false, le-ltb _ _ c.if-boxes-lt256.false, le-ltb _ _ c.if-ids-lt64.false, le-leb _ _ c.if-frames-ge1000000.true)

pub returns : goal.returns
unfolding early
returns c = λ d e₁ e₂ e₃. rw (e₁, e₂, e₃, eq-eqb _ _ c.if-input-ne0.false, le-ltb _ _ c.if-input-gt320.false, le-ltb _ _ c.if-boxes-lt256.false, le-ltb _ _ c.if-ids-lt64.false, lt-leb _ _ c.if-frames-ge1000000.false)
