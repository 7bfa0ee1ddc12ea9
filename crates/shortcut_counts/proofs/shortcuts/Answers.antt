-- `shortcut_counts::shortcuts` meets its contract.
use mathlib.Core.Path.{◌≡◌, refl, sym, ◌∙◌}
use mathlib.Core.Bool.{true, false, ◌&&◌}
use Prim.Native.Nat.{ℕ, ◌-◌, ◌*◌, ◌^◌, ◌<◌, ◌≤◌}
use native.Mathlib.Omega.{arith}
use lib.Dec.{ltb}
use borrow.Author.Tests.{ltb-true}
use Rattle.lapjv_walk.proofs.Cases.{and_left, and_right}
use Rattle.shortcut_counts.specs.Counted.{shortcuts, assignments, is_small, Counted}
use Rattle.shortcut_counts.specs.Placements.{placements}
use Rattle.shortcut_counts.proofs.Shares.{placements-shortcuts, figures-add, placements-most}
use Rattle.shortcut_counts.proofs.Columns.{at-most-16}
use Rattle.shortcut_counts.proofs.shortcuts.Goals as goal
use Rattle.shortcut_counts.proofs.shortcuts.Goals.{After-count_placements-shortcut}

ranges : (r c : ℕ) → is_small r c ≡ true → (r < 5) × (c < 5)
ranges r c e = (
  ltb-true r 5 (and_right (ltb 0 r) (ltb r 5) (and_left (ltb 0 r && ltb r 5) (ltb 0 c && ltb c 5) e)),
  ltb-true c 5 (and_right (ltb 0 c) (ltb c 5) (and_right (ltb 0 r && ltb r 5) (ltb 0 c && ltb c 5) e)),
)

counted : (r c w t : ℕ) → is_small r c ≡ true → w ≡ placements r c 0 → t ≡ 2 ^ (r * c) → Counted r c (w - 1) (t - (w - 1))
counted r c w t e f g = record { shortcut = rw e one; assignment = rw e two }
  where
    one : w - 1 ≡ shortcuts r c
    one = omega (arith, f, placements-shortcuts r c)

    two : t - (w - 1) ≡ assignments r c
    two = omega (arith, f, g, placements-shortcuts r c, figures-add r c)

other-size : (r c : ℕ) → is_small r c ≡ false → Counted r c 0 0
other-size r c e = record { shortcut = rw e refl; assignment = rw e refl }

pub count_placements-shortcut-requires : goal.count_placements-shortcut-requires
count_placements-shortcut-requires c =
    let s = c.before.before in let h = ranges s.args.rows s.args.columns (sym c.is_small.ensures ∙ c.if-is_small.true) in (h.0, (h.1, omega (arith, h.0)))

pub overflow_sub-shortcut : goal.overflow_sub-shortcut
overflow_sub-shortcut c =
    omega (arith, c.count_placements-shortcut.ensures, placements-shortcuts c.args.rows c.args.columns)

cells : (c : After-count_placements-shortcut) → c.args.rows * c.args.columns ≤ 16
cells c =
    let s = c.before.before.before in
    let h = ranges s.args.rows s.args.columns (sym c.is_small.ensures ∙ c.if-is_small.true) in
    at-most-16 s.args.rows s.args.columns h.0 h.1

pub overflow_mul-rows : goal.overflow_mul-rows
overflow_mul-rows c = omega (arith, cells c)

pub power_of_two-requires : goal.power_of_two-requires
power_of_two-requires c = omega (arith, cells c)

pub overflow_sub-assignment : goal.overflow_sub-assignment
overflow_sub-assignment c =
    let s = c.before.before.before.before in omega (arith, c.count_placements-shortcut.ensures, c.power_of_two.ensures, placements-most s.args.rows s.args.columns 0)

pub returns-then-is_small : goal.returns-then-is_small
returns-then-is_small c =
    let s = c.before.before.before.before in
    counted s.args.rows s.args.columns c.count_placements-shortcut.result c.power_of_two.result (sym c.is_small.ensures ∙ c.if-is_small.true) c.count_placements-shortcut.ensures c.power_of_two.ensures

pub returns : goal.returns
returns c =
    let s = c.before.before in other-size s.args.rows s.args.columns (sym c.is_small.ensures ∙ c.if-is_small.false)
