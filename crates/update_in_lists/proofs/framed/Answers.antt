-- `update_in_lists::framed` meets its contract.
use mathlib.Core.Path.{sym, ap, subst, ◌∙◌}
use Prim.Native.Nat.{ℕ, ◌≤◌}
use native.Mathlib.Omega.{arith}
use lib.ListN.{length-replicate}
use Rattle.std.proofs.lemmas.Result.{err_from_is_err_and}
use Rattle.image.specs.Image.{thaw_tracker}
use Rattle.views.specs.declared.Views.{Views}
use Rattle.frame_in_lists.proofs.Testing.{bad-totals}
use Rattle.frame_in_lists.proofs.Looking.{looked-first, looked-count, looked-delta, looked-few, looked-long, looked-failed, looked-left, looked-taken}
use Rattle.update_in_lists.proofs.Stepping.{unusable}
use Rattle.update_in_lists.proofs.Settling.{looked-as, is-clear, early-refused, opened, opened-few, opened-left, full-refused, opened-paired, giving-first, giving-few, giving-ahead, can-give, giving-taken, giving-left, giving-as, giving-done, bearing-first, bearing-room, bearing-ids, bearing-long, bearing-turn, bearing-done, telling-first, telling-live, telling-boxes, telling-ids, can-tell, telling-turn, telling-done}
use Rattle.update_in_lists.proofs.framed.Goals as goal

pub returns-then-not-are_totals_usable : goal.returns-then-not-are_totals_usable
returns-then-not-are_totals_usable c = unusable _ _ _ _ (bad-totals _ (sym c.are_totals_usable.ensures ∙ c.if-not-are_totals_usable.true))

pub loop-u-init : goal.loop-u-init
loop-u-init c = looked-first _ _ _ _ (c.settings_in-s.ensures _) (sym c.are_totals_usable.ensures ∙ c.if-not-are_totals_usable.false) (length-replicate 64 c.blank-blank.result) c.nan-nan.ensures

pub ahead_at-requires : goal.ahead_at-requires
ahead_at-requires c = (omega (arith, looked-count c.loop-u.invariant, c.loop-u-test.true), c.loop-u.invariant.fit)

pub returns-in_err-a : goal.returns-in_err-a
returns-in_err-a c =
    let p = err_from_is_err_and c.from_residual.result c.from_residual.ensures.1 in
    let f = looked-failed c.loop-u.invariant c.loop-u-test.true c.in_err-a.ensures in
    rw (p.1, p.2, f.0) (unusable _ _ _ _ f.1)

pub offset_bounds-table-ahead : goal.offset_bounds-table-ahead
offset_bounds-table-ahead c = omega (arith, looked-count c.loop-u.invariant, looked-few c.loop-u.invariant, c.loop-u-test.true)

pub bounds-table-ahead : goal.bounds-table-ahead
bounds-table-ahead c = omega (arith, looked-count c.loop-u.invariant, looked-few c.loop-u.invariant, c.loop-u-test.true)

pub slice_bounds-put_view-end : goal.slice_bounds-put_view-end
slice_bounds-put_view-end c = sym (looked-long c.loop-u.invariant).0

pub slice_bounds-put_view-end-in-Ok : goal.slice_bounds-put_view-end-in-Ok
slice_bounds-put_view-end-in-Ok c = sym (looked-long c.loop-u.invariant).1

pub slice_bounds-put_view-end-in-Ok-2 : goal.slice_bounds-put_view-end-in-Ok-2
slice_bounds-put_view-end-in-Ok-2 c = sym (looked-long c.loop-u.invariant).2

pub slice_bounds-put_view-end-in-Ok-3 : goal.slice_bounds-put_view-end-in-Ok-3
slice_bounds-put_view-end-in-Ok-3 c = sym (looked-long c.loop-u.invariant).3

pub put_view-requires : goal.put_view-requires
put_view-requires c =
    let l = c.loop-u.invariant in
    (omega (arith, looked-count l, looked-few l, c.loop-u-test.true), looked-delta l, (looked-long l).0, (looked-long l).1, (looked-long l).2, (looked-long l).3)

pub overflow_add-ahead : goal.overflow_add-ahead
overflow_add-ahead c = omega (arith, looked-count c.loop-u.invariant, looked-few c.loop-u.invariant, c.loop-u-test.true)

pub loop-u-preserved : goal.loop-u-preserved
loop-u-preserved c =
    let l = c.loop-u.invariant in
    let b = c.loop-u-test.true in
    let a = c.in_ok-a.ensures in
    elim c.match-a.branch [
      | goal.in-Ok w ↦ looked-as w.table-is w.seen-is w.steps-is w.lasts-is w.olds-is w.ahead-is (looked-taken l b a w.in-Ok.is w.put_view.ensures)
      | goal.in_default w ↦ looked-as w.table-is w.seen-is w.steps-is w.lasts-is w.olds-is w.ahead-is (looked-left l b a w.in_default.is)
    ]

pub returns-in_err-early : goal.returns-in_err-early
returns-in_err-early c =
    let a = c.args in
    let p = err_from_is_err_and c.from_residual-in_err-early.result c.from_residual-in_err-early.ensures.1 in
    rw (p.1, p.2) (early-refused c.loop-u.invariant (omega arith) a.input.now a.boxes.now a.ids.now c.in_err-early.ensures)

pub paired_by-pairing-requires : goal.paired_by-pairing-requires
paired_by-pairing-requires c =
    let a = c.args in
    let o = opened c.loop-u.invariant (omega arith) a.input.now a.boxes.now a.ids.now c.in_ok-early.ensures c.views_with-v.ensures in
    (subst (λ (k : ℕ). k ≤ 64) (sym (ap (λ (v : Views). v.n) c.views_with-v.ensures)) (opened-few o), (is-clear o.on).input)

pub overflow_add-ahead-2 : goal.overflow_add-ahead-2
overflow_add-ahead-2 c =
    let a = c.args in
    let o = opened c.loop-u.invariant (omega arith) a.input.now a.boxes.now a.ids.now c.in_ok-early.ensures c.views_with-v.ensures in
    omega (arith, opened-few o, opened-left o c.paired_by-pairing.result c.paired_by-pairing.ensures)

pub returns-then-ahead-born-gt64 : goal.returns-then-ahead-born-gt64
returns-then-ahead-born-gt64 c =
    let a = c.args in
    let o = opened c.loop-u.invariant (omega arith) a.input.now a.boxes.now a.ids.now c.in_ok-early.ensures c.views_with-v.ensures in
    full-refused o c.paired_by-pairing.result c.paired_by-pairing.ensures c.if-ahead-born-gt64.true

pub loop-g-init : goal.loop-g-init
loop-g-init c =
    let a = c.args in
    let o = opened c.loop-u.invariant (omega arith) a.input.now a.boxes.now a.ids.now c.in_ok-early.ensures c.views_with-v.ensures in
    giving-first (opened-paired o c.paired_by-pairing.result c.paired_by-pairing.ensures c.if-ahead-born-gt64.false) o.holds

pub offset_bounds-table-g : goal.offset_bounds-table-g
offset_bounds-table-g c = omega (arith, giving-ahead c.loop-g.invariant, c.loop-g-test.true)

pub bounds-table-g : goal.bounds-table-g
bounds-table-g c = omega (arith, giving-ahead c.loop-g.invariant, c.loop-g-test.true)

pub offset_bounds-grants-g : goal.offset_bounds-grants-g
offset_bounds-grants-g c = omega (arith, giving-ahead c.loop-g.invariant, c.loop-g-test.true)

pub bounds-grants-g : goal.bounds-grants-g
bounds-grants-g c = omega (arith, giving-ahead c.loop-g.invariant, c.loop-g-test.true)

pub give-e-requires : goal.give-e-requires
give-e-requires c = can-give c.loop-g.invariant _ c.loop-g-test.true

pub offset_bounds-table-young : goal.offset_bounds-table-young
offset_bounds-table-young c = omega (arith, giving-ahead c.loop-g.invariant, giving-few c.loop-g.invariant, c.loop-g-test.true)

pub bounds-table-young : goal.bounds-table-young
bounds-table-young c = omega (arith, giving-ahead c.loop-g.invariant, giving-few c.loop-g.invariant, c.loop-g-test.true)

pub overflow_add-young : goal.overflow_add-young
overflow_add-young c = omega (arith, giving-ahead c.loop-g.invariant, giving-few c.loop-g.invariant, c.loop-g-test.true)

pub loop-g-preserved : goal.loop-g-preserved
loop-g-preserved c =
    let l = c.loop-g.invariant in
    let e = c.give-e.ensures in
    let b = c.is_young.ensures in
    elim c.if-is_young.branch [
      | goal.then-is_young w ↦ giving-as (giving-taken l _ c.loop-g-test.true _ e (sym b ∙ w.if-is_young.true)) w.table-is w.young-is
      | goal.else-is_young w ↦ giving-as (giving-left l _ c.loop-g-test.true _ e (sym b ∙ w.if-is_young.false)) w.table-is w.young-is
    ]

pub loop-b-init : goal.loop-b-init
loop-b-init c = bearing-first c.loop-g.invariant.paired (giving-done c.loop-g.invariant (omega arith))

pub slice_bounds-detection_at-end : goal.slice_bounds-detection_at-end
slice_bounds-detection_at-end c = sym (bearing-long c.loop-b.invariant)

pub detection_at-d-requires : goal.detection_at-d-requires
detection_at-d-requires c =
    let l = c.loop-b.invariant in
    omega (arith, bearing-long l, bearing-room l, c.loop-b-test.true)

pub overflow_add-issued : goal.overflow_add-issued
unfolding thaw_tracker
overflow_add-issued c = omega (arith, bearing-ids c.loop-b.invariant, c.loop-b-test.true)

pub overflow_add-table : goal.overflow_add-table
overflow_add-table c = omega (arith, bearing-room c.loop-b.invariant, c.loop-b-test.true)

pub offset_bounds-table-young-in-loop-b : goal.offset_bounds-table-young-in-loop-b
offset_bounds-table-young-in-loop-b c = omega (arith, bearing-room c.loop-b.invariant, c.loop-b-test.true)

pub bounds-table-young-in-loop-b : goal.bounds-table-young-in-loop-b
bounds-table-young-in-loop-b c = omega (arith, bearing-room c.loop-b.invariant, c.loop-b-test.true)

pub loop-b-preserved : goal.loop-b-preserved
unfolding thaw_tracker
loop-b-preserved c = bearing-turn c.loop-b.invariant c.loop-b-test.true c.detection_at-d.ensures c.birth-e.ensures

pub overflow_add-live : goal.overflow_add-live
overflow_add-live c = omega (arith, bearing-room c.loop-b.invariant)

pub loop-r-init : goal.loop-r-init
loop-r-init c = telling-first c.loop-b.invariant.paired (bearing-done c.loop-b.invariant (omega arith))

pub offset_bounds-table-r : goal.offset_bounds-table-r
offset_bounds-table-r c = omega (arith, telling-live c.loop-r.invariant, c.loop-r.invariant.reached, c.loop-r-test.true)

pub bounds-table-r : goal.bounds-table-r
bounds-table-r c = omega (arith, telling-live c.loop-r.invariant, c.loop-r.invariant.reached, c.loop-r-test.true)

pub overflow_add-frames : goal.overflow_add-frames
unfolding thaw_tracker
overflow_add-frames c = omega (arith, (is-clear c.loop-r.invariant.paired.on).not-over)

pub tell-reported-requires : goal.tell-reported-requires
tell-reported-requires c = can-tell c.loop-r.invariant _ c.loop-r-test.true

pub put_track-requires : goal.put_track-requires
put_track-requires c = omega (arith, telling-live c.loop-r.invariant, c.loop-r.invariant.reached, c.loop-r-test.true)

pub loop-r-preserved : goal.loop-r-preserved
unfolding thaw_tracker
loop-r-preserved c = telling-turn c.loop-r.invariant _ c.loop-r-test.true c.tell-reported.ensures c.put_track.ensures

pub overflow_add-issued-2 : goal.overflow_add-issued-2
unfolding thaw_tracker
overflow_add-issued-2 c = omega (arith, bearing-ids c.loop-b.invariant)

pub overflow_add-frames-2 : goal.overflow_add-frames-2
unfolding thaw_tracker
overflow_add-frames-2 c = omega (arith, (is-clear c.loop-r.invariant.paired.on).not-over)

pub close-requires : goal.close-requires
close-requires c = omega (arith, telling-live c.loop-r.invariant)

pub shape_of-boxes : goal.shape_of-boxes
shape_of-boxes c = telling-boxes c.loop-r.invariant

pub shape_of-ids : goal.shape_of-ids
shape_of-ids c = telling-ids c.loop-r.invariant

pub returns : goal.returns
returns c = telling-done c.loop-r.invariant (omega arith) c.close.ensures
