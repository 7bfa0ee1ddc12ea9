-- `reports::write` meets its contract.
use mathlib.Core.Path.{◌≡◌}
use Prim.Native.Nat.{◌-◌}
use native.Mathlib.Omega.{arith}
use lib.ListN.{length, drop}
use Rattle.frame.specs.Frame.{reports_of}
use Rattle.tracks.specs.Tracks.{tracks_in}
use Rattle.tracks.proofs.Rules.{every-taken}
use Rattle.tracks.proofs.Known.{tracks-long}
use Rattle.reports.specs.Written.{low_id}
use Rattle.reports.proofs.Writing.{none_told, few-told, nothing_written, boxes-long, ids-long, turn}
use Rattle.reports.proofs.write.Goals as goal

pub loop-i-init : goal.loop-i-init
loop-i-init c =
    let a = c.args in
    (omega arith, rw (none_told a.s a.frames a.ts a.boxes.now a.ids.now) (nothing_written a.boxes.now a.ids.now))

pub report_if-n-requires : goal.report_if-n-requires
report_if-n-requires c =
    let s = c in
    let a = s.args in
    let l = c.loop-i in
    let long : length a.ts.table ≡ 64 = tracks-long a.ts _ s.well_formed.1.1.0 in (
      omega (arith, boxes-long a.boxes.now a.ids.now (reports_of a.s a.frames (drop l.i (tracks_in a.ts))) l.n l.boxes l.ids l.invariant.1 (omega arith)),
      (
        omega (arith, ids-long a.boxes.now a.ids.now (reports_of a.s a.frames (drop l.i (tracks_in a.ts))) l.n l.boxes l.ids l.invariant.1 (omega arith)),
        every-taken low_id a.ts.table a.ts.count _ _ s.requires.1.1.1 (omega arith) (omega arith),
      ),
    )

pub loop-i-preserved : goal.loop-i-preserved
loop-i-preserved c =
    let s = c in
    let a = s.args in
    let l = c.loop-i in
    let long : length a.ts.table ≡ 64 = tracks-long a.ts _ s.well_formed.1.1.0 in
    let r = c.report_if-n in
    let w = turn a.s a.frames a.ts a.boxes.now a.ids.now l.i _ c.is_reported.result l.n r.result l.boxes _ l.ids _ (omega arith) (omega arith) (omega arith) long (omega arith) (omega arith) l.invariant.1 c.is_reported.ensures r.ensures.0 r.ensures.1.0 r.ensures.1.1 in
    (few-told a.s a.frames a.ts a.boxes.now a.ids.now (l.i - 1) r.result _ _ w (omega arith), w)

pub shape_of-boxes : goal.shape_of-boxes
shape_of-boxes c =
    let a = c.args in
    let l = c.loop-i in
    boxes-long a.boxes.now a.ids.now (reports_of a.s a.frames (drop l.i (tracks_in a.ts))) l.n l.boxes l.ids l.invariant.1 (omega arith)

pub shape_of-ids : goal.shape_of-ids
shape_of-ids c =
    let a = c.args in
    let l = c.loop-i in
    ids-long a.boxes.now a.ids.now (reports_of a.s a.frames (drop l.i (tracks_in a.ts))) l.n l.boxes l.ids l.invariant.1 (omega arith)

pub returns : goal.returns
returns c =
    let a = c.args in
    let l = c.loop-i in
    let e : l.i ≡ 0 = omega arith in
    rw e at l.invariant.1
