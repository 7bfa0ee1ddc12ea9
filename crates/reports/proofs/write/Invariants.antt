-- `reports::write` meets its contract.
use Prim.Native.Nat.{◌+◌, ◌≤◌}
use lib.ListN.{drop}
use Rattle.frame.specs.Frame.{reports_of}
use Rattle.tracks.specs.Tracks.{tracks_in}
use Rattle.reports.specs.Written.{Written}
use Rattle.reports.proofs.write.Given as goal

abbrev pub invariant-loop-i : goal.invariant-loop-i
invariant-loop-i l = (l.n + l.i ≤ l.ts.count) × Written (reports_of l.s l.frames (drop l.i (tracks_in l.ts))) l.n l.initial.boxes l.initial.ids l.boxes l.ids
