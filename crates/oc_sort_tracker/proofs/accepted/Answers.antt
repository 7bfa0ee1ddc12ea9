-- `oc_sort_tracker::accepted` meets its contract.
use borrow.Author.Rules.{rules}
use Rattle.frame.specs.Contract.{call_of}
use Rattle.frame.proofs.Rules.{sound, ranges}
use Rattle.frame.proofs.Rules.{clear}
use Rattle.oc_sort_tracker.proofs.Agree.{left-short, refused_full, accepted-agree, ready, table-short}
use Rattle.oc_sort_tracker.proofs.accepted.Goals as goal

pub predicted-ts-requires : goal.predicted-ts-requires
predicted-ts-requires c = c.requires.0

pub paired-pairing-requires : goal.paired-pairing-requires
paired-pairing-requires c = (table-short c.args.t _ c.requires.0 c.predicted-ts.ensures, (clear _ (call_of c.args.input.now c.args.boxes.now c.args.ids.now) c.requires.1).input, (ranges _ (sound c.args.t c.requires.0).in-range).delta_t)

pub overflow_add-ts : goal.overflow_add-ts
overflow_add-ts c = let x = table-short c.args.t _ c.requires.0 c.predicted-ts.ensures in let y = left-short c.args.t c.args.input.now _ c.predicted-ts.ensures _ c.paired-pairing.ensures (clear _ (call_of c.args.input.now c.args.boxes.now c.args.ids.now) c.requires.1).input in search (rules, x, y)

pub returns-then-ts-left-gt64 : goal.returns-then-ts-left-gt64
returns-then-ts-left-gt64 c = refused_full c.args.t c.args.input.now _ c.predicted-ts.ensures _ c.paired-pairing.ensures _ _ _ c.if-ts-left-gt64.true c.refused.ensures

pub settled-requires : goal.settled-requires
settled-requires c = ready c.args.t c.args.input.now _ c.predicted-ts.ensures _ c.paired-pairing.ensures (call_of c.args.input.now c.args.boxes.now c.args.ids.now) c.requires.0 c.requires.1 c.if-ts-left-gt64.false

pub returns : goal.returns
returns c = accepted-agree c.args.t c.args.input.now _ c.predicted-ts.ensures _ c.paired-pairing.ensures _ _ _ _ _ c.if-ts-left-gt64.false c.settled.ensures
