use Rattle.std.proofs.Common.{◌≡◌, ◌≤◌, length, drop}
use Rattle.protocol.specs.Words.{words_left}
use Rattle.protocol.proofs.words.Words.numbers.Given as goal

abbrev pub invariant-loop-x : goal.invariant-loop-x
invariant-loop-x g l = (l.x-index ≤ length (words_left l.initial.self)) × (words_left l.self ≡ drop l.x-index (words_left l.initial.self))
