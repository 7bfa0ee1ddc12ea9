use Rattle.std.proofs.Common.{◌≡◌, ◌+◌, length}
use Rattle.protocol.specs.Words.{words_left}
use Rattle.protocol.proofs.words.Words.fill.Given as goal

abbrev pub invariant-loop-word : goal.invariant-loop-word
invariant-loop-word g l = l.n + length (words_left l.word-iterator) ≡ length (words_left l.fn.self)
