use Rattle.std.specs.Prelude.{ℕ, List}
use Rattle.protocol.specs.Blank.{words_behind}
use Rattle.protocol.specs.declared.words.Words.{Words}

-- the words still to come
abbrev pub words_left : Words → List (List ℕ)
words_left w = words_behind w.rest.now
