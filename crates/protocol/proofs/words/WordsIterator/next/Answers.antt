-- `protocol::words::Words::next` meets its contract.
use Rattle.std.proofs.Common.{length, ap, ◌∙◌, arith, rules}
use Rattle.protocol.specs.Blank.{words_behind}
use Rattle.protocol.proofs.Split.{position_or_len-within, words_of-cut}
use Rattle.protocol.proofs.words.WordsIterator.next.Goals as goal

pub split_at-requires : goal.split_at-requires
split_at-requires c = omega (arith, position_or_len-within c.in_ok-text.text.now, c.word_len.ensures)

pub returns-clause-steps : goal.returns-clause-steps
returns-clause-steps c =
    let cut = words_of-cut c.in_ok-text.text.now _ _ _ c.word_len.ensures c.split_at.ensures.front c.split_at.ensures.back in
    ap words_behind c.in_ok-text.ensures.cases.0 ∙ cut

pub returns-clause-goes : goal.returns-clause-goes
returns-clause-goes c =
    let cut = words_of-cut c.in_ok-text.text.now _ _ _ c.word_len.ensures c.split_at.ensures.front c.split_at.ensures.back in
    let shorter = ap length (ap words_behind c.in_ok-text.ensures.cases.0 ∙ cut) in search rules
