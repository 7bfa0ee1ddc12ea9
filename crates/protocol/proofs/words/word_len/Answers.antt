-- `protocol::words::word_len` meets its contract.
use Rattle.std.proofs.Common.{length, ap, ◌∙◌}
use Rattle.std.specs.Option.{unwrap_or}
use Rattle.protocol.proofs.Split.{unwrap_or-position}
use Rattle.protocol.proofs.words.word_len.Goals as goal

pub returns : goal.returns
returns c =
    let text = c.args.text.now in
    c.unwrap_or.ensures ∙ ap (λ o. unwrap_or o (length text)) c.first_blank.ensures ∙ unwrap_or-position text
