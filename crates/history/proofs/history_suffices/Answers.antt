-- `history::history_suffices` meets its contract: the claim is proved in Rules.
use Rattle.history.proofs.Rules.{suffices}
use Rattle.history.proofs.history_suffices.Goals as goal

pub returns : goal.returns
returns c = suffices
