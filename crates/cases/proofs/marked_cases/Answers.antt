-- `cases::marked_cases` meets its contract.
use Rattle.cases.proofs.Settled.{settled}
use Rattle.cases.proofs.marked_cases.Goals as goal

pub returns : goal.returns
returns c = settled
