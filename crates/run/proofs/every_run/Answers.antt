-- `run::every_run` meets its contract: the claim is proved in EveryRun. Assumes nothing.
use Rattle.run.proofs.EveryRun.{every-run}
use Rattle.run.proofs.every_run.Goals as goal

-- src/lib.rt:7:1
pub returns : goal.returns
returns c = every-run
