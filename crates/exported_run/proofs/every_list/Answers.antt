-- `exported_run::every_list` meets its contract: the claim is proved in EveryList. Assumes nothing.
use Rattle.exported_run.proofs.EveryList.{every-list}
use Rattle.exported_run.proofs.every_list.Goals as goal

-- src/lib.rt:7:1
pub returns : goal.returns
returns c = every-list
